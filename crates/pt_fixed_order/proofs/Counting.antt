-- Lists of readings, and lists with one member changed.
use Rattle.std.proofs.Common.{◌≡◌, ◌≢◌, ℕ, ◌<◌, ◌^◌, List, [], ◌∷◌, ◌++◌, Option, Some, None, refl, sym, ap, subst, ◌∙◌, arith, eq-eqb}
use Rattle.std.proofs.lemmas.Bool.{cond-true, cond-false, ne_eqb}
use Rattle.pt_semantics.specs.Readings.{greatest_of, later_of}
use Rattle.pt_turn.specs.Platforms.{raised_to}
use Rattle.pt_fixed_order_laws.specs.SoFar.{with_reading}
use Rattle.pt_fixed_order.specs.Between.{IsLastOf}

pub with_here : (readings : ℕ → List ℕ) (j r : ℕ) → with_reading readings j r j ≡ readings j ++ r ∷ []
with_here readings j r = cond-true _ (readings j ++ r ∷ []) (readings j) (eq-eqb j j refl)

pub with_there : (readings : ℕ → List ℕ) (j r k : ℕ) → k ≢ j → with_reading readings j r k ≡ readings k
with_there readings j r k ne = cond-false _ (readings j ++ r ∷ []) (readings k) (ne_eqb k j ne)

pub greatest_push : (p : ℕ) (readings : List ℕ) (r : ℕ) → greatest_of p (readings ++ r ∷ []) ≡ later_of (greatest_of p readings) r
greatest_push p [] r = refl
greatest_push p (q ∷ readings) r = greatest_push (later_of p q) readings r

from_nothing : (r : ℕ) → later_of 0 r ≡ r
from_nothing r = grind arith

-- a reading raised to a platform's last one is raised to the greatest before
pub raised_is : (readings : List ℕ) (last : Option ℕ) (r : ℕ) → IsLastOf readings last → raised_to last r ≡ later_of (greatest_of 0 readings) r
raised_is readings None r h = sym (ap (λ z. later_of (greatest_of 0 z) r) h ∙ from_nothing r)
raised_is readings (Some p) r h = ap (λ z. later_of z r) h.0

later_small : (p r : ℕ) → p < 2 ^ 64 → r < 2 ^ 64 → later_of p r < 2 ^ 64
later_small p r a b = grind arith

pub raised_small : (readings : List ℕ) (last : Option ℕ) (r : ℕ) → IsLastOf readings last → r < 2 ^ 64 → raised_to last r < 2 ^ 64
raised_small readings None r h lt = lt
raised_small readings (Some p) r h lt = later_small p r h.1 lt

pub last_more : (readings : List ℕ) (last new : Option ℕ) (r : ℕ) → IsLastOf readings last → r < 2 ^ 64 → new ≡ Some (raised_to last r) → IsLastOf (readings ++ r ∷ []) new
last_more readings last new r h lt e = subst (IsLastOf (readings ++ r ∷ [])) (sym e) (raised_is readings last r h ∙ sym (greatest_push 0 readings r), raised_small readings last r h lt)
