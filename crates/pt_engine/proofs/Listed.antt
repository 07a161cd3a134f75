-- Lists, one item after another.
use Rattle.std.proofs.Common.{◌≡◌, ℕ, zero, suc, ◌+◌, ◌<◌, ◌≢◌, List, [], ◌∷◌, ◌++◌, Some, length, replicate, slice_get, arith, sym, refl, ap, ap₂, subst, ◌∙◌, ⊎_elim}
use Rattle.std.proofs.lemmas.List.{map-append, replicate-append-replicate}
use Rattle.std.specs.Global.{Vec}
use Rattle.pt_types.specs.declared.firing.Done.{Done}
use Rattle.pt_semantics.proofs.Lookups.{none_some, same_some}
use Rattle.pt_laws.proofs.Onward.{cases_same}
use Rattle.pt_engine.specs.Asked.{result_lists}

-- a fact on each member below i and on that at i is a fact on each below i + 1
pub one_more : {X : Type 0} (P : X → Type 0) (xs : List X) (i : ℕ) (x : X) → slice_get xs i ≡ Some x → P x → ((j : ℕ) (w : X) → j < i → slice_get xs j ≡ Some w → P w) → (j : ℕ) (w : X) → j < i + 1 → slice_get xs j ≡ Some w → P w
one_more P xs i x there here below j w lt at =
    ⊎_elim
    (λ (e : j ≡ i). subst P (same_some x w (sym there ∙ subst (λ k. slice_get xs k ≡ Some w) e at)) here)
    (λ (ne : j ≢ i). below j w (apart j i lt ne) at)
    (cases_same j i)
  where
    apart : (j i : ℕ) → j < i + 1 → j ≢ i → j < i
    apart j i lt ne = omega arith

-- the items of one of several vectors
pub list_at : (vectors : List (Vec Done)) (i : ℕ) (v : Vec Done) → slice_get vectors i ≡ Some v → slice_get (result_lists vectors) i ≡ Some v.items
list_at [] i v e = absurd (none_some v e)
list_at (x ∷ vectors) zero v e = ap (λ (z : Vec Done). Some z.items) (same_some x v e)
list_at (x ∷ vectors) (suc i) v e = list_at vectors i v e

pub one_list_more : (vectors : List (Vec Done)) (v : Vec Done) (n : ℕ) → result_lists vectors ≡ replicate n [] → v.items ≡ [] → result_lists (vectors ++ v ∷ []) ≡ replicate (n + 1) []
one_list_more vectors v n before none =
    map-append (λ (z : Vec Done). z.items) vectors (v ∷ []) ∙ ap₂ (λ (a : List (List Done)) (b : List Done). a ++ b ∷ []) before none ∙ replicate-append-replicate n 1 []

-- a member of a list of empty lists
pub none_in : {X : Type 0} (n i : ℕ) (xs : List X) → slice_get (replicate n []) i ≡ Some xs → xs ≡ []
none_in zero i xs e = absurd (none_some xs e)
none_in (suc n) zero xs e = sym (same_some [] xs e)
none_in (suc n) (suc i) xs e = none_in n i xs e

-- the member at a place
pub member : {X : Type 0} (xs : List X) (i : ℕ) → i < length xs → (x : X) × (slice_get xs i ≡ Some x)
member [] i lt = absurd (omega arith)
member (x ∷ xs) zero lt = (x, refl)
member (x ∷ xs) (suc i) lt = member xs i (omega arith)
