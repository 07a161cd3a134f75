-- When a platform can close, and the ends that it sends.
use Rattle.std.proofs.Common.{◌≡◌, ℕ, zero, suc, ◌+◌, ◌<◌, ◌≤◌, ◌==◌, ◌↔◌, Bool, true, false, List, [], ◌∷◌, ◌++◌, Option, Some, None, length, take, get_or, slice_get, filter_map, refl, sym, ap, ◌∙◌, ⊎_elim, eq-eqb, ne_eqb, arith, append-nil, if◌then◌else◌}
use Rattle.std.proofs.lemmas.Bool.{false≢true, cond-true}
use Rattle.std.proofs.lemmas.Bool.Decides.{nat_tests}
use Rattle.std.proofs.lemmas.List.Elements.{filter_map-append}
use Rattle.pt_tags.specs.declared.message.Message.{Message}
use Rattle.pt_types.specs.declared.graph.Graph.{Graph}
use Rattle.pt_types.specs.declared.graph.Link.{Link}
use Rattle.pt_types.specs.declared.graph.Unit.{Unit}
use Rattle.pt_types.specs.declared.firing.Task.{Task}
use Rattle.pt_types.specs.declared.firing.OnLink.{OnLink}
use Rattle.pt_types.specs.Ports.{when}
use Rattle.pt_semantics.specs.Lists.{or_else}
use Rattle.pt_types.specs.Lookups.{platform_of}
use Rattle.pt_semantics.specs.Bounds.{bound_of}
use Rattle.pt_semantics.specs.Paced.{IsClosing}
use Rattle.pt_semantics.specs.Closing.{on_link, end_for}
use Rattle.pt_semantics.specs.Units.{same_part}
use Rattle.pt_semantics.proofs.Lookups.{none_some, same_part-refl}
use Rattle.pt_turn.specs.declared.state.fields.OpenClaim.{OpenClaim}
use Rattle.pt_turn.specs.Fields.State.{busy_in}
use Rattle.pt_turn.specs.Closes.Ends.{ended_on}

-- a mixed list with one message more
on_more : (xs : List OnLink) (m : OnLink) (k : ℕ) → on_link k (xs ++ m ∷ []) ≡ (if k == m.link then on_link k xs ++ m.message ∷ [] else on_link k xs)
on_more xs m k =
    filter_map-append (λ (x : OnLink). when (x.link == k) (Some x.message)) xs (m ∷ [])
    ∙ ap (λ b. on_link k xs ++ filter_map (λ (x : Message). when b (Some x)) (m.message ∷ [])) (flip m.link k)
    ∙ one (k == m.link)
  where
    flip : (m n : ℕ) → (m == n) ≡ (n == m)
    flip m n = grind (arith, nat_tests)

    one : (b : Bool) → on_link k xs ++ filter_map (λ (x : Message). when b (Some x)) (m.message ∷ []) ≡ (if b then on_link k xs ++ m.message ∷ [] else on_link k xs)
    one true = refl
    one false = append-nil (on_link k xs)

pub closing_bounds : (g : Graph) (i c r : ℕ) → IsClosing g i c → c ≤ r → (x b : ℕ) → platform_of g x ≡ i → bound_of g x ≡ Some b → g.until + b < r
closing_bounds g i c r is le = λ x b home bound. ⊎_elim
    (λ (none : (c ≡ 0) × ((a d : ℕ) → platform_of g a ≡ i → bound_of g a ≡ Some d → ⊥)). absurd (none.1 x b home bound))
    (λ (some : ((a d : ℕ) × (platform_of g a ≡ i) × (bound_of g a ≡ Some d) × (c ≡ g.until + d + 1)) × ((a d : ℕ) → platform_of g a ≡ i → bound_of g a ≡ Some d → g.until + d + 1 ≤ c)). let k : g.until + b + 1 ≤ c = some.1 x b home bound in omega arith)
    is

some_or : (b : Bool) (task : Task) (rest : Option Task) → b ≡ true → or_else (when b (Some task)) rest ≡ Some task
some_or true task rest h = refl
some_or false task rest h = absurd (false≢true h)

pub empty_opens : (xs : List OpenClaim) (n : ℕ) (b : Bool) → n ≡ length xs → b ≡ (n == 0) → (b ≡ true) ↔ ((u : Unit) → busy_in xs u ≡ None)
empty_opens [] n b len is = (λ e u. refl, λ h. is ∙ eq-eqb n 0 len)
empty_opens (o ∷ os) n b len is = (
  λ y. absurd (false≢true (sym (is ∙ ne_eqb n 0 (λ z. absurd (omega arith))) ∙ y)),
  λ h. absurd (none_some o.task (sym (h o.unit) ∙ some_or (same_part o.unit o.unit) o.task (busy_in os o.unit) (same_part-refl o.unit))),
)

cons_nil : (m : Message) (ms : List Message) → m ∷ ms ≡ [] → ⊥
cons_nil m ms h = cc

pub empty_box : (xs : List OnLink) (n : ℕ) (b : Bool) → n ≡ length xs → b ≡ (n == 0) → (b ≡ true) ↔ ((l : ℕ) → on_link l xs ≡ [])
empty_box [] n b len is = (λ e l. refl, λ h. is ∙ eq-eqb n 0 len)
empty_box (x ∷ xs) n b len is = (
  λ y. absurd (false≢true (sym (is ∙ ne_eqb n 0 (λ z. absurd (omega arith))) ∙ y)),
  λ h. absurd (cons_nil x.message (on_link x.link xs)
      (sym (filter_map-append (λ (y : OnLink). when (y.link == x.link) (Some y.message)) (x ∷ []) xs ∙ ap (λ z. z ++ on_link x.link xs) (on_more [] x x.link ∙ cond-true (x.link == x.link) (x.message ∷ []) [] (eq-eqb x.link x.link refl)))
      ∙ h x.link)),
)

pub end_one : (k l from number : ℕ) → from ≡ number → (if k == l then Message.End ∷ [] else []) ≡ ended_on k l from number
end_one k l from number here = ap (λ b. if k == l then (if b then Message.End ∷ [] else []) else []) (sym (eq-eqb from number here))

pub no_end : (xs : List OnLink) (k l from number : ℕ) → (from ≡ number → ⊥) → on_link k xs ≡ on_link k xs ++ ended_on k l from number
no_end xs k l from number away = sym (ap (λ b. on_link k xs ++ (if k == l then (if b then Message.End ∷ [] else []) else [])) (ne_eqb from number away) ∙ one (k == l))
  where
    one : (b : Bool) → on_link k xs ++ (if b then [] else []) ≡ on_link k xs
    one true = append-nil (on_link k xs)
    one false = append-nil (on_link k xs)

pub more_end : (g : Graph) (i : ℕ) (links : List Link) (l k : ℕ) (d : Link) → l < length links → end_for g i (slice_get (take (suc l) links) k) ≡ end_for g i (slice_get (take l links) k) ++ ended_on k l (platform_of g (get_or links l d).from) i
more_end g i [] l k d lt = absurd (omega arith)
more_end g i (x ∷ xs) zero zero d lt = refl
more_end g i (x ∷ xs) zero (suc k) d lt = sym (ap (λ b. if b then (if platform_of g x.from == i then Message.End ∷ [] else []) else []) (ne_eqb (suc k) 0 (omega arith)))
more_end g i (x ∷ xs) (suc l) zero d lt = sym (ap (λ b. (if platform_of g x.from == i then Message.End ∷ [] else []) ++ (if b then (if platform_of g (get_or xs l d).from == i then Message.End ∷ [] else []) else [])) (ne_eqb 0 (suc l) (omega arith)) ∙ append-nil _)
more_end g i (x ∷ xs) (suc l) (suc k) d lt = more_end g i xs l k d (omega arith) ∙ ap (λ b. end_for g i (slice_get (take l xs) k) ++ (if b then (if platform_of g (get_or xs l d).from == i then Message.End ∷ [] else []) else [])) (sucs k l)
  where
    sucs : (m n : ℕ) → (m == n) ≡ (suc m == suc n)
    sucs m n = grind (arith, nat_tests)
