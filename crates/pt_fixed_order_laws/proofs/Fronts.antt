-- A front of messages that are sorted by link.
use Rattle.std.proofs.Common.{◌≡◌, ℕ, ◌<◌, ◌≤◌, ◌==◌, true, false, List, [], ◌∷◌, ◌++◌, Some, refl, ap, subst, ◌∙◌, ⊎_elim, eqb-true, ne_eqb, arith}
use Rattle.std.proofs.lemmas.Bool.{cases_Bool}
use Rattle.std.specs.List.{cons_option}
use Rattle.pt_types.specs.declared.firing.OnLink.{OnLink}
use Rattle.pt_semantics.specs.Closing.{on_link}
use Rattle.pt_semantics.specs.Lists.{Each}
use Rattle.pt_semantics.proofs.Words.{when-false}
use Rattle.pt_fixed_order_laws.specs.Fronts.{FrontsAreByLink}

each_right : (P : OnLink → Type 0) (xs ys : List OnLink) → Each P (xs ++ ys) → Each P ys
each_right P [] ys h = h
each_right P (x ∷ xs) ys h = each_right P xs ys h.1

skip : (l : ℕ) (m : OnLink) (ms : List OnLink) → (m.link == l) ≡ false → on_link l (m ∷ ms) ≡ on_link l ms
skip l m ms e = ap (λ o. cons_option o (on_link l ms)) (when-false (m.link == l) (Some m.message) e)

none_below : (l k : ℕ) (ms : List OnLink) → l < k → Each (λ (m : OnLink). k ≤ m.link) ms → on_link l ms ≡ []
none_below l k [] lt h = refl
none_below l k (m ∷ ms) lt h = skip l m ms (ne_eqb m.link l (λ e. let le : k ≤ m.link = h.0 in over lt le e)) ∙ none_below l k ms lt h.1
  where
    over : l < k → k ≤ m.link → m.link ≡ l → ⊥
    over lt le e = omega arith

pub fronts_are_by_link : FrontsAreByLink
fronts_are_by_link [] rest l k h lt some = absurd (some refl)
fronts_are_by_link (m ∷ front) rest l k h lt some = ⊎_elim
    (λ (here : (m.link == k) ≡ true). none_below l k rest lt (subst (λ n. Each (λ (o : OnLink). n ≤ o.link) rest) (eqb-true m.link k here) (each_right (λ (o : OnLink). m.link ≤ o.link) front rest h.0)))
    (λ (other : (m.link == k) ≡ false). fronts_are_by_link front rest l k h.1 lt (λ none. some (skip k m front other ∙ none)))
    (cases_Bool (m.link == k))
