-- The greatest over the actors that have a bound is the greatest over all.
use Rattle.std.proofs.Common.{◌≡◌, ℕ, ℤ, ◌+◌, ◌<◌, false, List, [], ◌∷◌, ◌++◌, Option, Some, None, length, get_or, refl, sym, ap, ◌∙◌, arith, inl, inr, ⊎_elim}
use Rattle.std.specs.Option.{is_some}
use Rattle.std.proofs.lemmas.Bool.{false≢true}
use Rattle.std.proofs.lemmas.List.{get_or_append_left, get_or_push, length_push}
use Rattle.pt_tags.specs.declared.tag.Delay.{Delay}
use Rattle.pt_types.specs.declared.graph.Unit.{Unit}
use Rattle.pt_semantics.proofs.Lookups.{none_some}
use Rattle.pt_offsets.specs.Bounded.{bound_at, offset_by, offset_from}
use Rattle.pt_offsets.specs.Greatest.{HasGreatest}
use Rattle.pt_offsets.specs.Margins.{unit_at}
use Rattle.pt_offsets.specs.Sources.{AreSources, AreSourcesUpTo, IsUnboundOrListed}
use Rattle.pt_offsets.proofs.Maxima.{last_or_before}

pub is_absent : (bound : Option ℕ) → is_some bound ≡ false → bound ≡ None
is_absent None is = refl
is_absent (Some b) is = absurd (false≢true (sym is))

-- no actor yet
pub none_yet : (bounds : List (Option ℕ)) → AreSourcesUpTo 0 bounds []
none_yet bounds = record { below = λ i lt. absurd (omega (arith, lt)); listed = λ a lt. absurd (omega (arith, lt)) }

still_listed : (bounds : List (Option ℕ)) (sources : List ℕ) (n a : ℕ) → IsUnboundOrListed bounds sources a → IsUnboundOrListed bounds (sources ++ n ∷ []) a
still_listed bounds sources n a =
    ⊎_elim
    (λ none. inl none)
    (λ (found : (i : ℕ) × (i < length sources) × (get_or sources i 0 ≡ a)).
    let many : length (sources ++ n ∷ []) ≡ length sources + 1 = length_push sources n in
    inr (found.0, omega (arith, found.1, many), get_or_append_left sources (n ∷ []) 0 found.0 found.1 ∙ found.2))

-- an actor without a bound
pub one_without : (bounds : List (Option ℕ)) (sources : List ℕ) (n : ℕ) → AreSourcesUpTo n bounds sources → bound_at bounds n ≡ None → AreSourcesUpTo (n + 1) bounds sources
one_without bounds sources n so none = record {
  below = λ i lt. let low = so.below i lt in omega (arith, low);
  listed = λ a lt.
      ⊎_elim
      (λ (less : a < n). so.listed a less)
      (λ (here : a ≡ n). inl (ap (bound_at bounds) here ∙ none))
      (last_or_before n a lt);
}

-- an actor with a bound
pub one_with : (bounds : List (Option ℕ)) (sources : List ℕ) (n : ℕ) → AreSourcesUpTo n bounds sources → AreSourcesUpTo (n + 1) bounds (sources ++ n ∷ [])
one_with bounds sources n so =
    let many : length (sources ++ n ∷ []) ≡ length sources + 1 = length_push sources n in
    let last : get_or (sources ++ n ∷ []) (length sources) 0 ≡ n = get_or_push sources n 0 (length sources) refl in
    record {
      below = λ i lt.
          ⊎_elim
          (λ (less : i < length sources). let same = get_or_append_left sources (n ∷ []) 0 i less in let low = so.below i less in omega (arith, same, low))
          (λ (here : i ≡ length sources). let same = ap (λ k. get_or (sources ++ n ∷ []) k 0) here in omega (arith, same, last))
          (last_or_before (length sources) i (omega (arith, lt, many)));
      listed = λ a lt.
          ⊎_elim
          (λ (less : a < n). still_listed bounds sources n a (so.listed a less))
          (λ (here : a ≡ n). inr (length sources, omega (arith, many), last ∙ sym here))
          (last_or_before n a lt);
    }

-- what holds of the sources holds of all actors
over_all : (bounds : List (Option ℕ)) (sources : List ℕ) (f : ℕ → Option ℤ) → AreSources bounds sources → ((a : ℕ) → bound_at bounds a ≡ None → f a ≡ None) → (o : Option ℤ)
    → HasGreatest (length sources) (λ i. f (get_or sources i 0)) o → HasGreatest (length bounds) f o
over_all bounds sources f so absent None has = λ a lt.
    ⊎_elim
    (λ none. absent a none)
    (λ (found : (i : ℕ) × (i < length sources) × (get_or sources i 0 ≡ a)). sym (ap f found.2) ∙ has found.0 found.1)
    (so.listed a lt)
over_all bounds sources f so absent (Some o) has = record {
  at = get_or sources has.at 0;
  below = so.below has.at has.below;
  there = has.there;
  greatest = λ a x lt is.
      ⊎_elim
      (λ none. absurd (none_some x (sym (absent a none) ∙ is)))
      (λ (found : (i : ℕ) × (i < length sources) × (get_or sources i 0 ≡ a)). has.greatest found.0 x found.1 (ap f found.2 ∙ is))
      (so.listed a lt);
}

no_bound : (bound : Option ℕ) (delay : Option Delay) → bound ≡ None → offset_by bound delay ≡ None
no_bound None delay is = refl
no_bound (Some b) delay is = absurd (none_some b (sym is))

pub greatest_of_all : (bounds : List (Option ℕ)) (sources : List ℕ) (least : Unit → Unit → Option Delay) (u : Unit) (o : Option ℤ) → AreSources bounds sources
    → HasGreatest (length sources) (λ i. offset_from bounds least u (get_or sources i 0)) o → HasGreatest (length bounds) (offset_from bounds least u) o
greatest_of_all bounds sources least u o so has =
    over_all bounds sources (offset_from bounds least u) so (λ a none. no_bound (bound_at bounds a) (least (unit_at a 0) u) none) o has
