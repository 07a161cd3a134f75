-- What a stack and a heap of units that wait say of the list of them.
use Rattle.std.proofs.Common.{◌≡◌, ℕ, ◌==◌, ◌&&◌, true, false, List, [], ◌∷◌, ◌++◌, map, length, refl, sym, ap, subst, ◌∙◌, arith, append_assoc}
use Rattle.std.specs.declared.cmp.Reverse.{Reverse}
use Rattle.std.specs.List.{All}
use Rattle.std.specs.List.Sorted.{IsPermutation}
use Rattle.std.specs.Ordering.{is_lt}
use Rattle.std.specs.BinaryHeap.{IsUpperBound}
use Rattle.std.proofs.lemmas.Bool.{and_parts, eqb-true}
use Rattle.std.proofs.lemmas.Bool.Decides.{nat_tests}
use Rattle.std.proofs.lemmas.List.{map-append}
use Rattle.std.proofs.lemmas.List.Elements.{All-from_recursion, All-weaker, All-map, All-same, All-append, All-contains}
use Rattle.std.proofs.lemmas.List.Sorted.{IsPermutation-map, IsPermutation-middle, IsPermutation-trans, IsPermutation-append_right, IsPermutation-sym}
use Rattle.pt_tags.specs.declared.tag.Delay.{Delay}
use Rattle.pt_tags.specs.Tags.{AtMost}
use Rattle.pt_causality.specs.declared.frontier.FoundUnit.{FoundUnit}
use Rattle.pt_causality.specs.Waits.{compared, waiting_at, HasLeastDelay, NoneBefore, SomeBefore}

abbrev pub inner : Reverse FoundUnit → FoundUnit
inner r = r.0

not_before : (x y : FoundUnit) → is_lt (compared y x) ≡ false → AtMost x.at y.at
not_before x y h = grind (arith, nat_tests)

-- the greatest of the heap waits for no more than the others
least_of_heap : (x : Reverse FoundUnit) (was : List (Reverse FoundUnit)) → IsUpperBound (λ v w. compared w.0 v.0) x was → NoneBefore x.0.at was
least_of_heap x was h =
    All-weaker (λ (y : Reverse FoundUnit). is_lt (compared y.0 x.0) ≡ false) (λ (y : Reverse FoundUnit). AtMost x.0.at y.0.at) (λ y k. not_before x.0 y.0 k) was
    (All-from_recursion (λ (y : Reverse FoundUnit). is_lt (compared y.0 x.0) ≡ false) was h)

all_at : (d e : Delay) → AtMost d e → (ready : List ℕ) → All (λ (v : FoundUnit). AtMost d v.at) (map (waiting_at e) ready)
all_at d e most ready = All-map (λ (v : FoundUnit). AtMost d v.at) (waiting_at e) ready (λ k u less. most)

later_than : (d : Delay) (was : List (Reverse FoundUnit)) → NoneBefore d was → All (λ (v : FoundUnit). AtMost d v.at) (map inner was)
later_than d was h = All-map (λ (v : FoundUnit). AtMost d v.at) inner was h

module _ (now : Delay) (ready : List ℕ) (was : List (Reverse FoundUnit)) (old : List FoundUnit) (is : map (waiting_at now) ready ++ map inner was ≡ old) where
  first_by : (w : FoundUnit) → AtMost w.at now → NoneBefore w.at was → HasLeastDelay w old
  first_by w most none =
      All-same (λ (v : FoundUnit). AtMost w.at v.at) old (map (waiting_at now) ready ++ map inner was) (sym is)
      (All-append (λ (v : FoundUnit). AtMost w.at v.at) (map (waiting_at now) ready) (map inner was) (all_at w.at now most ready) (later_than w.at was none))

  -- one leaves the heap
  pub taken_later : (x : Reverse FoundUnit) (new : List (Reverse FoundUnit)) → IsPermutation was (x ∷ new) → IsPermutation old (x.0 ∷ (map (waiting_at now) ready ++ map inner new))
  taken_later x new h =
      subst (λ z. IsPermutation z (x.0 ∷ (map (waiting_at now) ready ++ map inner new))) is
      (IsPermutation-trans (map (waiting_at now) ready ++ map inner was) (map (waiting_at now) ready ++ x.0 ∷ map inner new) (x.0 ∷ (map (waiting_at now) ready ++ map inner new))
      (IsPermutation-append_right (map (waiting_at now) ready) (map inner was) (x.0 ∷ map inner new) (IsPermutation-map inner was (x ∷ new) h))
      (IsPermutation-middle (map (waiting_at now) ready) x.0 (map inner new)))

  -- one leaves the heap, and none is ready
  pub taken_alone : (x : Reverse FoundUnit) (new : List (Reverse FoundUnit)) → ready ≡ [] → IsPermutation was (x ∷ new) → IsPermutation old (x.0 ∷ (map (waiting_at x.0.at) ready ++ map inner new))
  taken_alone x new none h =
      subst (λ z. IsPermutation old (x.0 ∷ (z ++ map inner new))) (ap (map (waiting_at now)) none ∙ sym (ap (map (waiting_at x.0.at)) none)) (taken_later x new h)

  -- one leaves the stack
  pub taken_ready : (u : ℕ) (left : List ℕ) → ready ≡ left ++ u ∷ [] → IsPermutation old (waiting_at now u ∷ (map (waiting_at now) left ++ map inner was))
  taken_ready u left split =
      subst (λ z. IsPermutation z (waiting_at now u ∷ (map (waiting_at now) left ++ map inner was))) (sym whole ∙ is)
      (IsPermutation-middle (map (waiting_at now) left) (waiting_at now u) (map inner was))
    where
      whole : map (waiting_at now) ready ++ map inner was ≡ map (waiting_at now) left ++ waiting_at now u ∷ map inner was
      whole = ap (λ z. map (waiting_at now) z ++ map inner was) split ∙ ap (λ z. z ++ map inner was) (map-append (waiting_at now) left (u ∷ [])) ∙ append_assoc (map (waiting_at now) left) (waiting_at now u ∷ []) (map inner was)

  pub first_alone : (x : Reverse FoundUnit) → ready ≡ [] → IsUpperBound (λ v w. compared w.0 v.0) x was → HasLeastDelay x.0 old
  first_alone x none h =
      All-same (λ (v : FoundUnit). AtMost x.0.at v.at) old (map inner was) (sym is ∙ ap (λ z. map (waiting_at now) z ++ map inner was) none)
      (later_than x.0.at was (least_of_heap x was h))

  pub first_later : (x : Reverse FoundUnit) → SomeBefore now was → IsUpperBound (λ v w. compared w.0 v.0) x was → HasLeastDelay x.0 old
  first_later x (y, there, most) h =
      let none = least_of_heap x was h in
      let below : AtMost x.0.at y.0.at = All-contains (λ (z : Reverse FoundUnit). AtMost x.0.at z.0.at) was y none there in
      first_by x.0 (omega (arith, below, most)) none

  pub first_ready : (u : ℕ) → NoneBefore now was → HasLeastDelay (waiting_at now u) old
  first_ready u none = first_by (waiting_at now u) (omega arith) none

pub none_left : (ready : List ℕ) (len : ℕ) → len ≡ length ready → true ≡ (len == 0) → ready ≡ []
none_left [] len is h = refl
none_left (u ∷ ready) len is h = absurd (grind (arith, nat_tests))

-- one more waits, on the stack or in the heap
module _ (now : Delay) (ready : List ℕ) (was : List (Reverse FoundUnit)) (old : List FoundUnit) (is : map (waiting_at now) ready ++ map inner was ≡ old) where
  pub joined_ready : (w : FoundUnit) (next : List ℕ) → true ≡ ((w.at.time == now.time) && (w.at.step == now.step)) → next ≡ ready ++ w.unit ∷ [] → IsPermutation (w ∷ old) (map (waiting_at now) next ++ map inner was)
  joined_ready w next same split =
      subst (λ z. IsPermutation (w ∷ z) (map (waiting_at now) next ++ map inner was)) is
      (subst (λ z. IsPermutation (w ∷ (map (waiting_at now) ready ++ map inner was)) z) (sym whole)
      (IsPermutation-sym (map (waiting_at now) ready ++ w ∷ map inner was) (w ∷ (map (waiting_at now) ready ++ map inner was))
      (IsPermutation-middle (map (waiting_at now) ready) w (map inner was))))
    where
      tests : ((w.at.time == now.time) ≡ true) × ((w.at.step == now.step) ≡ true)
      tests = and_parts (w.at.time == now.time) (w.at.step == now.step) (sym same)

      time : now.time ≡ w.at.time
      time = sym (eqb-true w.at.time now.time tests.0)

      step : now.step ≡ w.at.step
      step = sym (eqb-true w.at.step now.step tests.1)

      here : waiting_at now w.unit ≡ w
      here = λ i. record { at = record { time = time i; step = step i }; unit = w.unit }

      whole : map (waiting_at now) next ++ map inner was ≡ map (waiting_at now) ready ++ w ∷ map inner was
      whole =
          ap (λ z. map (waiting_at now) z ++ map inner was) split
          ∙ ap (λ z. z ++ map inner was) (map-append (waiting_at now) ready (w.unit ∷ []))
          ∙ append_assoc (map (waiting_at now) ready) (waiting_at now w.unit ∷ []) (map inner was)
          ∙ ap (λ z. map (waiting_at now) ready ++ z ∷ map inner was) here

  pub joined_later : (x : Reverse FoundUnit) (new : List (Reverse FoundUnit)) → IsPermutation (x ∷ was) new → IsPermutation (x.0 ∷ old) (map (waiting_at now) ready ++ map inner new)
  joined_later x new h =
      subst (λ z. IsPermutation (x.0 ∷ z) (map (waiting_at now) ready ++ map inner new)) is
      (IsPermutation-trans (x.0 ∷ (map (waiting_at now) ready ++ map inner was)) (map (waiting_at now) ready ++ x.0 ∷ map inner was) (map (waiting_at now) ready ++ map inner new)
      (IsPermutation-sym (map (waiting_at now) ready ++ x.0 ∷ map inner was) (x.0 ∷ (map (waiting_at now) ready ++ map inner was)) (IsPermutation-middle (map (waiting_at now) ready) x.0 (map inner was)))
      (IsPermutation-append_right (map (waiting_at now) ready) (x.0 ∷ map inner was) (map inner new) (IsPermutation-map inner (x ∷ was) new h)))
