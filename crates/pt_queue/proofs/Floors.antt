-- The times that no tag of a word of places is before.
use Rattle.std.proofs.Common.{◌≡◌, ◌≢◌, ℕ, ◌+◌, ◌/◌, ◌<◌, ◌≤◌, ◌⊎◌, List, Option, Some, None, length, replicate, slice_index_or, slice_set, sym, ap, subst, ◌∙◌, ⊎_elim, arith}
use Rattle.std.proofs.lemmas.List.{get_or-set_same, get_or-set_other, length-replicate, length-set}
use Rattle.pt_tags.specs.declared.tag.Tag.{Tag}
use Rattle.pt_types.specs.declared.graph.Unit.{Unit}
use Rattle.pt_semantics.proofs.Lookups.{none_some, same_some}
use Rattle.pt_queue.specs.Events.{unit_place}
use Rattle.pt_queue.specs.Tagged.{AreFloors, tag_in}
use Rattle.pt_queue.specs.Marks.{AreMarks, one_if}
use Rattle.pt_queue.proofs.ByUnit.{has_place, in_place, nowhere}
use Rattle.pt_queue.proofs.Summing.{zero_word}

either : (n m : ℕ) → (n ≡ m) ⊎ (n ≢ m)
either n m = grind arith

-- without tags any times are
pub none_floors : (tags : List (Option Tag)) (times : List ℕ) (count time : ℕ) → tags ≡ replicate count None → times ≡ replicate (count / 64 + 1) time → AreFloors tags times
none_floors tags times count time none is = record {
  floors = λ n t e. absurd (none_some t (sym (ap (λ ts. slice_index_or ts n None) none ∙ nowhere count n) ∙ e));
  len = ap length is ∙ length-replicate {A = ℕ} (count / 64 + 1) time ∙ sym (ap (λ k. k / 64 + 1) (ap length none ∙ length-replicate {A = Option Tag} count None));
}

-- a tag was set, and the time of its word lowered
pub floors_more : (tags : List (Option Tag)) (times new : List ℕ) (place : ℕ) (tag : Tag) → AreFloors tags times → place < length tags → slice_index_or new (place / 64) 0 ≤ tag.time
    → ((n : ℕ) → slice_index_or new n 0 ≤ slice_index_or times n 0) → length new ≡ length times → AreFloors (slice_set tags place (Some tag)) new
floors_more tags times new place tag are there here all len = record {
  floors = λ n t e. ⊎_elim
      (λ (same : n ≡ place).
      let own : tag ≡ t = same_some tag t (sym (ap (λ k. slice_index_or (slice_set tags place (Some tag)) k None) same ∙ get_or-set_same tags place (Some tag) None there) ∙ e) in
      subst (λ k. slice_index_or new (k / 64) 0 ≤ t.time) (sym same) (subst (λ (z : Tag). slice_index_or new (place / 64) 0 ≤ z.time) own here))
      (λ (ne : n ≢ place).
      let old : slice_index_or times (n / 64) 0 ≤ t.time = are.floors n t (sym (get_or-set_other tags place n (Some tag) None ne) ∙ e) in
      let less : slice_index_or new (n / 64) 0 ≤ slice_index_or times (n / 64) 0 = all (n / 64) in
      omega (arith, old, less))
      (either n place);
  len = len ∙ are.len ∙ sym (ap (λ k. k / 64 + 1) (length-set tags place (Some tag)));
}

-- a tag was removed
pub floors_less : (tags : List (Option Tag)) (times : List ℕ) (place : ℕ) → AreFloors tags times → place < length tags → AreFloors (slice_set tags place None) times
floors_less tags times place are there = record {
  floors = λ n t e. ⊎_elim
      (λ (same : n ≡ place). absurd (none_some t (sym (ap (λ k. slice_index_or (slice_set tags place None) k None) same ∙ get_or-set_same tags place None None there) ∙ e)))
      (λ (ne : n ≢ place). are.floors n t (sym (get_or-set_other tags place n None None ne) ∙ e))
      (either n place);
  len = are.len ∙ sym (ap (λ k. k / 64 + 1) (length-set {A = Option Tag} tags place None));
}

-- the time of a word without tags was changed
pub floors_empty : (tags : List (Option Tag)) (marks times : List ℕ) (index time : ℕ) → AreFloors tags times → AreMarks tags marks → slice_index_or marks index 0 ≡ 0 → AreFloors tags (slice_set times index time)
floors_empty tags marks times index time are marked zero = record {
  floors = λ n t e. ⊎_elim
      (λ (same : n / 64 ≡ index). absurd (let one = ap one_if e in let bit = marked n in let none = zero_word marks n index same zero in omega (arith, one, bit, none)))
      (λ (ne : n / 64 ≢ index). subst (λ k. k ≤ t.time) (sym (get_or-set_other times index (n / 64) time 0 ne)) (are.floors n t e))
      (either (n / 64) index);
  len = length-set times index time ∙ are.len;
}

-- the time of a unit's word
pub floor_below : (tags : List (Option Tag)) (times : List ℕ) (word time : ℕ) → AreFloors tags times → time ≡ slice_index_or times word 0 → (u : Unit) (t : Tag) → tag_in tags u ≡ Some t → unit_place u / 64 ≡ word → time ≤ t.time
floor_below tags times word time are is u t e at =
    let here : slice_index_or times (unit_place u / 64) 0 ≤ t.time = are.floors (unit_place u) t (sym (in_place tags u (has_place tags u t e)) ∙ e) in
    subst (λ k. k ≤ t.time) (sym (is ∙ ap (λ k. slice_index_or times k 0) (sym at))) here
