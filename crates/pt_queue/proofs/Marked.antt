-- The bits that are set where there is a tag.
use Rattle.std.proofs.Common.{◌≡◌, ◌≢◌, ℕ, ◌+◌, ◌/◌, ◌%◌, ◌<◌, ◌≤◌, ◌⊎◌, List, Option, None, length, replicate, slice_index_or, slice_set, sym, ap, subst, ◌∙◌, ⊎_elim, arith}
use Rattle.std.specs.Int.{bit_at}
use Rattle.std.proofs.lemmas.List.{get_or-replicate, get_or_past, get_or-set_same, get_or-set_other, length-replicate, length-set}
use Rattle.std.proofs.lemmas.Nat.Bits.{bit_at-zero}
use Rattle.pt_tags.specs.declared.tag.Tag.{Tag}
use Rattle.pt_causality.specs.Before.{bit_of}
use Rattle.pt_queue.specs.Marks.{AreMarked, most_places, one_if}
use Rattle.pt_queue.proofs.ByUnit.{nowhere}

-- without tags no bit is set
zeros : (n k : ℕ) → slice_index_or (replicate {A = ℕ} n 0) k 0 ≡ 0
zeros n k = ⊎_elim
    (λ (l : k < n). get_or-replicate {A = ℕ} n k 0 0 l)
    (λ (m : n ≤ k). get_or_past (replicate {A = ℕ} n 0) k 0 (omega (arith, m, length-replicate {A = ℕ} n 0)))
    (either k n)
  where
    either : (n m : ℕ) → (n < m) ⊎ (m ≤ n)
    either n m = grind arith

pub none_marked : (tags : List (Option Tag)) (marks : List ℕ) (count : ℕ) → count ≤ most_places → tags ≡ replicate count None → marks ≡ replicate (count / 64 + 1) 0 → AreMarked tags marks
none_marked tags marks count few none clear = record {
  marks_are = λ n.
      ap (λ ws. bit_of ws n) clear ∙ ap (λ w. bit_at w (n % 64)) (zeros (count / 64 + 1) (n / 64)) ∙ bit_at-zero (n % 64)
      ∙ sym (ap (λ ts. one_if (slice_index_or ts n None)) none ∙ ap one_if (nowhere count n));
  words = ap length clear ∙ length-replicate {A = ℕ} (count / 64 + 1) 0 ∙ sym (ap (λ k. k / 64 + 1) len);
  few = omega (arith, few, len);
}
  where
    len : length tags ≡ count
    len = ap length none ∙ length-replicate {A = Option Tag} count None

-- a tag was set
pub put_marked : (tags : List (Option Tag)) (marks new : List ℕ) (place : ℕ) (tag : Option Tag) → AreMarked tags marks → place < length tags
    → bit_of new place ≡ one_if tag → ((n : ℕ) → n ≢ place → bit_of new n ≡ bit_of marks n) → length new ≡ length marks → AreMarked (slice_set tags place tag) new
put_marked tags marks new place tag are there here others len = record {
  marks_are = λ n. ⊎_elim
      (λ (e : n ≡ place). subst (λ k. bit_of new k ≡ one_if (slice_index_or (slice_set tags place tag) k None)) (sym e) (here ∙ sym (ap one_if (get_or-set_same tags place tag None there))))
      (λ (ne : n ≢ place). others n ne ∙ are.marks_are n ∙ sym (ap one_if (get_or-set_other tags place n tag None ne)))
      (either n place);
  words = len ∙ are.words ∙ sym (ap (λ k. k / 64 + 1) (length-set tags place tag));
  few = let few = are.few in omega (arith, few, length-set tags place tag);
}
  where
    either : (n m : ℕ) → (n ≡ m) ⊎ (n ≢ m)
    either n m = grind arith
