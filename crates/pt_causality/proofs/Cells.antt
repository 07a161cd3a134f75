-- A row's cells, and what they stand for.
use Rattle.std.proofs.Common.{◌≡◌, ℕ, zero, suc, ◌<◌, ◌^◌, ◌==◌, false, List, map, Option, Some, None, refl, sym, ap, subst, ◌∙◌, arith, replicate, slice_set}
use Rattle.std.proofs.lemmas.List.{map-set}
use Rattle.std.proofs.lemmas.Bool.Decides.{nat_tests}
use Rattle.pt_tags.specs.declared.tag.Delay.{Delay}
use Rattle.pt_causality.specs.Cells.{held_in, delay_at}

absent_everywhere : (n : ℕ) (d : Delay) → held_in d ≡ None → (k : ℕ) → delay_at (map held_in (replicate n d)) k ≡ None
absent_everywhere zero d h k = refl
absent_everywhere (suc n) d h zero = h
absent_everywhere (suc n) d h (suc k) = absent_everywhere n d h k

pub all_absent : (cells : List Delay) (n : ℕ) (d : Delay) → cells ≡ replicate n d → held_in d ≡ None → (k : ℕ) → delay_at (map held_in cells) k ≡ None
all_absent cells n d e h k = subst (λ z. delay_at (map held_in z) k ≡ None) (sym e) (absent_everywhere n d h k)

held_small : (d : Delay) → d.time < 2 ^ 62 → held_in d ≡ Some d
held_small d h =
    let no : (d.time == 18446744073709551615) ≡ false = grind (arith, nat_tests) in
    rw no refl

pub cell_set : (cells : List Delay) (row : List (Option Delay)) (k : ℕ) (d : Delay) → map held_in cells ≡ row → d.time < 2 ^ 62 → map held_in (slice_set cells k d) ≡ slice_set row k (Some d)
cell_set cells row k d e h = map-set held_in cells k d ∙ ap (λ z. slice_set z k (held_in d)) e ∙ ap (λ z. slice_set row k z) (held_small d h)
