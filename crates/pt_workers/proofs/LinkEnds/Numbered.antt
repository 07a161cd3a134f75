-- Linked platforms whose numbers are counted up are in order.
use Rattle.std.proofs.Common.{◌≡◌, ℕ, zero, suc, ◌<◌, List, [], ◌∷◌, ◌++◌, Some, length, refl, sym, ap, ◌∙◌, ⊎_elim, arith, length-append}
use Rattle.std.specs.Prelude.{slice_get}
use Rattle.std.proofs.lemmas.Bool.{cases_eq}
use Rattle.std.proofs.lemmas.Option.{slice_get_within}
use Rattle.pt_pool.specs.LinkedPlatform.{LinkedPlatformView}
use Rattle.pt_pool.proofs.Lanes.{get_map, same_some}
use Rattle.pt_workers.specs.Working.Orders.{count_up}
use Rattle.pt_workers.specs.LinkEnds.Numbered.{NumberedInOrder}
use Rattle.pt_workers.proofs.LinkEnds.Lists.{get_front, get_last}

length_count : (n : ℕ) → length (count_up n) ≡ n
length_count zero = refl
length_count (suc n) = let h = length_count n in let a = length-append (count_up n) (n ∷ []) in omega (arith, h, a)

count_at : (n i : ℕ) → i < n → slice_get (count_up n) i ≡ Some i
count_at zero i lt = absurd (omega (arith, lt))
count_at (suc n) i lt = ⊎_elim
    (λ (q : i ≡ n). ap (slice_get (count_up n ++ n ∷ [])) (q ∙ sym (length_count n)) ∙ get_last (count_up n) n ∙ ap Some (sym q))
    (λ (ne : i ≡ n → ⊥). get_front (count_up n) (n ∷ []) i i (count_at n i (omega arith)))
    (cases_eq i n)

pub numbered_in_order : NumberedInOrder
numbered_in_order xs order i s at = same_some s.platform.number i (sym (get_map (λ (v : LinkedPlatformView). v.platform.number) xs i s at) ∙ ap (λ (l : List ℕ). slice_get l i) order ∙ count_at (length xs) i (slice_get_within xs i s at))
