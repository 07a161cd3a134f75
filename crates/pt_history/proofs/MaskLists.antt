-- Cells made again of a mask and values, and groups one after another.
use Rattle.std.proofs.Common.{◌≡◌, ◌≤◌, ◌<◌, ◌+◌, ◌-◌, ◌*◌, ◌/◌, ◌%◌, ◌^◌, ℕ, zero, suc, None, Some, Option, ℤ, List, [], ◌∷◌, ◌++◌, ◌⊎◌, inl, inr, refl, sym, ap, ap₂, subst, ◌∙◌, arith, count_ones, length, take, drop, get_or, set}
use Rattle.std.specs.Prelude.{slice_get}
use Rattle.std.proofs.lemmas.List.{append_assoc, drop-append-le, drop-drop, length-drop, length_push, take-append-le, take_all, take_more_set}
use Rattle.std.proofs.lemmas.List.Sums.{sum_by-cons}
use Rattle.std.proofs.lemmas.Bool.{cases_lt}
use Rattle.std.proofs.lemmas.Nat.{ones_cat}
use Rattle.pt_history.specs.Cells.{cell_of, cells_from, group_of, groups_of, mask_of, ones_in, values_in, AreSums}

pub no_ones : count_ones 0 ≡ 0
unfolding lib.Count.ones
no_ones = refl

one_one : count_ones 1 ≡ 1
unfolding lib.Count.ones
one_one = refl

-- the lowest bit, and the others
pub ones_step : (b m : ℕ) → b ≤ 1 → count_ones (b + 2 * m) ≡ b + count_ones m
ones_step zero m few =
    let cat : count_ones (m * 2 ^ 1 + 0) ≡ count_ones m + count_ones 0 = ones_cat 1 m 0 (omega arith) in
    let same : 0 + 2 * m ≡ m * 2 ^ 1 + 0 = omega arith in
    ap count_ones same ∙ omega (arith, cat, no_ones)
ones_step (suc zero) m few =
    let cat : count_ones (m * 2 ^ 1 + 1) ≡ count_ones m + count_ones 1 = ones_cat 1 m 1 (omega arith) in
    let same : 1 + 2 * m ≡ m * 2 ^ 1 + 1 = omega arith in
    ap count_ones same ∙ omega (arith, cat, one_one)
ones_step (suc (suc b)) m few = absurd (omega arith)

pub ones_split : (m : ℕ) → count_ones m ≡ m % 2 + count_ones (m / 2)
ones_split m =
    let same : m ≡ m % 2 + 2 * (m / 2) = omega arith in
    ap count_ones same ∙ ones_step (m % 2) (m / 2) (omega arith)

-- a mask has as many bits as there are values
pub ones_of_mask : (cells : List (Option ℤ)) → count_ones (mask_of cells) ≡ length (values_in cells)
ones_of_mask [] = no_ones
ones_of_mask (None ∷ cells) = let rest = ones_of_mask cells in ones_step 0 (mask_of cells) (omega arith) ∙ omega (arith, rest)
ones_of_mask (Some v ∷ cells) = let rest = ones_of_mask cells in ones_step 1 (mask_of cells) (omega arith) ∙ omega (arith, rest)

-- cells made again of their mask and their values, whatever values follow
pub cells_back : (cells : List (Option ℤ)) (more : List ℤ) → cells_from (length cells) (mask_of cells) (values_in cells ++ more) ≡ cells
cells_back [] more = refl
cells_back (None ∷ cells) more =
    let m = mask_of cells in
    let low : (0 + 2 * m) % 2 ≡ 0 = omega arith in
    let high : (0 + 2 * m) / 2 ≡ m = omega arith in
    ap₂ (λ b r. cell_of b (values_in cells ++ more) ∷ cells_from (length cells) r (drop b (values_in cells ++ more))) low high
    ∙ ap (λ cs. None ∷ cs) (cells_back cells more)
cells_back (Some v ∷ cells) more =
    let m = mask_of cells in
    let low : (1 + 2 * m) % 2 ≡ 1 = omega arith in
    let high : (1 + 2 * m) / 2 ≡ m = omega arith in
    ap₂ (λ b r. cell_of b (v ∷ values_in cells ++ more) ∷ cells_from (length cells) r (drop b (v ∷ values_in cells ++ more))) low high
    ∙ ap (λ cs. Some v ∷ cs) (cells_back cells more)

pub group_back : (cells : List (Option ℤ)) (more : List ℤ) → length cells ≡ 9 → group_of (mask_of cells) (values_in cells ++ more) ≡ cells
unfolding group_of
group_back cells more nine = subst (λ n. cells_from n (mask_of cells) (values_in cells ++ more) ≡ cells) nine (cells_back cells more)

-- more values behind those of a mask change nothing
cell_more : (b : ℕ) (values more : List ℤ) → b ≤ 1 → b ≤ length values → cell_of b (values ++ more) ≡ cell_of b values
cell_more zero values more few enough = refl
cell_more (suc b) [] more few enough = absurd (omega arith)
cell_more (suc b) (v ∷ values) more few enough = refl

pub cells_more : (n mask : ℕ) (values more : List ℤ) → count_ones mask ≤ length values → cells_from n mask (values ++ more) ≡ cells_from n mask values
cells_more zero mask values more enough = refl
cells_more (suc n) mask values more enough =
    let split : count_ones mask ≡ mask % 2 + count_ones (mask / 2) = ones_split mask in
    let left : length (drop (mask % 2) values) ≡ length values - mask % 2 = length-drop (mask % 2) values in
    ap₂ (λ x xs. x ∷ xs)
    (cell_more (mask % 2) values more (omega arith) (omega (arith, split, enough)))
    (ap (cells_from n (mask / 2)) (drop-append-le (mask % 2) values more (omega (arith, split, enough)))
    ∙ cells_more n (mask / 2) (drop (mask % 2) values) more (omega (arith, split, left, enough)))

pub group_more : (mask : ℕ) (values more : List ℤ) → count_ones mask ≤ length values → group_of mask (values ++ more) ≡ group_of mask values
unfolding group_of
group_more mask values more enough = cells_more 9 mask values more enough

-- one group more
pub length-groups : (masks : List ℕ) (values : List ℤ) → length (groups_of masks values) ≡ length masks
length-groups [] values = refl
length-groups (mask ∷ masks) values = ap suc (length-groups masks (drop (count_ones mask) values))

pub groups_push : (masks : List ℕ) (values more : List ℤ) (mask : ℕ) (cells : List (Option ℤ)) → length values ≡ ones_in masks → group_of mask more ≡ cells
    → groups_of (masks ++ mask ∷ []) (values ++ more) ≡ groups_of masks values ++ cells ∷ []
groups_push [] [] more mask cells all is = ap (λ c. c ∷ []) is
groups_push [] (v ∷ values) more mask cells all is = absurd (omega (arith, all))
groups_push (m ∷ masks) values more mask cells all is =
    let cons : ones_in (m ∷ masks) ≡ count_ones m + ones_in masks = sum_by-cons count_ones m masks in
    let left : length (drop (count_ones m) values) ≡ length values - count_ones m = length-drop (count_ones m) values in
    ap₂ (λ x xs. x ∷ xs)
    (group_more m values more (omega (arith, all, cons)))
    (ap (groups_of (masks ++ mask ∷ [])) (drop-append-le (count_ones m) values more (omega (arith, all, cons)))
    ∙ groups_push masks (drop (count_ones m) values) more mask cells (omega (arith, all, cons, left)) is)

-- a group by its number
pub groups_get : (masks : List ℕ) (values : List ℤ) (n : ℕ) → n < length masks → slice_get (groups_of masks values) n ≡ Some (group_of (get_or masks n 0) (drop (ones_in (take n masks)) values))
groups_get [] values n within = absurd (omega arith)
groups_get (mask ∷ masks) values zero within = refl
groups_get (mask ∷ masks) values (suc n) within =
    let cons : ones_in (mask ∷ take n masks) ≡ count_ones mask + ones_in (take n masks) = sum_by-cons count_ones mask (take n masks) in
    groups_get masks (drop (count_ones mask) values) n (omega arith)
    ∙ ap (λ vs. Some (group_of (get_or masks n 0) vs)) (drop_drop (count_ones mask) (ones_in (take n masks)) values ∙ ap (λ k. drop k values) (sym cons))
  where
    drop_drop : (a b : ℕ) (xs : List ℤ) → drop b (drop a xs) ≡ drop (a + b) xs
    drop_drop a b xs = drop-drop b a xs

-- one cell more is made
pub step_group : (cells : List (Option ℤ)) (x : Option ℤ) (k n rest : ℕ) (values : List ℤ) (at : ℕ) → k < n → k < length cells → x ≡ cell_of (rest % 2) (drop at values)
    → take (k + 1) (set cells k x) ++ cells_from (n - (k + 1)) (rest / 2) (drop (at + rest % 2) values) ≡ take k cells ++ cells_from (n - k) rest (drop at values)
step_group cells x k n rest values at low within is =
    let one : n - k ≡ suc (n - (k + 1)) = omega (arith, low) in
    ap₂ (λ xs vs. xs ++ cells_from (n - (k + 1)) (rest / 2) vs) (take_more_set cells k x within) (sym (drop-drop (rest % 2) at values))
    ∙ append_assoc (take k cells) (x ∷ []) (cells_from (n - (k + 1)) (rest / 2) (drop (rest % 2) (drop at values)))
    ∙ ap (λ y. take k cells ++ y ∷ cells_from (n - (k + 1)) (rest / 2) (drop (rest % 2) (drop at values))) is
    ∙ ap (λ j. take k cells ++ cells_from j rest (drop at values)) (sym one)

-- the sums of one mask more, where a block of 8 may begin
pub sums_push : (sums new masks : List ℕ) (mask values : ℕ) → AreSums sums masks → values ≡ ones_in masks → length new ≡ (length masks + 8) / 8
    → ((j : ℕ) → j < length sums → get_or new j 0 ≡ get_or sums j 0) → (length masks % 8 ≡ 0 → get_or new (length masks / 8) 0 ≡ values) → AreSums new (masks ++ mask ∷ [])
sums_push sums new masks mask values are all many before last =
    let longer : length (masks ++ mask ∷ []) ≡ length masks + 1 = length_push masks mask in
    record { many = omega (arith, many, longer); each = λ j within. by j within (cases_lt j (length sums)) }
  where
    by : (j : ℕ) → j < length new → ((j < length sums) ⊎ (length sums ≤ j)) → get_or new j 0 ≡ ones_in (take (8 * j) (masks ++ mask ∷ []))
    by j within (inl old) =
        let inside : 8 * j ≤ length masks = omega (arith, old, are.many) in
        before j old ∙ are.each j old ∙ ap ones_in (sym (take-append-le (8 * j) masks (mask ∷ []) inside))
    by j within (inr past) =
        let place : j ≡ length masks / 8 = omega (arith, past, within, many, are.many) in
        let full : length masks % 8 ≡ 0 = omega (arith, past, within, many, are.many) in
        let whole : 8 * j ≡ length masks = omega (arith, place, full) in
        ap (λ k. get_or new k 0) place ∙ last full ∙ all
        ∙ ap ones_in (sym (take_all (8 * j) masks (omega (arith, whole))) ∙ sym (take-append-le (8 * j) masks (mask ∷ []) (omega (arith, whole))))
