-- Groups compared with cells.
use Rattle.std.proofs.Common.{◌≡◌, ◌<◌, ◌≤◌, ◌+◌, ◌*◌, ◌/◌, ◌%◌, ℕ, zero, suc, None, Option, ℤ, List, [], ◌∷◌, ◌++◌, refl, sym, ap, ap₂, ◌∙◌, arith, count_ones, length, drop, take, get_or}
use Rattle.std.proofs.lemmas.Grind.{take_at_read}
use Rattle.std.proofs.lemmas.List.{append-nil, append_assoc, take_all}
use Rattle.std.proofs.lemmas.List.Sums.{sum_by_more}
use Rattle.pt_history.specs.Cells.{IsNear, bit_of, cell_of, cells_from, group_of, mask_of, ones_in, six_absent, value_in, values_in}
use Rattle.pt_history.proofs.MaskLists.{group_back, ones_split}

-- the mask and the values of a group are those of two ports and a last cell
pub three_back : (mask start a b e : ℕ) (values : List ℤ) (first second last : Option ℤ) → bit_of first + 2 * bit_of second + 256 * bit_of last ≡ mask
    → drop start values ≡ value_in first ++ drop a values → drop a values ≡ value_in second ++ drop b values → drop b values ≡ value_in last ++ drop e values
    → group_of mask (drop start values) ≡ first ∷ second ∷ six_absent ++ last ∷ []
three_back mask start a b e values first second last is one two three =
    let cells = first ∷ second ∷ six_absent ++ last ∷ [] in
    let all : mask ≡ mask_of cells = omega (arith, is) in
    let more : drop start values ≡ values_in cells ++ drop e values =
    one
    ∙ ap (λ vs. value_in first ++ vs) (two ∙ ap (λ vs. value_in second ++ vs) (three ∙ ap (λ vs. vs ++ drop e values) (sym (append-nil (value_in last)))))
    ∙ sym (append_assoc (value_in first) (value_in second ++ (value_in last ++ [])) (drop e values) ∙ ap (λ vs. value_in first ++ vs) (append_assoc (value_in second) (value_in last ++ []) (drop e values))) in
    ap₂ group_of all more ∙ group_back cells (drop e values) refl

length_from : (n mask : ℕ) (values : List ℤ) → length (cells_from n mask values) ≡ n
length_from zero mask values = refl
length_from (suc n) mask values = ap suc (length_from n (mask / 2) (drop (mask % 2) values))

pub length_group : (mask : ℕ) (values : List ℤ) → length (group_of mask values) ≡ 9
unfolding group_of
length_group mask values = length_from 9 mask values

-- one cell more is the same
pub same_more : (xs ys : List (Option ℤ)) (n : ℕ) → n < length xs → n < length ys → get_or xs n None ≡ get_or ys n None → take n xs ≡ take n ys → take (n + 1) xs ≡ take (n + 1) ys
same_more xs ys n low within is same = (take_at_read xs n None low).1 ∙ ap₂ (λ zs z. zs ++ z ∷ []) same is ∙ sym (take_at_read ys n None within).1

pub same_all : (xs ys : List (Option ℤ)) (n : ℕ) → length xs ≤ n → length ys ≤ n → take n xs ≡ take n ys → xs ≡ ys
same_all xs ys n few small same = sym (take_all n xs few) ∙ same ∙ take_all n ys small

-- the place after a group
pub near_next : (masks : List ℕ) (n start mask : ℕ) → n < length masks → start ≡ ones_in (take n masks) → mask ≡ get_or masks n 0 → IsNear masks (n + 1) (start + count_ones mask)
near_next masks n start mask within before is =
    let more : ones_in (take (n + 1) masks) ≡ ones_in (take n masks) + count_ones (get_or masks n 0) = sum_by_more count_ones masks n 0 within in
    record { within = omega (arith, within); before = omega (arith, more, before, ap count_ones is) }

-- the cells of a mask without bits of the ports after port 1
pub short_back : (mask : ℕ) (values : List ℤ) → mask / 4 % 64 ≡ 0
    → group_of mask values ≡ cell_of (mask % 2) values ∷ cell_of (mask / 2 % 2) (drop (mask % 2) values) ∷ six_absent ++ cell_of (mask / 256 % 2) (drop (mask / 2 % 2) (drop (mask % 2) values)) ∷ []
unfolding group_of
short_back mask values short =
    let b2 : mask / 2 / 2 % 2 ≡ 0 = omega (arith, short) in
    let b3 : mask / 2 / 2 / 2 % 2 ≡ 0 = omega (arith, short) in
    let b4 : mask / 2 / 2 / 2 / 2 % 2 ≡ 0 = omega (arith, short) in
    let b5 : mask / 2 / 2 / 2 / 2 / 2 % 2 ≡ 0 = omega (arith, short) in
    let b6 : mask / 2 / 2 / 2 / 2 / 2 / 2 % 2 ≡ 0 = omega (arith, short) in
    let b7 : mask / 2 / 2 / 2 / 2 / 2 / 2 / 2 % 2 ≡ 0 = omega (arith, short) in
    let b8 : mask / 2 / 2 / 2 / 2 / 2 / 2 / 2 / 2 % 2 ≡ mask / 256 % 2 = omega arith in
    rw (b2, b3, b4, b5, b6, b7, b8) refl

pub ones_three : (mask : ℕ) → mask % 2 + mask / 2 % 2 + mask / 256 % 2 ≤ count_ones mask
ones_three mask =
    let s0 : count_ones mask ≡ mask % 2 + count_ones (mask / 2) = ones_split mask in
    let s1 : count_ones (mask / 2) ≡ mask / 2 % 2 + count_ones (mask / 2 / 2) = ones_split (mask / 2) in
    let s2 : count_ones (mask / 2 / 2) ≡ mask / 2 / 2 % 2 + count_ones (mask / 2 / 2 / 2) = ones_split (mask / 2 / 2) in
    let s3 : count_ones (mask / 2 / 2 / 2) ≡ mask / 2 / 2 / 2 % 2 + count_ones (mask / 2 / 2 / 2 / 2) = ones_split (mask / 2 / 2 / 2) in
    let s4 : count_ones (mask / 2 / 2 / 2 / 2) ≡ mask / 2 / 2 / 2 / 2 % 2 + count_ones (mask / 2 / 2 / 2 / 2 / 2) = ones_split (mask / 2 / 2 / 2 / 2) in
    let s5 : count_ones (mask / 2 / 2 / 2 / 2 / 2) ≡ mask / 2 / 2 / 2 / 2 / 2 % 2 + count_ones (mask / 2 / 2 / 2 / 2 / 2 / 2) = ones_split (mask / 2 / 2 / 2 / 2 / 2) in
    let s6 : count_ones (mask / 2 / 2 / 2 / 2 / 2 / 2) ≡ mask / 2 / 2 / 2 / 2 / 2 / 2 % 2 + count_ones (mask / 2 / 2 / 2 / 2 / 2 / 2 / 2) = ones_split (mask / 2 / 2 / 2 / 2 / 2 / 2) in
    let s7 : count_ones (mask / 2 / 2 / 2 / 2 / 2 / 2 / 2) ≡ mask / 2 / 2 / 2 / 2 / 2 / 2 / 2 % 2 + count_ones (mask / 2 / 2 / 2 / 2 / 2 / 2 / 2 / 2) = ones_split (mask / 2 / 2 / 2 / 2 / 2 / 2 / 2) in
    let s8 : count_ones (mask / 2 / 2 / 2 / 2 / 2 / 2 / 2 / 2) ≡ mask / 2 / 2 / 2 / 2 / 2 / 2 / 2 / 2 % 2 + count_ones (mask / 2 / 2 / 2 / 2 / 2 / 2 / 2 / 2 / 2) = ones_split (mask / 2 / 2 / 2 / 2 / 2 / 2 / 2 / 2) in
    let b8 : mask / 2 / 2 / 2 / 2 / 2 / 2 / 2 / 2 % 2 ≡ mask / 256 % 2 = omega arith in
    omega (arith, s0, s1, s2, s3, s4, s5, s6, s7, s8, b8)
