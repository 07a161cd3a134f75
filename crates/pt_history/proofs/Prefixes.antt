-- The mask and the values of the first cells.
use Rattle.std.proofs.Common.{◌≡◌, ◌≤◌, ◌<◌, ◌+◌, ◌*◌, ◌^◌, ℕ, suc, None, Some, Option, ℤ, List, [], ◌∷◌, ◌++◌, refl, sym, ap, ap₂, ◌∙◌, arith, length}
use Rattle.std.proofs.Math.Nat.{pow-suc}
use Rattle.std.proofs.lemmas.List.{append_assoc, append-nil}
use Rattle.pt_history.specs.Cells.{bit_of, mask_of, value_in, values_in}

pub bit_small : (cell : Option ℤ) → bit_of cell ≤ 1
bit_small None = omega arith
bit_small (Some v) = omega arith

-- a mask has no more bits than cells
pub mask_below : (cells : List (Option ℤ)) → mask_of cells < 2 ^ length cells
mask_below [] = omega arith
mask_below (cell ∷ cells) =
    let rest : mask_of cells < 2 ^ length cells = mask_below cells in
    let double : 2 ^ suc (length cells) ≡ 2 ^ length cells * 2 = pow-suc 2 (length cells) in
    omega (arith, rest, double, bit_small cell)

-- the mask of two lists, one after the other
pub mask_both : (xs ys : List (Option ℤ)) → mask_of (xs ++ ys) ≡ mask_of xs + mask_of ys * 2 ^ length xs
mask_both [] ys = omega arith
mask_both (x ∷ xs) ys =
    let rest : mask_of (xs ++ ys) ≡ mask_of xs + mask_of ys * 2 ^ length xs = mask_both xs ys in
    let double : 2 ^ suc (length xs) ≡ 2 ^ length xs * 2 = pow-suc 2 (length xs) in
    let all : mask_of ys * 2 ^ suc (length xs) ≡ 2 * (mask_of ys * 2 ^ length xs) = ap (λ k. mask_of ys * k) double ∙ twice (mask_of ys) (2 ^ length xs) in
    omega (arith, rest, all)
  where
    twice : (a b : ℕ) → a * (b * 2) ≡ 2 * (a * b)
    twice a b = grind arith

pub values_both : (xs ys : List (Option ℤ)) → values_in (xs ++ ys) ≡ values_in xs ++ values_in ys
values_both [] ys = refl
values_both (x ∷ xs) ys = ap (λ vs. value_in x ++ vs) (values_both xs ys) ∙ sym (append_assoc (value_in x) (values_in xs) (values_in ys))

-- one cell more
pub mask_push : (xs : List (Option ℤ)) (x : Option ℤ) (n : ℕ) → length xs ≡ n → mask_of (xs ++ x ∷ []) ≡ mask_of xs + bit_of x * 2 ^ n
mask_push xs x n many =
    mask_both xs (x ∷ []) ∙ ap₂ (λ b k. mask_of xs + b * 2 ^ k) (one (bit_of x)) many
  where
    one : (b : ℕ) → b + 2 * 0 ≡ b
    one b = omega arith

pub values_push : (xs : List (Option ℤ)) (x : Option ℤ) → values_in (xs ++ x ∷ []) ≡ values_in xs ++ value_in x
values_push xs x = values_both xs (x ∷ []) ∙ ap (λ vs. values_in xs ++ vs) (append-nil (value_in x))

pub few_values : (xs : List (Option ℤ)) → length (values_in xs) ≤ length xs
few_values [] = omega arith
few_values (None ∷ xs) = let few = few_values xs in omega (arith, few)
few_values (Some v ∷ xs) = let few = few_values xs in omega (arith, few)
