-- Numbers of which the first ones are in order.
use Rattle.std.specs.Prelude.{◌+◌, ◌++◌, ℕ, zero, suc, List, [], ◌∷◌}

-- n numbers in a row, from k on
abbrev pub numbers_from : ℕ → ℕ → List ℕ
numbers_from k zero = []
numbers_from k (suc n) = k ∷ numbers_from (k + 1) n

-- numbers of which the first `in_order` are 0, 1, 2 and so on, and are not stored
abbrev pub numbers_with : ℕ → List ℕ → List ℕ
numbers_with in_order stored = numbers_from 0 in_order ++ stored
