-- The least of several numbers.
use Rattle.std.specs.Prelude.{◌≡◌, ◌<◌, ◌≤◌, ◌⊎◌, ℕ}

-- c is one of these numbers, and none of them is less
abbrev pub IsLeastAmong : (ℕ → Type 0) → ℕ → Type 0
IsLeastAmong P c = P c × ((d : ℕ) → P d → c ≤ d)

-- b, or one of these numbers
abbrev pub AtOrIn : ℕ → (ℕ → Type 0) → ℕ → Type 0
AtOrIn b P c = (c ≡ b) ⊎ P c

-- c is a number of one of the first n families
abbrev pub Below : ℕ → (ℕ → ℕ → Type 0) → ℕ → Type 0
Below n family c = (k : ℕ) × (k < n) × family k c
