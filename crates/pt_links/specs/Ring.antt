-- A ring buffer.
use Rattle.std.specs.Prelude.{ℕ, ◌++◌, List, drop, take}

-- the n items from index k on, continuing at the start after the end
abbrev pub window : {X : Type 0} → ℕ → ℕ → List X → List X
window k n xs = take n (drop k xs ++ take k xs)
