-- Weighted sums that fit their types.
use Rattle.std.specs.Prelude.{ℤ, pos, ◌+ℤ◌, ◌≤ℤ◌, int_div, FitsSigned}
use Rattle.std.specs.Int.{w64, w128}

-- the sum of x and y fits in 128 bits, and the sum divided by den in 64 bits
pub record HasMean (x y den : ℤ) : Type 0 where
  pub sum : FitsSigned w128 (x +ℤ y)
  pub positive : pos 1 ≤ℤ den
  pub mean : FitsSigned w64 (int_div (x +ℤ y) den)
