-- The greatest of some optional numbers.
use Rattle.std.specs.Prelude.{◌≡◌, ◌<◌, ◌≤ℤ◌, ℕ, ℤ, None, Option, Some}
use Rattle.std.specs.Int.{int_max}

-- o is the greatest of the numbers f 0 to f (n - 1) that are present
pub record IsGreatest (n : ℕ) (f : ℕ → Option ℤ) (o : ℤ) : Type 0 where
  pub at : ℕ
  pub below : at < n
  pub there : f at ≡ Some o
  pub greatest : (k : ℕ) (x : ℤ) → k < n → f k ≡ Some x → x ≤ℤ o

-- the greatest of the numbers f 0 to f (n - 1) that are present; none exactly if none is
abbrev pub HasGreatest : ℕ → (ℕ → Option ℤ) → Option ℤ → Type 0
HasGreatest n f None = (k : ℕ) → k < n → f k ≡ None
HasGreatest n f (Some o) = IsGreatest n f o

-- the greater of two optional numbers
abbrev pub greater : Option ℤ → Option ℤ → Option ℤ
greater None y = y
greater (Some x) None = Some x
greater (Some x) (Some y) = Some (int_max x y)
