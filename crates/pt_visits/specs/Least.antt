-- The lesser of two readings or times.
use Rattle.std.specs.Prelude.{ℕ, None, Option, Some, min}

-- the lesser of two numbers, or the one that is there
abbrev pub lesser : Option ℕ → Option ℕ → Option ℕ
lesser None b = b
lesser (Some a) None = Some a
lesser (Some a) (Some b) = Some (min a b)
