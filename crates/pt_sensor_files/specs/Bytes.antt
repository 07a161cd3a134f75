-- The bytes of a file.
use Rattle.std.specs.Prelude.{ℕ, List, Option, Some, None}

-- this holds of the bytes of a file: of those that the source reports, if it does, and else of some
abbrev pub OfBytes : Option (List ℕ) → (List ℕ → Type 0) → Type 0
OfBytes (Some bytes) Holds = Holds bytes
OfBytes None Holds = (bytes : List ℕ) × Holds bytes
