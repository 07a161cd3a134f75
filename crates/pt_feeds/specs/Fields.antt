-- The fields of a line.
use Rattle.std.specs.Prelude.{ℕ, ◌-◌, ◌==◌, List, [], ◌∷◌, length, take, Option, Some, None, slice_index, if◌then◌else◌}

-- a line without the carriage return that may end it
abbrev pub without_return : List ℕ → List ℕ
without_return line = if slice_index line (length line - 1) == 13 then take (length line - 1) line else line

-- a byte at the front of the first field
abbrev pub in_front : ℕ → List (List ℕ) → List (List ℕ)
in_front byte [] = (byte ∷ []) ∷ []
in_front byte (field ∷ fields) = (byte ∷ field) ∷ fields

-- the fields of a line: what lies between its commas
abbrev pub fields : List ℕ → List (List ℕ)
fields [] = [] ∷ []
fields (byte ∷ bytes) = if byte == 44 then [] ∷ fields bytes else in_front byte (fields bytes)

-- the fields of a line that was cut at its first comma, or has none
abbrev pub fields_by : Option (List ℕ × List ℕ) → List ℕ → List (List ℕ)
fields_by None line = line ∷ []
fields_by (Some c) line = c.0 ∷ fields c.1

-- the field, if it is the only one
abbrev pub one : List (List ℕ) → Option (List ℕ)
one (a ∷ []) = Some a
one _ = None

-- the fields, if there are two
abbrev pub two : List (List ℕ) → Option (List ℕ × List ℕ)
two (a ∷ (b ∷ [])) = Some (a, b)
two _ = None

-- the fields, if there are three
abbrev pub three : List (List ℕ) → Option (List ℕ × List ℕ × List ℕ)
three (a ∷ (b ∷ (c ∷ []))) = Some (a, b, c)
three _ = None
