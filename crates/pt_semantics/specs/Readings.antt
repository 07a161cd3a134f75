-- Histories and the readings at which their turns were made.
use Rattle.std.specs.Prelude.{◌≡◌, ◌++◌, ◌∷◌, if◌then◌else◌, [], ℕ, List, length, nat_le}
use Rattle.pt_semantics.specs.Turn.{Turn}

-- the greater of two readings
abbrev pub later_of : ℕ → ℕ → ℕ
later_of p r = if nat_le p r then r else p

-- each reading, raised to the greatest before it if that is greater; p is the greatest before the list
abbrev pub raised_from : ℕ → List ℕ → List ℕ
raised_from p [] = []
raised_from p (r ∷ readings) = later_of p r ∷ raised_from (later_of p r) readings

-- the raised readings of a clock: they never fall
abbrev pub raised_list : List ℕ → List ℕ
raised_list readings = raised_from 0 readings

-- the greatest of p and these readings
abbrev pub greatest_of : ℕ → List ℕ → ℕ
greatest_of p [] = p
greatest_of p (r ∷ readings) = greatest_of (later_of p r) readings

-- these readings are those of a turn: as many as it counts, from its first reading to its last
pub record IsPiece (turn : Turn) (piece : List ℕ) : Type 0 where
  pub count : length piece ≡ turn.count
  pub first : (later : List ℕ) × (piece ≡ turn.first ∷ later)
  pub last : (before : List ℕ) × (piece ≡ before ++ turn.last ∷ [])

-- the readings are split into consecutive pieces, one for each turn
abbrev pub ArePieces : List Turn → List ℕ → Type 0
ArePieces [] readings = readings ≡ []
ArePieces (turn ∷ turns) readings = (piece : List ℕ) × (rest : List ℕ) × (readings ≡ piece ++ rest) × IsPiece turn piece × ArePieces turns rest

-- a history is read by a list of readings: the raised readings, cut into pieces, are those of its turns
abbrev pub IsReadBy : List Turn → List ℕ → Type 0
IsReadBy turns readings = ArePieces turns (raised_list readings)
