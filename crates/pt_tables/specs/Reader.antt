-- A reader of the turns of a platform.
use Rattle.std.specs.Prelude.{ℕ, List}
use Rattle.pt_semantics.specs.Turn.{Turn}
use Rattle.pt_tables.specs.declared.reader.Reader.{Reader}
use Rattle.pt_tables.specs.TurnLine.{IsKeptLine}
use Rattle.pt_tables.specs.Walk.{IsAtTurn, IsLastBefore}

-- a reader has come to turn n
pub record HasComeTo (turns : List Turn) (n : ℕ) (reader : Reader) : Type 0 where
  pub line : IsKeptLine reader.line
  pub last : IsLastBefore turns n reader.line.last
  pub walk : IsAtTurn turns n reader.walk
