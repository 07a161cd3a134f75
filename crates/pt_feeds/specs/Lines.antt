-- The rows of lines, each given without its line feed.
use Rattle.std.specs.Prelude.{ℕ, List, [], ◌∷◌, Option, Some, None, Result, Ok, Err, bytes_eq, codes, if◌then◌else◌}
use Rattle.pt_sensors.specs.Numbers.{limited, signed}
use Rattle.pt_feeds.specs.Fields.{fields, without_return}
use Rattle.pt_feeds.specs.declared.columns.Columns.{Columns}
use Rattle.pt_feeds.specs.declared.columns.Columns.TheVariants as columns
use Rattle.pt_feeds.specs.declared.fault.Column.{Column}
use Rattle.pt_feeds.specs.declared.fault.Column.TheVariants as column
use Rattle.pt_feeds.specs.declared.fault.RowFault.{RowFault}
use Rattle.pt_feeds.specs.declared.fault.RowFault.TheVariants as fault
use Rattle.pt_feeds.specs.declared.sample.Sample.{Sample}

-- the columns that a head says
abbrev pub columns_of_head : List ℕ → Result Columns RowFault
columns_of_head head =
    if bytes_eq head (codes "value") then Ok columns.Value
    else if bytes_eq head (codes "time,value") then Ok columns.TimeValue
    else if bytes_eq head (codes "time,seen,value") then Ok columns.TimeSeenValue
    else Err fault.Header

-- the columns that a first line says
abbrev pub columns_of : List ℕ → Result Columns RowFault
columns_of line = columns_of_head (without_return line)

infixl 10 ◌>>=◌
abbrev pub ◌>>=◌ : {A B : Type 0} → Result A RowFault → (A → Result B RowFault) → Result B RowFault
(Ok x) >>= f = f x
(Err e) >>= f = Err e

-- the number in a column, or that there is none
abbrev pub number_in : {A : Type 0} → Column → Option A → Result A RowFault
number_in column None = Err (fault.Number column)
number_in column (Some n) = Ok n

-- what these fields say under these columns. Their numbers are written as in sensor files
abbrev pub sample_of : Columns → List (List ℕ) → Result Sample RowFault
sample_of columns.Value (value ∷ []) = do
  value ← number_in column.Value (signed value)
  Ok (record { time = None; value = value })
sample_of columns.TimeValue (time ∷ (value ∷ [])) = do
  time ← number_in column.Time (limited 1000000000000000 time)
  value ← number_in column.Value (signed value)
  Ok (record { time = Some time; value = value })
sample_of columns.TimeSeenValue (time ∷ (seen ∷ (value ∷ []))) = do
  time ← number_in column.Time (limited 1000000000000000 time)
  seen ← number_in column.Seen (limited 10000000000000000 seen)
  value ← number_in column.Value (signed value)
  Ok (record { time = Some time; value = value })
sample_of columns _ = Err fault.Fields

-- what a line says under these columns
abbrev pub row_of_line : Columns → List ℕ → Result Sample RowFault
row_of_line columns line = sample_of columns (fields (without_return line))
