-- Lines and the records of sensor files.
use Rattle.std.specs.Prelude.{◌≡◌, ℕ, List, Option, Some, Result, Ok, Err}
use Rattle.pt_types.specs.declared.rows.Row.{Row}
use Rattle.pt_sensors.specs.Rows.{row_of}
use Rattle.pt_sensors.specs.declared.fault.RowFault.TheVariants as file
use Rattle.pt_sensors.specs.declared.fault.RowFault.{RowFault as FileFault}
use Rattle.pt_feeds.specs.Lines.{sample_of}
use Rattle.pt_feeds.specs.declared.columns.Columns.TheVariants as columns
use Rattle.pt_feeds.specs.declared.fault.Column.{Column}
use Rattle.pt_feeds.specs.declared.fault.RowFault.{RowFault}
use Rattle.pt_feeds.specs.declared.fault.RowFault.TheVariants as fault
use Rattle.pt_feeds.specs.declared.sample.Sample.{Sample}

-- fields that are a row of a sensor file say its time and its value, and fields that are none have the same fault. A row that is only out
-- of order in its file says something here: each line is read by itself
abbrev pub SaysTheSame : Result Row FileFault → Result Sample RowFault → Type 0
SaysTheSame (Ok row) said = said ≡ Ok (record { time = Some row.time; value = row.value })
SaysTheSame (Err (file.Fields number)) said = said ≡ Err fault.Fields
SaysTheSame (Err (file.Number number)) said = (column : Column) × (said ≡ Err (fault.Number column))
SaysTheSame (Err _) said = (sample : Sample) × (said ≡ Ok sample)

-- under the columns of a sensor file, fields say what they say as a record of a sensor file, whatever its number and the row before it
abbrev pub SaysAsInFiles : Type 0
SaysAsInFiles = (number : ℕ) (before : Option Row) (fields : List (List ℕ)) → SaysTheSame (row_of number before fields) (sample_of columns.TimeSeenValue fields)
