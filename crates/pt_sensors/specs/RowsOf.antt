-- The rows of a text, or their first fault.
use Rattle.std.specs.Prelude.{◌≡◌, ◌≢◌, ℕ, zero, suc, ◌+◌, List, [], ◌∷◌, length, Option, Some, None, Result, Ok, Err, nat_lt, if◌then◌else◌}
use Rattle.csv.specs.Machine.{Read, next_record}
use Rattle.csv.specs.Reading.{default_config, strip_bom}
use Rattle.csv.specs.declared.parser.State.{State}
use Rattle.csv.specs.declared.parser.State.TheVariants as st
use Rattle.pt_sensors.specs.Rows.{◌>>=◌, row_of, is_header}
use Rattle.pt_types.specs.declared.rows.Row.{Row}
use Rattle.pt_sensors.specs.declared.limits.FileLimits.{FileLimits}
use Rattle.pt_sensors.specs.declared.fault.RowFault.{RowFault}
use Rattle.pt_sensors.specs.declared.fault.RowFault.TheVariants as fault

-- the next record that csv reads
abbrev pub next : State → List ℕ → Option Read
next s xs = next_record default_config s [] [] xs

abbrev pub row_in_front : Row → Result (List Row) RowFault → Result (List Row) RowFault
row_in_front row (Ok rows) = Ok (row ∷ rows)
row_in_front row (Err e) = Err e

-- no record is left, or there are too many
abbrev pub ends : Option Read → Result (List Row) RowFault
ends None = Ok []
ends (Some p) = Err fault.TooManyRows

-- the result from the next record on, if there is one
abbrev pub goes_on : ℕ → Option Row → (Row → State → List ℕ → Result (List Row) RowFault) → Option Read → Result (List Row) RowFault
goes_on n before rest None = Ok []
goes_on n before rest (Some p) = row_of n before p.0 >>= λ row. row_in_front row (rest row p.1 p.2)

-- the result from row n on, if as many more rows may come as the first number says
unfoldable pub rows_from : ℕ → ℕ → Option Row → State → List ℕ → Result (List Row) RowFault
rows_from zero n before s xs = ends (next s xs)
rows_from (suc left) n before s xs = goes_on n before (λ row. rows_from left (n + 1) (Some row)) (next s xs)

-- the header, and then the rows
abbrev pub after_header : FileLimits → Option Read → Result (List Row) RowFault
after_header limits None = Err fault.Header
after_header limits (Some p) = if is_header p.0 then rows_from limits.rows 1 None p.1 p.2 else Err fault.Header

-- the rows of a text that is not too long
abbrev pub rows_in : FileLimits → List ℕ → Result (List Row) RowFault
rows_in limits bytes = after_header limits (next st.StartRecord (strip_bom bytes))

-- the rows of a text, within these limits
unfoldable pub rows_of : FileLimits → List ℕ → Result (List Row) RowFault
rows_of limits bytes = if nat_lt limits.bytes (length bytes) then Err fault.TooLong else rows_in limits bytes

-- a reader's result is the one that the definition gives, unless memory ran out
abbrev pub GivesRows : {A : Type 0} → Result A RowFault → Result A RowFault → Type 0
GivesRows read (Ok x) = read ≡ Ok x
GivesRows read (Err e) = e ≢ fault.Memory → read ≡ Err e
