-- What a text says of lags and transits, or its first fault.
use Rattle.std.specs.Prelude.{◌≡◌, ◌≢◌, ℕ, zero, suc, ◌+◌, List, [], ◌∷◌, ◌++◌, length, map, filter, find, Option, Some, None, Result, Ok, Err, nat_lt, option_map, unwrap_or, if◌then◌else◌}
use Rattle.std.specs.List.{range_with_len}
use Rattle.csv.specs.Machine.{Read}
use Rattle.csv.specs.Reading.{strip_bom}
use Rattle.csv.specs.declared.parser.State.{State}
use Rattle.csv.specs.declared.parser.State.TheVariants as st
use Rattle.pt_types.specs.declared.graph.Graph.{Graph}
use Rattle.pt_sensors.specs.Limits.{file_limits}
use Rattle.pt_sensors.specs.RowsOf.{next}
use Rattle.pt_types.specs.declared.air.Air.{Air}
use Rattle.pt_air.specs.declared.fault.AirFault.{AirFault}
use Rattle.pt_air.specs.declared.fault.AirFault.TheVariants as fault
use Rattle.pt_air.specs.declared.row.AirRow.{AirRow}
use Rattle.pt_air.specs.Bounds.{breach_of}
use Rattle.pt_air.specs.Rows.{◌>>=◌, is_air_header, is_lag_of, is_transit_on, air_row_of}

-- no record is left, or there are too many
abbrev pub air_ends : List AirRow → Option Read → Result (List AirRow) AirFault
air_ends rows None = Ok rows
air_ends rows (Some p) = Err fault.TooManyRows

-- the next record is a row, if there is one
abbrev pub air_goes_on : Graph → List AirRow → (List AirRow → State → List ℕ → Result (List AirRow) AirFault) → Option Read → Result (List AirRow) AirFault
air_goes_on g rows rest None = Ok rows
air_goes_on g rows rest (Some p) = air_row_of g (length rows + 1) rows p.0 >>= λ row. rest (rows ++ row ∷ []) p.1 p.2

-- all rows, from the rows so far on, if as many more may come as the first number says
unfoldable pub air_rows_from : Graph → ℕ → List AirRow → State → List ℕ → Result (List AirRow) AirFault
air_rows_from g zero rows s xs = air_ends rows (next s xs)
air_rows_from g (suc left) rows s xs = air_goes_on g rows (λ more. air_rows_from g left more) (next s xs)

-- the header, and then the rows
abbrev pub air_after_header : Graph → Option Read → Result (List AirRow) AirFault
air_after_header g None = Err fault.Header
air_after_header g (Some p) = if is_air_header p.0 then air_rows_from g (file_limits g.claims).rows [] p.1 p.2 else Err fault.Header

-- the rows of a text, within the limits of a file for the claims of the graph
unfoldable pub air_rows_of : Graph → List ℕ → Result (List AirRow) AirFault
air_rows_of g bytes = if nat_lt (file_limits g.claims).bytes (length bytes) then Err fault.TooLong else air_after_header g (next st.StartRecord (strip_bom bytes))

abbrev pub time_of : AirRow → ℕ
time_of row = row.time

-- the lag of platform p: that of its row, or 0 if it has none
abbrev pub lag_in : List AirRow → ℕ → ℕ
lag_in rows p = unwrap_or (option_map time_of (find (is_lag_of p) rows)) 0

-- the lags of all platforms
abbrev pub lags_of : Graph → List AirRow → List ℕ
lags_of g rows = map (lag_in rows) (range_with_len 0 (length g.platforms))

-- the transits on link l
abbrev pub row_transits : List AirRow → ℕ → List ℕ
row_transits rows l = map time_of (filter (is_transit_on l) rows)

-- what the rows of a file say
abbrev pub air_with : Graph → List AirRow → Air
air_with g rows = record {
  lags = lags_of g rows;
  transits = map (row_transits rows) (range_with_len 0 (length g.links));
  breach = breach_of g (lags_of g rows) rows;
}

-- what a text says, or its first fault
abbrev pub air_of : Graph → List ℕ → Result Air AirFault
air_of g bytes = air_rows_of g bytes >>= λ rows. Ok (air_with g rows)

-- a reader's result is the one that the definition gives, unless memory ran out
abbrev pub GivesAir : {A : Type 0} → Result A AirFault → Result A AirFault → Type 0
GivesAir read (Ok x) = read ≡ Ok x
GivesAir read (Err e) = e ≢ fault.Memory → read ≡ Err e
