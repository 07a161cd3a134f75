-- The lines that report faults of sensor files and late rows.
use Rattle.std.specs.Prelude.{ℕ, List, [], ◌∷◌, ◌++◌, codes}
use Rattle.std.specs.Fmt.{decimal}
use Rattle.pt_sensors.specs.declared.fault.RowFault.{RowFault}
use Rattle.pt_sensors.specs.declared.fault.RowFault.TheVariants as fault

-- the text of a fault
abbrev pub row_fault_text : RowFault → List ℕ
row_fault_text fault.Memory = codes "memory"
row_fault_text fault.TooLong = codes "too long"
row_fault_text fault.Header = codes "header"
row_fault_text (fault.Fields n) = codes "fields at row " ++ decimal n
row_fault_text (fault.Number n) = codes "number at row " ++ decimal n
row_fault_text (fault.TimeOrder n) = codes "time order at row " ++ decimal n
row_fault_text (fault.SeenOrder n) = codes "seen order at row " ++ decimal n
row_fault_text (fault.SeenEarly n) = codes "seen early at row " ++ decimal n
row_fault_text fault.TooManyRows = codes "too many rows"

-- the line for a fault of a sensor's file
abbrev pub sensor_fault_line : List ℕ → RowFault → List ℕ
sensor_fault_line name e = codes "sensor " ++ name ++ codes ": " ++ row_fault_text e ++ 10 ∷ []

-- the line for a late row
abbrev pub late_line : List ℕ → ℕ → ℕ → ℕ → List ℕ
late_line name row seen limit = codes "late " ++ name ++ codes " row " ++ decimal row ++ codes ", seen " ++ decimal seen ++ codes " past " ++ decimal limit ++ 10 ∷ []
