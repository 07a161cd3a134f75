-- The lines that report faults of air files.
use Rattle.std.specs.Prelude.{ℕ, List, [], ◌∷◌, ◌++◌, codes}
use Rattle.std.specs.Fmt.{decimal}
use Rattle.pt_air.specs.declared.fault.AirFault.{AirFault}
use Rattle.pt_air.specs.declared.fault.AirFault.TheVariants as fault

-- the text of a fault
abbrev pub air_fault_text : AirFault → List ℕ
air_fault_text fault.Memory = codes "memory"
air_fault_text fault.TooLong = codes "too long"
air_fault_text fault.Header = codes "header"
air_fault_text (fault.Form n) = codes "form at row " ++ decimal n
air_fault_text (fault.Unknown n) = codes "unknown at row " ++ decimal n
air_fault_text (fault.Number n) = codes "number at row " ++ decimal n
air_fault_text (fault.Repeated n) = codes "repeated at row " ++ decimal n
air_fault_text fault.TooManyRows = codes "too many rows"

-- the line for a fault
abbrev pub air_fault_line : AirFault → List ℕ
air_fault_line e = codes "air: " ++ air_fault_text e ++ 10 ∷ []
