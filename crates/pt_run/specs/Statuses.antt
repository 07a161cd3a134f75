-- The status of each answer.
use Rattle.std.specs.Prelude.{ℕ, List, [], ◌∷◌, Option, Some, None}
use Rattle.pt_history.specs.declared.miss.Miss.{Miss}
use Rattle.pt_run.specs.declared.fault.Fault.{Fault}
use Rattle.pt_run.specs.declared.fault.Fault.TheVariants as fault

-- the status of a fault
abbrev pub status_of_fault : Fault → ℕ
status_of_fault fault.Usage = 1
status_of_fault (fault.Graph f) = 2
status_of_fault (fault.Cycle actors) = 2
status_of_fault (fault.Infeasible send offset slack) = 2
status_of_fault (fault.Ring sends gain) = 2
status_of_fault (fault.Sensor actor f) = 3
status_of_fault (fault.LateRow actor row seen limit) = 4
status_of_fault (fault.LateMessage platform actor tag reading limit) = 4
status_of_fault (fault.LateAir platform actor tag reading limit row) = 4
status_of_fault (fault.Long platform) = 6
status_of_fault (fault.Read sensor) = 7
status_of_fault fault.ReadLog = 7
status_of_fault (fault.Air f) = 3
status_of_fault fault.ReadAir = 7
status_of_fault (fault.Unlawful verdict) = 10
status_of_fault fault.Write = 8
status_of_fault fault.Memory = 9

-- without a fault it is 0, or 5 if something was missed
abbrev pub status_of : Option Fault → List Miss → ℕ
status_of None [] = 0
status_of None (miss ∷ misses) = 5
status_of (Some f) misses = status_of_fault f
