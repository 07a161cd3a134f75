-- What a call that gave no rows left of its source's count of faults.
use Rattle.std.specs.Prelude.{◌≡◌, ℕ}
use Rattle.pt_io.specs.Causes.{Rose}
use Rattle.pt_sensor_files.specs.declared.recorded_fault.RecordedFault.{RecordedFault}
use Rattle.pt_sensor_files.specs.declared.recorded_fault.RecordedFault.TheVariants as fault

-- the count rose if a file couldn't be read, and is as it was after a fault of rows; nothing is said if memory ran out
abbrev pub LeavesCount : RecordedFault → ℕ → ℕ → Type 0
LeavesCount fault.Memory before now = Unit {0}
LeavesCount (fault.Read sensor) before now = Rose before now
LeavesCount _ before now = now ≡ before
