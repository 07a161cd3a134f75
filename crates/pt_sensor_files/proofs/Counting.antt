-- What a fault of rows leaves of a source's count of faults.
use Rattle.std.proofs.Common.{◌≡◌, ℕ, List, subst}
use Rattle.pt_types.specs.declared.rows.Row.{Row}
use Rattle.pt_sensor_files.specs.Counts.{LeavesCount}
use Rattle.pt_sensor_files.specs.Faults.{fault_of_sensor}
use Rattle.pt_sensor_files.specs.Files.{IsLateFault}
use Rattle.pt_sensors.specs.declared.fault.RowFault.{RowFault}
use Rattle.pt_sensors.specs.declared.fault.RowFault.TheVariants as row
use Rattle.pt_sensor_files.specs.declared.recorded_fault.RecordedFault.{RecordedFault}
use Rattle.pt_sensor_files.specs.declared.recorded_fault.RecordedFault.TheVariants as fault

pub rows_leave_count : (actor : ℕ) (f : RowFault) (before now : ℕ) → now ≡ before → LeavesCount (fault_of_sensor actor f) before now
rows_leave_count actor row.Memory before now h = tt
rows_leave_count actor row.TooLong before now h = h
rows_leave_count actor row.Header before now h = h
rows_leave_count actor (row.Fields n) before now h = h
rows_leave_count actor (row.Number n) before now h = h
rows_leave_count actor (row.TimeOrder n) before now h = h
rows_leave_count actor (row.SeenOrder n) before now h = h
rows_leave_count actor (row.SeenEarly n) before now h = h
rows_leave_count actor row.TooManyRows before now h = h

pub late_leaves_count : (f : RecordedFault) (actor : ℕ) (rows : List Row) (bound until before now : ℕ) → IsLateFault f actor rows bound until → now ≡ before → LeavesCount f before now
late_leaves_count fault.Memory actor rows bound until before now is h = tt
late_leaves_count (fault.Read sensor) actor rows bound until before now is h = absurd is
late_leaves_count (fault.Sensor named f) actor rows bound until before now is h = h
late_leaves_count (fault.Late named row seen limit) actor rows bound until before now is h = h

-- the same from an earlier call on that left the count as it was
pub count_from : (f : RecordedFault) (first before now : ℕ) → before ≡ first → LeavesCount f before now → LeavesCount f first now
count_from f first before now same h = subst (λ n. LeavesCount f n now) same h
