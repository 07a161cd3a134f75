-- Faults of sensor files.
use Rattle.std.specs.Prelude.{ℕ}
use Rattle.pt_sensors.specs.declared.fault.RowFault.{RowFault}
use Rattle.pt_sensors.specs.declared.fault.RowFault.TheVariants as row
use Rattle.pt_sensor_files.specs.declared.recorded_fault.RecordedFault.{RecordedFault}
use Rattle.pt_sensor_files.specs.declared.recorded_fault.RecordedFault.TheVariants as fault

-- running out of memory is a fault of its own; every other fault is one of the sensor's file
abbrev pub fault_of_sensor : ℕ → RowFault → RecordedFault
fault_of_sensor actor row.Memory = fault.Memory
fault_of_sensor actor f = fault.Sensor actor f
