-- The file of one sensor.
use Rattle.std.specs.Prelude.{◌≡◌, ℕ, List, [], Ok, Err}
use Rattle.pt_types.specs.declared.graph.Graph.{Graph}
use Rattle.pt_types.specs.declared.rows.Row.{Row}
use Rattle.pt_types.specs.declared.kind.Kind.TheVariants.{Sensor}
use Rattle.pt_sensors.specs.declared.limits.FileLimits.{FileLimits}
use Rattle.pt_sensors.specs.Limits.{file_limits}
use Rattle.pt_sensors.specs.RowsOf.{rows_of}
use Rattle.pt_types.specs.Lookups.{kind_of}
use Rattle.pt_sensor_files.specs.declared.recorded_fault.LateRows.{LateRows}
use Rattle.pt_sensor_files.specs.declared.recorded_fault.LateRows.TheVariants as late
use Rattle.pt_sensor_files.specs.declared.recorded_fault.RecordedFault.{RecordedFault}
use Rattle.pt_sensor_files.specs.declared.recorded_fault.RecordedFault.TheVariants as fault
use Rattle.pt_sensor_files.specs.Asked.{ReadFails}
use Rattle.pt_sensor_files.specs.Bytes.{OfBytes}
use Rattle.pt_io.specs.Calls.{Contents, SourceCall}
use Rattle.pt_sensor_files.specs.Recorded.{IsLateRow}

-- why the file with this name gave no rows within these limits
abbrev pub CauseOfFile : FileLimits → ℕ → RecordedFault → Contents → List ℕ → SourceCall → Type 0
CauseOfFile limits actor fault.Memory contents file r = Unit {0}
CauseOfFile limits actor (fault.Read named) contents file r = (named ≡ actor) × ReadFails [] file r
CauseOfFile limits actor (fault.Sensor named f) contents file r = (named ≡ actor) × OfBytes (contents file) (λ bytes. rows_of limits bytes ≡ Err f)
CauseOfFile limits actor (fault.Late named row seen limit) contents file r = ⊥

-- the fault is that of the first late row of these rows
abbrev pub IsLateFault : RecordedFault → ℕ → List Row → ℕ → ℕ → Type 0
IsLateFault (fault.Late named row seen limit) actor rows bound until = (named ≡ actor) × IsLateRow rows until bound row seen limit
IsLateFault _ actor rows bound until = ⊥

-- the actor is a sensor, and Fact holds for its file and its bound
abbrev pub IsSensorWith : Graph → ℕ → (List ℕ → ℕ → Type 0) → Type 0
IsSensorWith g actor Fact = (file : List ℕ) × (bound : ℕ) × (kind_of g actor ≡ Sensor file bound) × Fact file bound

-- why an actor gave no rows
abbrev pub CauseOfActor : LateRows → RecordedFault → Contents → Graph → ℕ → SourceCall → Type 0
CauseOfActor l fault.Memory contents g actor r = Unit {0}
CauseOfActor l (fault.Read named) contents g actor r = (named ≡ actor) × IsSensorWith g actor (λ file bound. ReadFails [] file r)
CauseOfActor l (fault.Sensor named f) contents g actor r = (named ≡ actor) × IsSensorWith g actor (λ file bound. OfBytes (contents file) (λ bytes. rows_of (file_limits g.claims) bytes ≡ Err f))
CauseOfActor l (fault.Late named row seen limit) contents g actor r =
    (named ≡ actor) × (l ≡ late.Refused) × IsSensorWith g actor (λ file bound. (rows : List Row) × OfBytes (contents file) (λ bytes. rows_of (file_limits g.claims) bytes ≡ Ok rows) × IsLateRow rows g.until bound row seen limit)
