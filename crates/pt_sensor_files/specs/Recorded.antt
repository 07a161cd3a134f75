-- The rows of the sensors of a graph, or why there are none.
use Rattle.std.specs.Prelude.{◌≡◌, ◌<◌, ◌+◌, ◌++◌, ℕ, List, [], Some, None, Ok, Err, slice_get}
use Rattle.pt_types.specs.declared.graph.Graph.{Graph}
use Rattle.pt_types.specs.declared.rows.Row.{Row}
use Rattle.pt_types.specs.declared.kind.Kind.{Kind}
use Rattle.pt_types.specs.declared.kind.Kind.TheVariants.{Sensor}
use Rattle.pt_sensors.specs.declared.limits.FileLimits.{FileLimits}
use Rattle.pt_sensors.specs.declared.fault.RowFault.{RowFault}
use Rattle.pt_sensors.specs.Limits.{file_limits}
use Rattle.pt_sensors.specs.RowsOf.{rows_of}
use Rattle.pt_sensors.specs.Late.{late_row}
use Rattle.pt_types.specs.Lookups.{kind_of}
use Rattle.pt_sensor_files.specs.declared.recorded_fault.LateRows.{LateRows}
use Rattle.pt_sensor_files.specs.declared.recorded_fault.LateRows.TheVariants as late
use Rattle.pt_sensor_files.specs.declared.recorded_fault.RecordedFault.{RecordedFault}
use Rattle.pt_sensor_files.specs.declared.recorded_fault.RecordedFault.TheVariants as fault
use Rattle.pt_sensor_files.specs.Asked.{ReadFails, files_before}
use Rattle.pt_sensor_files.specs.Bytes.{OfBytes}
use Rattle.pt_io.specs.Calls.{Contents, SourceCall}

-- a sensor has the rows of its file, within these limits, and other kinds have none
abbrev pub RowsOfKind : FileLimits → Contents → Kind → List Row → Type 0
RowsOfKind limits contents (Sensor file bound) rows = OfBytes (contents file) (λ bytes. rows_of limits bytes ≡ Ok rows)
RowsOfKind limits contents _ rows = rows ≡ []

-- each actor has its rows
abbrev pub AreRows : Contents → Graph → (ℕ → List Row) → Type 0
AreRows contents g rows = (a : ℕ) → RowsOfKind (file_limits g.claims) contents (kind_of g a) (rows a)

-- no row of a sensor up to the horizon is late
abbrev pub InTime : ℕ → Kind → List Row → Type 0
InTime until (Sensor file bound) rows = late_row bound until rows ≡ None
InTime until _ rows = Unit {0}

-- if late rows are refused, none of these is late
abbrev pub RowsPass : LateRows → ℕ → Kind → List Row → Type 0
RowsPass late.Refused until kind rows = InTime until kind rows
RowsPass late.Taken until kind rows = Unit {0}

-- if late rows are refused, no actor has one
abbrev pub AllPass : LateRows → Graph → (ℕ → List Row) → Type 0
AllPass l g rows = (a : ℕ) → RowsPass l g.until (kind_of g a) (rows a)

-- each of the first n actors has rows that pass
abbrev pub HaveRows : LateRows → Contents → Graph → ℕ → Type 0
HaveRows l contents g n = (a : ℕ) → a < n → (rows : List Row) × RowsOfKind (file_limits g.claims) contents (kind_of g a) rows × RowsPass l g.until (kind_of g a) rows

-- the actor is the first that gives no rows: a sensor whose file has this fault
pub record SensorFails (l : LateRows) (contents : Contents) (g : Graph) (actor : ℕ) (f : RowFault) : Type 0 where
  pub earlier : HaveRows l contents g actor
  pub file : List ℕ
  pub bound : ℕ
  pub sensor : kind_of g actor ≡ Sensor file bound
  pub fails : OfBytes (contents file) (λ bytes. rows_of (file_limits g.claims) bytes ≡ Err f)

-- the actor is the first that gives no rows: a sensor whose file could not be read
pub record SensorUnread (l : LateRows) (contents : Contents) (g : Graph) (actor : ℕ) (others : List (List ℕ)) (r : SourceCall) : Type 0 where
  pub earlier : HaveRows l contents g actor
  pub file : List ℕ
  pub bound : ℕ
  pub sensor : kind_of g actor ≡ Sensor file bound
  pub failed : ReadFails (others ++ files_before g actor) file r

-- row number `row`, from 1, is the first late one; it is seen at `seen`, and should have been by `limit`
pub record IsLateRow (rows : List Row) (until bound row seen limit : ℕ) : Type 0 where
  pub first : late_row bound until rows ≡ Some row
  pub it : Row
  pub there : (i : ℕ) × (row ≡ i + 1) × (slice_get rows i ≡ Some it)
  pub seen_then : seen ≡ it.seen
  pub by : limit ≡ it.time + bound
  pub past : limit < seen

-- the actor is the first that gives no rows: a sensor with a late row
pub record SensorLate (contents : Contents) (g : Graph) (actor row seen limit : ℕ) : Type 0 where
  pub earlier : HaveRows late.Refused contents g actor
  pub file : List ℕ
  pub bound : ℕ
  pub sensor : kind_of g actor ≡ Sensor file bound
  pub rows : List Row
  pub read : OfBytes (contents file) (λ bytes. rows_of (file_limits g.claims) bytes ≡ Ok rows)
  pub is_late : IsLateRow rows g.until bound row seen limit

-- why the sensors of a graph gave no rows; the names in `others` were asked for before their files
abbrev pub CauseOfRows : LateRows → RecordedFault → Contents → Graph → List (List ℕ) → SourceCall → Type 0
CauseOfRows l fault.Memory contents g others r = Unit {0}
CauseOfRows l (fault.Read actor) contents g others r = SensorUnread l contents g actor others r
CauseOfRows l (fault.Sensor actor f) contents g others r = SensorFails l contents g actor f
CauseOfRows l (fault.Late actor row seen limit) contents g others r = (l ≡ late.Refused) × SensorLate contents g actor row seen limit
