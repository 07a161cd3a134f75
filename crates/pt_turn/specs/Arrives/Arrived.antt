-- One more row of a sensor.
use Rattle.std.specs.Prelude.{◌≡◌, ◌+◌, ◌<◌, ◌≤◌, ◌⊎◌, ◌++◌, ◌∷◌, ◌==◌, [], ℕ, Bool, List, None, Option, Some}
use Rattle.pt_types.specs.declared.graph.Graph.{Graph}
use Rattle.pt_types.specs.declared.kind.Kind.{Kind}
use Rattle.pt_types.specs.declared.kind.Kind.TheVariants.{Sensor as OfSensor}
use Rattle.pt_types.specs.declared.rows.Row.{Row}
use Rattle.pt_types.specs.Lookups.{kind_of}
use Rattle.pt_semantics.specs.Lists.{Each, IsIn}
use Rattle.pt_semantics.specs.Rows.{FitsRow, NeverFalls, TimesRise}
use Rattle.pt_turn.specs.declared.state.fields.Sensor.{Sensor}
use Rattle.pt_turn.specs.declared.arrive.unfit.Unfit.{Unfit}
use Rattle.pt_turn.specs.declared.arrive.unfit.Unfit.TheVariants as unfit

-- the sensor has one more row, after all others
abbrev pub with_row : Row → Sensor → Sensor
with_row row s = record s { rows = s.rows ++ row ∷ [] }

-- whether this is the sensor of actor a
abbrev pub is_of : ℕ → Sensor → Bool
is_of a s = s.actor == a

-- the bound of a sensor; other kinds have none
abbrev pub sensor_bound : Kind → Option ℕ
sensor_bound (OfSensor file bound) = Some bound
sensor_bound _ = None

-- a row may come next: it fits, it isn't seen before its time, its time is past those of all rows before it, it isn't seen before them, and it is seen after the
-- last reading of its platform
pub record IsNext (g : Graph) (a : ℕ) (rows : List Row) (last : Option ℕ) (row : Row) : Type 0 where
  pub fits : FitsRow g a row
  pub seen_after : row.time ≤ row.seen
  pub times : Each (λ (x : Row). x.time < row.time) rows
  pub seen : Each (λ (x : Row). x.seen ≤ row.seen) rows
  pub read : (p : ℕ) → last ≡ Some p → p < row.seen

-- the rows of a sensor are in order
abbrev pub AreInOrder : List Row → Type 0
AreInOrder rows = NeverFalls rows × TimesRise rows

-- a row was seen after this one
pub record IsSeenBefore (row : Row) (rows : List Row) : Type 0 where
  pub earlier : Row
  pub is_in : IsIn earlier rows
  pub seen : row.seen < earlier.seen

-- a row has this time or a later one
pub record IsNotAfter (row : Row) (rows : List Row) : Type 0 where
  pub earlier : Row
  pub is_in : IsIn earlier rows
  pub time : row.time ≤ earlier.time

-- the row is seen past its sensor's bound, which ends at this limit
pub record IsLate (g : Graph) (a : ℕ) (row : Row) (limit : ℕ) : Type 0 where
  pub file : List ℕ
  pub bound : ℕ
  pub sensor : kind_of g a ≡ OfSensor file bound
  pub ends : limit ≡ row.time + bound
  pub past : limit < row.seen

-- a row may not come next, for this reason
abbrev pub ShowsUnfit : Graph → ℕ → List Row → Option ℕ → Row → Unfit → Type 0
ShowsUnfit g a rows last row unfit.NoSensor = (file : List ℕ) (bound : ℕ) → kind_of g a ≡ OfSensor file bound → ⊥
ShowsUnfit g a rows last row unfit.NotAfter = IsNotAfter row rows
ShowsUnfit g a rows last row unfit.SeenEarly = row.seen < row.time
ShowsUnfit g a rows last row unfit.PastHorizon = g.until < row.time
ShowsUnfit g a rows last row (unfit.Late limit) = IsLate g a row limit
ShowsUnfit g a rows last row unfit.NotSeenNext = IsSeenBefore row rows ⊎ ((p : ℕ) × (last ≡ Some p) × (row.seen ≤ p))
ShowsUnfit g a rows last row unfit.Memory = Unit {0}
