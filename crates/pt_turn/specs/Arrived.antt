-- A platform with one more row of a sensor.
use Rattle.std.specs.Prelude.{◌≡◌, ◌<◌, ℕ, List, None, get_or, length}
use Rattle.pt_types.specs.declared.kind.Kind.TheVariants.{Sensor as OfSensor}
use Rattle.pt_types.specs.declared.rows.Row.{Row}
use Rattle.pt_types.specs.Lookups.{kind_of, platform_of}
use Rattle.pt_semantics.specs.Lists.{IsIn}
use Rattle.pt_turn.specs.declared.state.fields.Sensor.{Sensor}
use Rattle.pt_live_laws.specs.Growth.Growing.{followed, grown, just}
use Rattle.pt_turn.specs.Arrives.Arrived.{IsNext, ShowsUnfit}
use Rattle.pt_turn.specs.declared.arrive.unfit.Unfit.{Unfit}
use Rattle.pt_turn.specs.declared.arrive.unfit.Unfit.TheVariants as unfit
use Rattle.pt_turn.specs.Platforms.{PlatformView, rows_at, state_at}

-- the platform has one more row of this sensor, memory is reserved for no turn, and nothing else changed
pub record HasArrived (old new : PlatformView) (sensor : ℕ) (row : Row) : Type 0 where
  pub same : new ≡ record old { sensors = new.sensors; room = None }
  pub rows : (a : ℕ) → rows_at new a ≡ followed (rows_at old) (just sensor row) a
  pub state : state_at new ≡ grown (just sensor row) (state_at old)

-- the platform has this sensor, with or without rows
pub record HasSensor (v : PlatformView) (sensor : ℕ) : Type 0 where
  pub home : platform_of v.plan.graph sensor ≡ v.number
  pub file : List ℕ
  pub bound : ℕ
  pub kind : kind_of v.plan.graph sensor ≡ OfSensor file bound
  pub entry : Sensor
  pub is_in : IsIn entry v.sensors
  pub is_of : entry.actor ≡ sensor

-- a row of this sensor may come next on the platform
pub record MayArrive (v : PlatformView) (sensor : ℕ) (row : Row) : Type 0 where
  pub home : platform_of v.plan.graph sensor ≡ v.number
  pub next : IsNext v.plan.graph sensor (rows_at v sensor) v.reading row

-- a row of this sensor may not come next on the platform, for this reason
abbrev pub ShowsRefused : PlatformView → ℕ → Row → Unfit → Type 0
ShowsRefused v sensor row unfit.NoSensor = HasSensor v sensor → ⊥
ShowsRefused v sensor row why = ShowsUnfit v.plan.graph sensor (rows_at v sensor) v.reading row why

-- the sensor at this place is this one, and a row of it may come next
pub record MayArriveAt (v : PlatformView) (sensor : ℕ) (row : Row) (place : ℕ) : Type 0 where
  pub within : place < length v.sensors
  pub actor : (d : Sensor) → (get_or v.sensors place d).actor ≡ sensor
  pub may : MayArrive v sensor row
