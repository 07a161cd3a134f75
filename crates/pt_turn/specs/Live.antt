-- The entries of the sensors of a platform whose rows are still to come.
use Rattle.std.specs.Prelude.{◌≡◌, slice_get, ◌==◌, [], ℕ, Bool, List, None, Option, Some, false, true, filter_map, if◌then◌else◌, length}
use Rattle.std.specs.List.{range_with_len}
use Rattle.pt_types.specs.declared.graph.Graph.{Graph}
use Rattle.pt_types.specs.declared.kind.Kind.{Kind}
use Rattle.pt_types.specs.declared.kind.Kind.TheVariants.{Sensor as OfSensor}
use Rattle.pt_types.specs.Lookups.{kind_of, platform_of}
use Rattle.pt_sensors.specs.declared.sensor_rows.SensorRows.{SensorRows}
use Rattle.pt_turn.specs.Arrived.{HasSensor}
use Rattle.pt_turn.specs.Platforms.{PlatformView}

-- whether an actor of this kind is a sensor
abbrev pub is_sensor : Kind → Bool
is_sensor (OfSensor file bound) = true
is_sensor _ = false

-- an entry of a sensor of platform i, without rows; none for other actors
abbrev pub empty_entry : Graph → ℕ → ℕ → Option SensorRows
empty_entry g i a = if platform_of g a == i then (if is_sensor (kind_of g a) then Some (record { actor = a; rows = [] }) else None) else None

-- the entries of all sensors of platform i, without rows, in the order of the graph
abbrev pub empty_entries : Graph → ℕ → List SensorRows
empty_entries g i = filter_map (empty_entry g i) (range_with_len 0 (length g.actors))

-- each sensor of each of these platforms has an entry, so that its rows can arrive
abbrev pub HaveSensors : Graph → List PlatformView → Type 0
HaveSensors g platforms = (i a : ℕ) (v : PlatformView) (file : List ℕ) (bound : ℕ) → slice_get platforms i ≡ Some v → platform_of g a ≡ i → kind_of g a ≡ OfSensor file bound → HasSensor v a
