use Rattle.std.proofs.Common.{◌≡◌, ℕ, drop}
use Rattle.pt_semantics.specs.Lists.{Each}
use Rattle.pt_semantics.specs.Meaning.{added}
use Rattle.pt_meaning.specs.Waiting.{rank_in}
use Rattle.pt_meaning.specs.Early.{early_waits, AreEarly}
use Rattle.pt_meaning.specs.Opening.{rows_from_sensors}
use Rattle.pt_sensors.specs.Listed.{IsOfActors}
use Rattle.pt_meaning.proofs.opening.enter_sensors.Given as goal

abbrev pub invariant-loop-sensor : goal.invariant-loop-sensor
invariant-loop-sensor l = record {
  waits : added (early_waits l.events.items) (rows_from_sensors l.until (drop l.sensor-index l.sensors)) ≡ added (early_waits l.fn.events.items) (rows_from_sensors l.until l.sensors);
  sound : (actors : ℕ) → Each (IsOfActors actors) l.sensors → AreEarly (rank_in l.ranks) actors l.fn.events.items → AreEarly (rank_in l.ranks) actors l.events.items;
}
