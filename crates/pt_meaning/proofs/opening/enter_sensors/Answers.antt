use Rattle.std.proofs.Common.{◌≡◌, ◌≤◌, ◌∙◌, ap, sym, arith, length, get_or, subst}
use Rattle.std.proofs.lemmas.List.{get_or_default}
use Rattle.pt_sensors.specs.declared.sensor_rows.SensorRows.{SensorRows}
use Rattle.pt_semantics.specs.Meaning.{added}
use Rattle.pt_meaning.specs.Early.{early_waits}
use Rattle.pt_meaning.specs.Opening.{rows_of_actor, rows_from_sensors}
use Rattle.pt_sensors.specs.Listed.{IsOfActors}
use Rattle.pt_meaning.proofs.Emitting.{each_at}
use Rattle.pt_meaning.proofs.Opens.{on_from, on_end, sensors_step, sensors_end, no_sensor}
use Rattle.pt_meaning.proofs.opening.enter_sensors.Goals as goal

pub loop-sensor-preserved : goal.loop-sensor-preserved
loop-sensor-preserved c =
    let until = c.args.until in let i = c.loop-sensor.sensor-index in
    let sensor : SensorRows = get_or c.args.sensors.now i no_sensor in
    let same : c.sensor-item.result ≡ sensor = c.sensor-item.is ∙ get_or_default c.args.sensors.now i c.sensor-item.result no_sensor c.loop-sensor-test.true in
    let w = early_waits c.loop-sensor.events.items in
    record {
      waits =
          on_from (rows_from_sensors until) (λ (s : SensorRows). rows_of_actor until s.actor s.rows) (sensors_step until)
          (early_waits c.loop-sensor.events.items) (early_waits c.enter_rows.new.events.items) c.args.sensors.now i no_sensor c.loop-sensor-test.true
          (c.in_ok-enter_rows.ensures.waits ∙ ap (λ rows. added w (rows_of_actor until c.sensor-item.result.actor rows)) c.as_slice.ensures ∙ ap (λ (s : SensorRows). added w (rows_of_actor until s.actor s.rows)) same)
          ∙ c.loop-sensor.invariant.waits;
      sound = λ actors each was. c.in_ok-enter_rows.ensures.sound actors (subst (IsOfActors actors) (sym same) (each_at (IsOfActors actors) c.args.sensors.now i no_sensor each c.loop-sensor-test.true)) (c.loop-sensor.invariant.sound actors each was);
    }

pub returns-clause-waits : goal.returns-clause-waits
returns-clause-waits c =
    let past : length c.args.sensors.now ≤ c.loop-sensor.sensor-index = omega (arith, c.loop-sensor-test.false) in
    on_end (rows_from_sensors c.args.until) (sensors_end c.args.until) (early_waits c.loop-sensor.events.items) c.args.sensors.now c.loop-sensor.sensor-index past
    ∙ c.loop-sensor.invariant.waits
