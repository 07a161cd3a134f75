use Rattle.std.proofs.Common.{◌≡◌, ℕ, ◌<◌, ◌≤◌, [], drop, get_or, subst, arith}
use Rattle.std.proofs.lemmas.List.{get_or_read}
use Rattle.pt_semantics.specs.Entering.{due}
use Rattle.pt_turn.specs.declared.state.fields.Sensor.{Sensor}
use Rattle.pt_turn.proofs.Enters.Sensors.{no_sensor}
use Rattle.pt_turn.proofs.NoRows.{none_left, none_more}
use Rattle.pt_turn.proofs.enter.due_rows.next_seen.Goals as goal
use Rattle.pt_turn.proofs.enter.due_rows.next_seen.Goals.{then-next-least, else-next-least}

pub loop-sensor-preserved : goal.loop-sensor-preserved
loop-sensor-preserved c =
    let item : c.sensor-item.result ≡ get_or c.args.sensors.now c.loop-sensor.sensor-index no_sensor = get_or_read c.args.sensors.now c.loop-sensor.sensor-index c.sensor-item.result c.loop-sensor-test.true c.sensor-item.is no_sensor in
    let first : c.if-next-least.least ≤ c.loop-sensor.least = elim c.if-next-least.branch [ then-next-least w ↦ omega arith | else-next-least w ↦ omega arith ] in
    let second : c.if-next-least.least ≤ c.next_of-next.result = elim c.if-next-least.branch [ then-next-least w ↦ omega arith | else-next-least w ↦ omega arith ] in
    none_more c.args.sensors.now c.loop-sensor.least c.next_of-next.result c.if-next-least.least c.loop-sensor.sensor-index first second c.loop-sensor.invariant
    (subst (λ (s : Sensor). (r : ℕ) → r < c.next_of-next.result → due r (drop s.entered s.rows) ≡ []) item c.next_of-next.ensures)

pub returns : goal.returns
returns c = λ r a lt.
    none_left r c.args.sensors.now (λ k within. c.loop-sensor.invariant r k lt (omega (arith, within, c.loop-sensor-test.false, c.loop-sensor.auto.sensor-index-end))) a
