use Rattle.std.proofs.Common.{◌≡◌, drop, length, ap, arith, []}
use Rattle.std.proofs.lemmas.List.{drop_all}
use Rattle.pt_semantics.specs.Entering.{all_due}
use Rattle.pt_turn.specs.Fields.State.{left_in}
use Rattle.pt_turn.proofs.Enters.Sensors.{all_due_is, due_rows}
use Rattle.pt_turn.proofs.enter.due_rows.count_due.Goals as goal

pub returns : goal.returns
returns c =
    let past : drop c.loop-sensor.sensor-index c.args.sensors.now ≡ [] = drop_all c.loop-sensor.sensor-index c.args.sensors.now (omega (arith, c.loop-sensor-test.false, c.loop-sensor.auto.sensor-index-end)) in
    let rest : length (due_rows c.args.reading (drop c.loop-sensor.sensor-index c.args.sensors.now)) ≡ 0 = ap (λ ss. length (due_rows c.args.reading ss)) past in
    let all : length (all_due c.args.graph.now c.args.reading (left_in c.args.sensors.now)) ≡ length (due_rows c.args.reading c.args.sensors.now) = ap length (all_due_is c.args.graph.now c.args.reading c.args.sensors.now c.requires.0 c.requires.1) in
    omega (arith, rest, all, c.loop-sensor.invariant.so_far)
