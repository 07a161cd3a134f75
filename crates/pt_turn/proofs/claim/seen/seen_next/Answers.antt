use Rattle.std.proofs.Common.{◌≡◌, length, get_or, subst, arith}
use Rattle.std.proofs.lemmas.List.{get_or_read}
use Rattle.pt_turn.specs.Claims.Least.{AtOrIn, Below, IsLeastAmong}
use Rattle.pt_turn.specs.Claims.Next.{no_sensor, IsSeenNext}
use Rattle.pt_turn.proofs.Claims.Least.{below_more}
use Rattle.pt_turn.proofs.claim.seen.seen_next.Goals as goal

pub loop-sensor-preserved : goal.loop-sensor-preserved
loop-sensor-preserved c =
    let item : c.sensor-item.result ≡ get_or c.args.sensors.now c.loop-sensor.sensor-index no_sensor = get_or_read c.args.sensors.now c.loop-sensor.sensor-index c.sensor-item.result c.loop-sensor-test.true c.sensor-item.is no_sensor in
    below_more (λ i. IsSeenNext (get_or c.args.sensors.now i no_sensor)) c.args.so_far c.loop-sensor.least c.sooner_seen-least.result c.loop-sensor.sensor-index c.loop-sensor.invariant
    (subst (λ s. IsLeastAmong (AtOrIn c.loop-sensor.least (IsSeenNext s)) c.sooner_seen-least.result) item c.sooner_seen-least.ensures)

pub returns : goal.returns
returns c =
    let all : c.loop-sensor.sensor-index ≡ length c.args.sensors.now = omega (arith, c.loop-sensor-test.false, c.loop-sensor.auto.sensor-index-end) in
    subst (λ n. IsLeastAmong (AtOrIn c.args.so_far (Below n (λ i. IsSeenNext (get_or c.args.sensors.now i no_sensor)))) c.loop-sensor.least) all c.loop-sensor.invariant
