use Rattle.std.proofs.Common.{get_or}
use Rattle.pt_turn.specs.Claims.Least.{AtOrIn, Below, IsLeastAmong}
use Rattle.pt_turn.specs.Claims.Next.{no_sensor, IsSeenNext}
use Rattle.pt_turn.proofs.claim.seen.seen_next.Given as goal

abbrev pub invariant-loop-sensor : goal.invariant-loop-sensor
invariant-loop-sensor l = IsLeastAmong (AtOrIn l.fn.so_far (Below l.sensor-index (λ i. IsSeenNext (get_or l.sensors i no_sensor)))) l.least
