use Rattle.pt_turn.proofs.Claims.Candidates.{seen_one}
use Rattle.pt_turn.proofs.claim.seen.sooner_seen.Goals as goal

pub returns-in-Some : goal.returns-in-Some
returns-in-Some c = seen_one c.args.sensor.now c.as_slice.result.now c.in-Some.row.now c.args.so_far c.min.result c.as_slice.ensures c.in-Some.ensures.lookup.3.0 c.in-Some.ensures.lookup.1 c.min.ensures
