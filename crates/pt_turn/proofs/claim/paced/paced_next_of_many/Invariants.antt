use Rattle.std.proofs.Common.{◌-◌, ◌*◌, length}
use Rattle.pt_turn.specs.Claims.Least.{AtOrIn, IsLeastAmong}
use Rattle.pt_turn.proofs.Claims.Candidates.{PacedBefore}
use Rattle.pt_turn.proofs.claim.paced.paced_next_of_many.Given as goal

abbrev pub invariant-loop-waiting : goal.invariant-loop-waiting
invariant-loop-waiting l = IsLeastAmong (AtOrIn l.fn.so_far (PacedBefore l.plan.graph l.fields l.from)) l.least

abbrev pub decreases-loop-waiting : goal.decreases-loop-waiting
decreases-loop-waiting l = 8 * length l.plan.graph.actors - l.from
