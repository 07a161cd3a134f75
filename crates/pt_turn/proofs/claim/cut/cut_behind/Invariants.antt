use Rattle.std.proofs.Common.{◌-◌, ◌*◌, length}
use Rattle.pt_turn.proofs.claim.cut.cut_behind.Given as goal

abbrev pub decreases-loop-waiting : goal.decreases-loop-waiting
decreases-loop-waiting l = 8 * length l.plan.graph.actors - l.from
