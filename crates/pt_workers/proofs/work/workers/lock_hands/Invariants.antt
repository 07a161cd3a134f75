use Rattle.std.proofs.Common.{vec_len}
use Rattle.pt_workers.proofs.work.workers.lock_hands.Given as goal

abbrev pub decreases-loop-hands : goal.decreases-loop-hands
decreases-loop-hands g l = vec_len l.all_hands
