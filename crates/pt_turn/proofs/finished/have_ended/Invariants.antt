use Rattle.pt_turn.proofs.Ends.{HaveEndedBelow}
use Rattle.pt_turn.proofs.finished.have_ended.Given as goal

abbrev pub invariant-loop-l : goal.invariant-loop-l
invariant-loop-l v = HaveEndedBelow v.l v.graph v.number v.ended
