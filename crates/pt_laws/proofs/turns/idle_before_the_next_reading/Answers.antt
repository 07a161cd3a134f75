use Rattle.pt_laws.proofs.Idle.{idle_before}
use Rattle.pt_laws.proofs.turns.idle_before_the_next_reading.Goals as goal

pub returns : goal.returns
returns c = idle_before
