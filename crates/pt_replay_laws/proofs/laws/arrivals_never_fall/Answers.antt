use Rattle.pt_replay_laws.proofs.Times.{arrivals_never_fall}
use Rattle.pt_replay_laws.proofs.laws.arrivals_never_fall.Goals as goal

pub returns : goal.returns
returns c = arrivals_never_fall
