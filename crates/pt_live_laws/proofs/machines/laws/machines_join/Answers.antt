use Rattle.pt_live_laws.proofs.Joining.Joining.{machines_join}
use Rattle.pt_live_laws.proofs.machines.laws.machines_join.Goals as goal

pub returns : goal.returns
returns c = machines_join
