use Rattle.pt_slacks.proofs.Refusing.{rings_admit_nothing}
use Rattle.pt_slacks.proofs.impossible.rings_admit_nothing.Goals as goal

pub returns : goal.returns
returns c = rings_admit_nothing
