use Rattle.pt_examples.proofs.Offsets.{lanes_stand_apart}
use Rattle.pt_examples.proofs.lanes_stand_apart.Goals as goal

pub returns : goal.returns
returns c = lanes_stand_apart
