use Rattle.pt_examples.proofs.Offsets.{paired_reading}
use Rattle.pt_examples.proofs.paired_reading.Goals as goal

pub returns : goal.returns
returns c = paired_reading
