use Rattle.pt_examples.proofs.Offsets.{linked_readings}
use Rattle.pt_examples.proofs.linked_readings.Goals as goal

pub returns : goal.returns
returns c = linked_readings
