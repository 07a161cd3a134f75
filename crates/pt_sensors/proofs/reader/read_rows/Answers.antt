use Rattle.pt_sensors.proofs.Given.{in_order}
use Rattle.pt_sensors.proofs.reader.read_rows.Goals as goal

pub returns-clause-order : goal.returns-clause-order
returns-clause-order c = in_order _ _ _ c.read.ensures
