use Rattle.pt_laws.proofs.NearClocks.{paced_is_closed}
use Rattle.pt_laws.proofs.readings.paced_readings_are_closed.Goals as goal

pub returns : goal.returns
returns c = paced_is_closed
