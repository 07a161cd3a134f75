use Rattle.pt_laws.proofs.NearClocks.{near_is_closed}
use Rattle.pt_laws.proofs.readings.near_readings_are_closed.Goals as goal

pub returns : goal.returns
returns c = near_is_closed
