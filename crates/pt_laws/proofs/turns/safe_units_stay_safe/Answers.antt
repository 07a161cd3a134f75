use Rattle.pt_laws.proofs.Stays.{safe_stays}
use Rattle.pt_laws.proofs.turns.safe_units_stay_safe.Goals as goal

pub returns : goal.returns
returns c = safe_stays
