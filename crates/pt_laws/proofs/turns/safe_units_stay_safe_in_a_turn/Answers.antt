use Rattle.pt_laws.proofs.Stays.{safe_in_turn}
use Rattle.pt_laws.proofs.turns.safe_units_stay_safe_in_a_turn.Goals as goal

pub returns : goal.returns
returns c = safe_in_turn
