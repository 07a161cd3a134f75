use Rattle.pt_live_laws.proofs.Meant.{live_is_meant}
use Rattle.pt_live_laws.proofs.laws.live_is_meant.Goals as goal

pub returns : goal.returns
returns c = live_is_meant
