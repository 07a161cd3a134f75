use Rattle.pt_engine.proofs.MoreShown.{shown_grows}
use Rattle.pt_engine.proofs.laws.shown_grows.Goals as goal

pub returns : goal.returns
returns c = shown_grows
