use Rattle.pt_live_laws.proofs.Between.{is_going_grown}
use Rattle.pt_live_laws.proofs.laws.going_grows.Goals as goal

pub returns : goal.returns
returns c = is_going_grown
