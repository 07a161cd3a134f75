use Rattle.pt_live_laws.proofs.Growth.Growing.{turn_grown}
use Rattle.pt_live_laws.proofs.growing.laws.turns_grow.Goals as goal

pub returns : goal.returns
returns c = λ g level i s new turn late more. turn_grown g level i more s new turn late
