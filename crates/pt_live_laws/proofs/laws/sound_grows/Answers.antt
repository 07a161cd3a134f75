use Rattle.pt_live_laws.proofs.Between.{sound_grown}
use Rattle.pt_live_laws.proofs.laws.sound_grows.Goals as goal

pub returns : goal.returns
returns c = sound_grown
