use Rattle.pt_laws.proofs.Unique.{meaning_is_one}
use Rattle.pt_laws.proofs.meaning.meaning_is_unique.Goals as goal

pub returns : goal.returns
returns c = meaning_is_one
