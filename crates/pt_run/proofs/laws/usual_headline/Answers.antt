use Rattle.pt_run.proofs.UsualHeadline.{usual_headline}
use Rattle.pt_run.proofs.laws.usual_headline.Goals as goal

pub returns : goal.returns
returns c = usual_headline
