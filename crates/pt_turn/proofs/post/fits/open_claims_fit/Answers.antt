use Rattle.pt_turn.proofs.Posts.Fitting.{open_claims_fit}
use Rattle.pt_turn.proofs.post.fits.open_claims_fit.Goals as goal

pub returns : goal.returns
returns c = open_claims_fit
