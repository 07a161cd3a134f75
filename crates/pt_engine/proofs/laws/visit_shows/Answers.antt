use Rattle.pt_engine.proofs.Showing.{visit_shows}
use Rattle.pt_engine.proofs.laws.visit_shows.Goals as goal

pub returns : goal.returns
returns c = visit_shows
