use Rattle.pt_engine.proofs.Showing.{start_shows}
use Rattle.pt_engine.proofs.laws.start_shows.Goals as goal

pub returns : goal.returns
returns c = start_shows
