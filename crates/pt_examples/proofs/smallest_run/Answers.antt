use Rattle.pt_examples.proofs.SmallestRun.{s5, legal, finished, meaning, wired, ranks, levels, fits}
use Rattle.pt_examples.proofs.smallest_run.Goals as goal

pub returns : goal.returns
returns c = record { state = s5; legal = legal; finished = finished; meaning = meaning; wired = wired; ranks = ranks; levels = levels; fits = fits }
