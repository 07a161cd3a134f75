-- A replay whose recording breaks no stated bound does what the paced run does.
use Rattle.pt_run.specs.InBounds.{ReplaysInBoundsDoAsPaced}
use Rattle.pt_run.specs.Replaying.{stop_of_replay}
use Rattle.pt_run.proofs.ReplayInBounds.{do_as_paced}

pub in_bounds_as_paced : ReplaysInBoundsDoAsPaced
in_bounds_as_paced contents air log outcome left w plan rows on none = do_as_paced plan rows on.recorded left.platforms (stop_of_replay outcome) on.fact.replayed (on.bounds.0 none)
