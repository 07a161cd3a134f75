use Rattle.std.proofs.Common.{subst}
use Rattle.pt_confluence.specs.Gathered.{AreLegal}
use Rattle.pt_run.proofs.PacedOutcome.{paced_outcome}
use Rattle.pt_run.proofs.engines.run_paced.Goals as goal

pub returns : goal.returns
returns g c = λ plan rows ready.
    let rounds = c.in_ok-rounds.rounds in
    let legal : AreLegal rounds.platforms.items = subst AreLegal c.as_slice.ensures.value c.are_legal.ensures in
    paced_outcome c.args.workers plan rows rounds.platforms.items rounds.fault legal (c.in_ok-rounds.ensures.outcome plan rows ready)
