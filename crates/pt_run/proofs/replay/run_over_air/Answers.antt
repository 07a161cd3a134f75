use Rattle.std.proofs.Common.{arith}
use Rattle.pt_run.proofs.replay.run_over_air.Goals as goal

pub replayed-requires-clause-some : goal.replayed-requires-clause-some
replayed-requires-clause-some g c = omega (arith, c.in_ok-platforms.ensures.all.count, c.requires.admitted.lawful.some_platform)
