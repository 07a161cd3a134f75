use Rattle.std.proofs.Common.{take}
use Rattle.pt_confluence.specs.Gathered.{AreLegal}
use Rattle.pt_run.proofs.engines.are_legal.Given as goal

abbrev pub invariant-loop-platform : goal.invariant-loop-platform
invariant-loop-platform l = AreLegal (take l.platform-index l.platforms)
