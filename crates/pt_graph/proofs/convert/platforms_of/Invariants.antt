use Rattle.std.proofs.Common.{◌≡◌, take}
use Rattle.pt_graph.proofs.convert.platforms_of.Given as goal

abbrev pub invariant-loop-platform : goal.invariant-loop-platform
invariant-loop-platform l = l.done.items ≡ take l.platform-index l.platforms
