use Rattle.std.proofs.Common.{take}
use Rattle.std.specs.Prelude.{flat_map}
use Rattle.pt_io.specs.Calls.{writing}
use Rattle.pt_tables.specs.Platforms.{platform_lines}
use Rattle.pt_tables.specs.Putting.{IsPut}
use Rattle.pt_tables.proofs.platforms.put_platforms.Given as goal

abbrev pub invariant-loop-platform : goal.invariant-loop-platform
invariant-loop-platform g l = IsPut (writing g.K.Sink l.fn.out l.out) (flat_map platform_lines (take l.platform-index l.platforms))
