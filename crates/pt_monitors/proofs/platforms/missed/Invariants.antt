use Rattle.std.proofs.Common.{◌≡◌, ◌++◌, drop}
use Rattle.std.specs.List.{flat_map}
use Rattle.pt_monitors.specs.Platforms.{missed_by}
use Rattle.pt_monitors.proofs.platforms.missed.Given as goal

abbrev pub invariant-loop-platform : goal.invariant-loop-platform
invariant-loop-platform l = l.misses.items ++ flat_map missed_by (drop l.platform-index l.platforms) ≡ flat_map missed_by l.platforms
