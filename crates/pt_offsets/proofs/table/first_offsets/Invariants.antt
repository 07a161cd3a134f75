use Rattle.std.proofs.Common.{◌≡◌, take}
use Rattle.std.specs.Prelude.{map}
use Rattle.pt_offsets.specs.Firsts.{first_offset}
use Rattle.pt_offsets.proofs.table.first_offsets.Given as goal

abbrev pub invariant-loop-timing : goal.invariant-loop-timing
invariant-loop-timing l = l.firsts.items ≡ map first_offset (take l.timing-index l.timings)
