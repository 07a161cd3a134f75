use Rattle.std.proofs.Common.{◌≡◌, map}
use Rattle.std.specs.List.{range_with_len}
use Rattle.pt_air.specs.AirOf.{row_transits}
use Rattle.pt_air.proofs.times.transits_of.Given as goal

abbrev pub invariant-loop-link : goal.invariant-loop-link
invariant-loop-link l = l.all.items ≡ map (row_transits l.rows) (range_with_len 0 l.link)
