use Rattle.std.proofs.Common.{◌≡◌, ◌-◌, map}
use Rattle.std.specs.List.{range_with_len}
use Rattle.pt_make.specs.Input.{made_row}
use Rattle.pt_make.proofs.rows.sensor_rows.Given as goal

abbrev pub invariant-loop-k : goal.invariant-loop-k
invariant-loop-k l = l.rows.items ≡ map (made_row l.number l.sensor) (range_with_len 1 (l.k - 1))
