use Rattle.std.proofs.Common.{◌≡◌, ◌+◌, ◌≤◌, ◌++◌, drop, take}
use Rattle.std.specs.Prelude.{vec_len, vec_capacity}
use Rattle.pt_history.specs.Cells.{mask_of, values_in}
use Rattle.pt_history.proofs.cells.push_later.Given as goal

abbrev pub invariant-loop-port : goal.invariant-loop-port
invariant-loop-port l = record {
  begun : 2 ≤ l.port;
  mask : l.mask ≡ mask_of (take l.port l.ports);
  values : l.values.items ++ values_in (drop l.port l.ports) ≡ l.fn.values.items ++ values_in (drop 2 l.ports);
  fit : vec_len l.values + 2 ≤ vec_len l.fn.values + l.port;
  room : vec_capacity l.fn.values ≤ vec_capacity l.values;
}
