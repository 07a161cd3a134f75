use Rattle.std.proofs.Common.{◌≡◌, ◌+◌, ◌≤◌, vec_len, vec_capacity}
use Rattle.pt_pool.proofs.Stations.Collects.{CollectsOn}
use Rattle.pt_pool.proofs.station.collecting.collect_all.Given as goal

abbrev pub invariant-loop-k : goal.invariant-loop-k
invariant-loop-k l = record {
  room : (vec_len l.results ≤ vec_len l.initial.results + l._k) × (vec_capacity l.results ≡ vec_capacity l.initial.results);
  table : l.keeper.table ≡ l.initial.keeper.table;
  collects : CollectsOn l._k l.initial.keeper l.keeper l.initial.results.items l.results.items;
}
