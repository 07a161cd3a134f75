use Rattle.std.proofs.Common.{◌+◌, ◌≤◌, take}
use Rattle.pt_pool.specs.Stations.Stations.{HavePlaced}
use Rattle.pt_pool.proofs.station.placing.place_all.Given as goal

abbrev pub invariant-loop-k : goal.invariant-loop-k
invariant-loop-k l = record {
  room : l.initial.left.spare ≤ l.left.spare + l.k;
  placed : HavePlaced (take l.k l.tasks) l.initial.keeper l.keeper l.initial.left.tasks l.left.tasks;
}
