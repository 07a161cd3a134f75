use Rattle.std.proofs.Common.{◌≡◌, ◌≢◌, ℕ, ◌+◌, ◌%◌, ◌<◌, ◌≤◌, None}
use Rattle.pt_board.specs.Rule.{part}
use Rattle.pt_board.specs.Keepers.{out_at}
use Rattle.pt_board.proofs.board.Board.collect.Given as goal

abbrev pub invariant-loop-slot : goal.invariant-loop-slot
invariant-loop-slot l = record {
  same : (k : ℕ) → out_at k l.keeper.knows ≡ out_at k l.initial.keeper.knows;
  seen : (k : ℕ) → k < l.slot → out_at k l.initial.keeper.knows ≢ None → ((part k l.keeper.knows).loads ≡ (part k l.initial.keeper.knows).loads + 1) × ((part k l.keeper.knows).last % 4 ≢ 3);
  unseen : (k : ℕ) → l.slot ≤ k → part k l.keeper.knows ≡ part k l.initial.keeper.knows;
  graph : l.keeper.knows.graph ≡ l.initial.keeper.knows.graph;
  table : l.keeper.table ≡ l.initial.keeper.table;
  next : l.keeper.next ≡ l.initial.keeper.next;
}
