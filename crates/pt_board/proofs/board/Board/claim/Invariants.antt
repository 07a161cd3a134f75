use Rattle.std.proofs.Common.{◌≡◌, ℕ, ◌<◌, ◌≤◌}
use Rattle.pt_board.specs.Rule.{part}
use Rattle.pt_board.specs.Seats.{Unready}
use Rattle.pt_board.specs.Hands.{claimed_at}
use Rattle.pt_board.proofs.board.Board.claim.Given as goal

abbrev pub invariant-loop-slot : goal.invariant-loop-slot
invariant-loop-slot l = record {
  same : (k : ℕ) → claimed_at k l.hand.knows ≡ claimed_at k l.initial.hand.knows;
  seen : (k : ℕ) → k < l.slot → Unready k l.initial.hand.knows l.hand.knows;
  unseen : (k : ℕ) → l.slot ≤ k → part k l.hand.knows ≡ part k l.initial.hand.knows;
  graph : l.hand.knows.graph ≡ l.initial.hand.knows.graph;
  table : l.hand.table ≡ l.initial.hand.table;
}
