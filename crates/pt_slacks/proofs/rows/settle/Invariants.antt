use Rattle.std.proofs.Common.{◌≡◌, ◌+◌, ℕ, length}
use Rattle.pt_causality.specs.Delays.{least_of}
use Rattle.pt_slacks.specs.Rows.{AreSlackRows, HasRisen, slack_row_at}
use Rattle.pt_slacks.proofs.rows.settle.Given as goal

abbrev pub invariant-loop-round : goal.invariant-loop-round
invariant-loop-round l = record {
  are : AreSlackRows l.graph (least_of l.least) l.hops l.rows.items l.round;
  rose : (k : ℕ) → l.round ≡ k + 1 → HasRisen (length l.hops) (slack_row_at l.rows.items k) (slack_row_at l.rows.items (k + 1)) l.link;
}
