use Rattle.std.proofs.Common.{◌≡◌, vec_len, vec_capacity}
use Rattle.pt_workers.proofs.work.boards.open_boards.Given as goal

abbrev pub invariant-loop-k : goal.invariant-loop-k
invariant-loop-k g l = (vec_len l.boards ≡ l._k) × (vec_capacity l.boards ≡ l.count)
