use Rattle.std.proofs.Common.{◌≡◌, ◌+◌, ◌^◌, vec_len, vec_capacity}
use Rattle.pt_workers.specs.Working.WorkerHands.{AreBoards}
use Rattle.pt_workers.specs.Working.Orders.{numbers, count_up}
use Rattle.pt_workers.proofs.work.workers.lock_all.Given as goal

abbrev pub invariant-loop-linked : goal.invariant-loop-linked
invariant-loop-linked g l = record {
  order : numbers l.linked_platforms.items ≡ count_up (vec_len l.linked_platforms);
  boards : (vec_len l.boards ≡ vec_len l.linked_platforms) × AreBoards g.B.Boards.table l.boards.items;
  total : l.book.total + 2 ^ vec_len l.linked_platforms ≡ 2 ^ vec_len l.fn.linked_platforms;
  parts : l.rest.parts ≡ vec_len l.linked_platforms;
  amount : l.rest.amount ≡ 0;
  stations : vec_len l.stations + vec_len l.linked_platforms ≡ vec_len l.fn.linked_platforms;
  room : vec_capacity l.stations ≡ vec_len l.fn.linked_platforms;
}

abbrev pub decreases-loop-linked : goal.decreases-loop-linked
decreases-loop-linked g l = vec_len l.linked_platforms
