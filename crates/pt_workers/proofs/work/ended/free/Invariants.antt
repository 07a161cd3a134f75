use Rattle.std.specs.Prelude.{slice_get}
use Rattle.pt_workers.specs.Working.WorkerHands.{table_in}
use Rattle.pt_workers.proofs.work.ended.free.Given as goal

abbrev pub ghosts-free_in-L-Ledger : goal.ghosts-free_in-L-Ledger
ghosts-free_in-L-Ledger g a = record { name = a.blank.name; parts = a.blank.parts }

abbrev pub ghosts-free_in-B-Boards : goal.ghosts-free_in-B-Boards
ghosts-free_in-B-Boards g a = record { table = λ i. table_in (slice_get a.boards.items i) }
