use Rattle.pt_live_laws.proofs.Growth.RowsNext.{rows_next}
use Rattle.pt_live_laws.proofs.growing.laws.rows_grow.Goals as goal

pub returns : goal.returns
returns c = rows_next
