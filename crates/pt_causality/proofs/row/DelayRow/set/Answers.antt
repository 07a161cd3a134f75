use Rattle.pt_causality.proofs.Cells.{cell_set}
use Rattle.pt_causality.proofs.row.DelayRow.set.Goals as goal

pub returns : goal.returns
returns c = cell_set _ _ _ _ c.self.view_is c.requires.small
