use Rattle.std.proofs.Common.{refl}
use Rattle.pt_causality.proofs.Cells.{all_absent}
use Rattle.pt_causality.proofs.row.DelayRow.new.Goals as goal

pub returns-clause-absent : goal.returns-clause-absent
returns-clause-absent c = let h = c.in_ok-cells.ensures in all_absent _ _ _ (h.items_if_clones_equal (λ y e. e)) refl
