use Rattle.std.proofs.Common.{◌<◌}
use Rattle.pt_types.specs.declared.graph.Unit.{Unit}
use Rattle.pt_causality.specs.Before.{MayBeListed}
use Rattle.pt_causality.specs.Cells.{number_in, delay_row_at}
use Rattle.pt_causality.proofs.before.all_before.Given as goal

abbrev pub invariant-loop-actor : goal.invariant-loop-actor
invariant-loop-actor l = (x : Unit) → x.actor < l.actor → MayBeListed (delay_row_at l.rows (number_in l.numbers.firsts.items x)) l.lists.items x
