use Rattle.std.proofs.Common.{◌≡◌, ◌<◌}
use Rattle.pt_types.specs.declared.graph.Unit.{Unit}
use Rattle.pt_causality.specs.Before.{HaveMore, MayBeListed}
use Rattle.pt_causality.specs.Cells.{number_in, delay_row_at}
use Rattle.pt_causality.proofs.before.list_actor.Given as goal

abbrev pub invariant-loop-group : goal.invariant-loop-group
invariant-loop-group l = record {
  listed : (x : Unit) → x.actor ≡ l.actor → x.group < l.group → MayBeListed (delay_row_at l.rows (number_in l.numbers.firsts.items x)) l.lists x;
  others : HaveMore l.fn.lists l.lists;
}
