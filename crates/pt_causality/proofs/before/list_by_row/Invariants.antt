use Rattle.std.proofs.Common.{◌≡◌, ◌<◌, ℕ, true}
use Rattle.std.specs.Option.{is_some}
use Rattle.pt_causality.specs.Before.{words_at, HaveMore, MayHave}
use Rattle.pt_causality.specs.Cells.{delay_at}
use Rattle.pt_causality.proofs.before.list_by_row.Given as goal

abbrev pub invariant-loop-place : goal.invariant-loop-place
invariant-loop-place l = record {
  listed : (k : ℕ) → k < l.place → is_some (delay_at l.row k) ≡ true → MayHave (words_at l.lists k) l.unit;
  others : HaveMore l.fn.lists l.lists;
}
