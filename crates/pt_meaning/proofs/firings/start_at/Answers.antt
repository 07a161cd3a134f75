use Rattle.std.proofs.Common.{◌≡◌, ◌∙◌, sym, ap, arith, ◌-◌, suc}
use Rattle.pt_meaning.specs.Marks.{values_start_at}
use Rattle.pt_meaning.proofs.Lists.{start_is, start_past, no_mark}
use Rattle.pt_meaning.proofs.firings.start_at.Goals as goal

pub returns-then-before-marks : goal.returns-then-before-marks
returns-then-before-marks c =
    let one : suc (c.args.number - 1) ≡ c.args.number = omega (arith, c.if-number-eq0.false) in
    sym (start_is 0 c.args.marks.now (c.args.number - 1) no_mark c.if-before-marks.true) ∙ ap (values_start_at 0 c.args.marks.now) one

pub returns-else-before-marks : goal.returns-else-before-marks
returns-else-before-marks c =
    let one : suc (c.args.number - 1) ≡ c.args.number = omega (arith, c.if-number-eq0.false) in
    sym (start_past 0 c.args.marks.now (c.args.number - 1) c.if-before-marks.false) ∙ ap (values_start_at 0 c.args.marks.now) one
