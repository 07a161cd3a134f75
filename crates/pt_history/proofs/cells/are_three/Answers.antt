use Rattle.std.proofs.Common.{◌≡◌, ◌+◌, ◌*◌, arith}
use Rattle.pt_history.specs.Cells.{bit_of}
use Rattle.pt_history.proofs.Comparing.{three_back}
use Rattle.pt_history.proofs.cells.are_three.Goals as goal

pub returns : goal.returns
returns c = λ same.
    let is : bit_of c.args.first + 2 * bit_of c.args.second + 256 * bit_of c.args.last ≡ c.args.mask = omega (arith, c.if-flag-mask.false, c.flag.ensures.is, c.flag-2.ensures.is, c.flag-3.ensures.is) in
    three_back c.args.mask c.args.start c.in-Some.after_first c.in-Some-passed.after_second c.in-Some-passed-2._after_last c.args.values.now c.args.first c.args.second c.args.last is c.in-Some.ensures.next c.in-Some-passed.ensures.next c.in-Some-passed-2.ensures.next
