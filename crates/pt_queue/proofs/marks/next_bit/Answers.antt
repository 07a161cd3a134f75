use Rattle.std.proofs.Common.{◌/◌, ◌^◌, w64, arith}
use Rattle.std.specs.Int.{trailing_zeros}
use Rattle.std.proofs.lemmas.Nat.{shr_le}
use Rattle.std.proofs.lemmas.Nat.Bits.{bit_at-trailing_zeros}
use Rattle.pt_queue.proofs.Summing.{next_of, none_left}
use Rattle.pt_queue.proofs.marks.next_bit.Goals as goal

pub returns-then-left-eq0 : goal.returns-then-left-eq0
returns-then-left-eq0 c = none_left c.args.word c.args.from c.if-left-eq0.true

pub returns : goal.returns
returns c =
    let left = c.args.word / 2 ^ c.args.from in
    let less = shr_le c.args.word c.args.from in
    let lowest = bit_at-trailing_zeros w64 left (omega (arith, c.if-left-eq0.false)) (omega (arith, less, c.ranges.word.fits)) in
    next_of c.args.word c.args.from (trailing_zeros w64 left) (omega (arith, c.ranges.word.fits)) lowest.1 lowest.2
