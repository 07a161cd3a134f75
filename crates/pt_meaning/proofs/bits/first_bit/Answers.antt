use Rattle.std.proofs.Common.{arith, w64}
use Rattle.std.proofs.lemmas.Nat.Bits.{bit_at-trailing_zeros}
use Rattle.pt_meaning.proofs.bits.first_bit.Goals as goal

pub returns : goal.returns
returns c =
    let lowest = bit_at-trailing_zeros w64 c.args.word (omega (arith, c.if-word-eq0.false)) (omega (arith, c.ranges.word.fits)) in
    record { low = lowest.0; set = lowest.1; first = lowest.2 }
