use Rattle.std.proofs.Common.{◌≡◌, ◌+◌, ◌-◌, ◌^◌, ◌<◌, ◌≤◌, sym, subst, arith, add-one}
use Rattle.std.specs.Int.Count.{count_leading_zeros}
use Rattle.std.proofs.lemmas.Nat.{leading_top}
use Rattle.pt_queue.proofs.marks.last_bit.Goals as goal

pub returns : goal.returns
returns c =
    let top = leading_top 64 c.args.word (omega (arith, c.if-word-eq0.false)) (omega (arith, c.ranges.word.fits)) in
    let is : 63 - count_leading_zeros 64 c.args.word ≡ top.0 = omega (arith, top.1) in
    subst (λ k. (k < 64) × (2 ^ k ≤ c.args.word) × (c.args.word < 2 ^ (k + 1))) (sym is) (omega (arith, top.1), top.2, subst (λ k. c.args.word < 2 ^ k) (sym (add-one top.0)) top.3)
