use Rattle.std.proofs.Common.{◌≡◌, ◌+◌, ◌-◌, ◌*◌, ◌%◌, ◌^◌, false, sym, ap, subst, ◌∙◌}
use Rattle.std.specs.Int.{bit_at}
use Rattle.std.proofs.lemmas.Nat.{one_shl}
use Rattle.pt_causality.specs.Delays.{least_of}
use Rattle.pt_queue.specs.Tagged.{unit_holds_up}
use Rattle.pt_queue.specs.Marks.{unit_with}
use Rattle.pt_queue.proofs.Finding.{without_top}
use Rattle.pt_queue.proofs.blocked.holder_in_word.Goals as goal

pub loop-bit-preserved : goal.loop-bit-preserved
loop-bit-preserved c = λ i few set gone.
    let top = c.in-Some.ensures in
    let less : 1 * 2 ^ c.in-Some.bit % 2 ^ 64 ≡ 2 ^ c.in-Some.bit = one_shl c.in-Some.bit 64 top.0 in
    let off : unit_holds_up c.args.table.now (least_of c.args.least.now) c.args.unit c.args.tag c.args.tags.now (unit_with (64 * c.args.index + c.in-Some.bit)) ≡ false =
    ap (unit_holds_up c.args.table.now (least_of c.args.least.now) c.args.unit c.args.tag c.args.tags.now) (sym c.unit_at-other.ensures) ∙ sym c.unit_holds_up.ensures ∙ c.if-unit_holds_up.false in
    without_top (λ k. unit_holds_up c.args.table.now (least_of c.args.least.now) c.args.unit c.args.tag c.args.tags.now (unit_with (64 * c.args.index + k))) c.args.word c.loop-bit.left c.in-Some.bit top.1 top.2 off c.loop-bit.invariant i few set
    (subst (λ n. bit_at (c.loop-bit.left - n) i ≡ 0) less gone)
