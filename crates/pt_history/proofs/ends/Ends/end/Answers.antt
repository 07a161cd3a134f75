use Rattle.std.proofs.Common.{◌≡◌, ◌+◌, ◌<◌, length, get_or, ap, sym, ◌∙◌, arith}
use Rattle.std.proofs.lemmas.Option.{get_or_from_slice_get}
use Rattle.pt_history.specs.Lists.{RoomyEnds, starts_of}
use Rattle.pt_history.proofs.Starts.{end_before, length-ends, length-starts, pending_end, stored_start}
use Rattle.pt_history.proofs.ends.Ends.end.Goals as goal

pub returns-then-number-len : goal.returns-then-number-len
returns-then-number-len c =
    let stored = c.self.inside.starts.items in
    let pending = c.self.inside.pending in
    let total = c.self.inside.total in
    let starts = starts_of stored pending total in
    let many : length c.args.self.now.ends ≡ length stored + pending = ap (λ (v : RoomyEnds). length v.ends) (sym c.self.view_is) ∙ length-ends starts total ∙ length-starts stored pending total in
    let long : length starts ≡ length stored + pending = length-starts stored pending total in
    sym (
    ap (λ (v : RoomyEnds). get_or v.ends c.args.number 0) (sym c.self.view_is)
    ∙ pending_end stored pending total c.args.number (omega (arith, c.len.ensures, c.if-number-len.true)) (omega (arith, many, c.requires)))

pub returns-then-len-number-eq1 : goal.returns-then-len-number-eq1
returns-then-len-number-eq1 c =
    let stored = c.self.inside.starts.items in
    let pending = c.self.inside.pending in
    let total = c.self.inside.total in
    let starts = starts_of stored pending total in
    let many : length c.args.self.now.ends ≡ length stored + pending = ap (λ (v : RoomyEnds). length v.ends) (sym c.self.view_is) ∙ length-ends starts total ∙ length-starts stored pending total in
    let long : length starts ≡ length stored + pending = length-starts stored pending total in
    sym (
    ap (λ (v : RoomyEnds). get_or v.ends c.args.number 0) (sym c.self.view_is)
    ∙ pending_end stored pending total c.args.number (omega (arith, c.len-2.ensures, c.if-len-number-eq1.true)) (omega (arith, many, c.requires)))

pub returns-else-len-number-eq1 : goal.returns-else-len-number-eq1
returns-else-len-number-eq1 c =
    let stored = c.self.inside.starts.items in
    let pending = c.self.inside.pending in
    let total = c.self.inside.total in
    let starts = starts_of stored pending total in
    let many : length c.args.self.now.ends ≡ length stored + pending = ap (λ (v : RoomyEnds). length v.ends) (sym c.self.view_is) ∙ length-ends starts total ∙ length-starts stored pending total in
    let long : length starts ≡ length stored + pending = length-starts stored pending total in
    let next : c.args.number + 1 < length stored = omega (arith, c.len.ensures, c.len-2.ensures, c.if-number-len.false, c.if-len-number-eq1.false) in
    sym (
    ap (λ (v : RoomyEnds). get_or v.ends c.args.number 0) (sym c.self.view_is)
    ∙ end_before starts total c.args.number (omega (arith, long, next))
    ∙ stored_start stored pending total (c.args.number + 1) next
    ∙ get_or_from_slice_get stored (c.args.number + 1) c.get.result 0 c.get.ensures)
