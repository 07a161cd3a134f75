use Rattle.std.proofs.Common.{◌≡◌, ◌+◌, ◌∷◌, length, get_or, ap, sym, ◌∙◌, arith}
use Rattle.pt_history.specs.Lists.{RoomyEnds, starts_of}
use Rattle.pt_history.proofs.Starts.{length-ends, length-starts, pending_start, start_at}
use Rattle.pt_history.proofs.ends.Ends.start.Goals as goal

pub returns-else-number-len : goal.returns-else-number-len
returns-else-number-len c =
    let stored = c.self.inside.starts.items in
    let pending = c.self.inside.pending in
    let total = c.self.inside.total in
    let starts = starts_of stored pending total in
    let many : length c.args.self.now.ends ≡ length stored + pending = ap (λ (v : RoomyEnds). length v.ends) (sym c.self.view_is) ∙ length-ends starts total ∙ length-starts stored pending total in
    let long : length starts ≡ length stored + pending = length-starts stored pending total in
    sym (
    ap (λ (v : RoomyEnds). get_or (0 ∷ v.ends) c.args.number 0) (sym c.self.view_is)
    ∙ start_at starts total c.args.number c.self.invariant.0 (omega (arith, many, long, c.requires))
    ∙ pending_start stored pending total c.args.number (omega (arith, c.len.ensures, c.if-number-len.false)) (omega (arith, many, c.requires)))
