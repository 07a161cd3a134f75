use Rattle.std.proofs.Common.{◌≡◌, ◌+◌, ◌<◌, ◌≤◌, ◌∷◌, length, get_or, ap, sym, ◌∙◌, arith}
use Rattle.std.proofs.lemmas.Option.{slice_get-get_or}
use Rattle.pt_semantics.proofs.Lookups.{same_some}
use Rattle.pt_history.specs.Lists.{RoomyEnds, starts_of}
use Rattle.pt_history.proofs.Starts.{end_before, length-ends, length-starts, pending_end, pending_start, start_at, stored_start}
use Rattle.pt_history.proofs.ends.Ends.levels.Goals as goal

pub returns-then-block-len : goal.returns-then-block-len
returns-then-block-len c = λ n at lt is.
    let stored = c.self.inside.starts.items in
    let pending = c.self.inside.pending in
    let total = c.self.inside.total in
    let starts = starts_of stored pending total in
    let many : length c.args.self.now.ends ≡ length stored + pending = ap (λ (v : RoomyEnds). length v.ends) (sym c.self.view_is) ∙ length-ends starts total ∙ length-starts stored pending total in
    let long : length starts ≡ length stored + pending = length-starts stored pending total in
    let past : length stored ≤ n = omega (arith, c.len.ensures, c.if-block-len.true, at) in
    let low : n < length stored + pending = omega (arith, many, lt) in
    ap (λ (v : RoomyEnds). get_or (0 ∷ v.ends) n 0) (sym c.self.view_is)
    ∙ start_at starts total n c.self.invariant.0 (omega (arith, long, low))
    ∙ pending_start stored pending total n past low
    ∙ sym (pending_end stored pending total n (omega (arith, past)) low)
    ∙ ap (λ (v : RoomyEnds). get_or v.ends n 0) c.self.view_is

pub returns : goal.returns
returns c = λ n at lt is.
    let stored = c.self.inside.starts.items in
    let pending = c.self.inside.pending in
    let total = c.self.inside.total in
    let starts = starts_of stored pending total in
    let long : length starts ≡ length stored + pending = length-starts stored pending total in
    let next : n + 1 < length stored = c.levels.ensures.next n at is in
    let same : get_or stored n 0 ≡ get_or stored (n + 1) 0 = same_some (get_or stored n 0) (get_or stored (n + 1) 0) (sym (slice_get-get_or stored n 0 (omega (arith, next))) ∙ sym (c.levels.ensures.same n at is) ∙ slice_get-get_or stored (n + 1) 0 next) in
    ap (λ (v : RoomyEnds). get_or (0 ∷ v.ends) n 0) (sym c.self.view_is)
    ∙ start_at starts total n c.self.invariant.0 (omega (arith, next, long))
    ∙ stored_start stored pending total n (omega (arith, next))
    ∙ same
    ∙ sym (stored_start stored pending total (n + 1) next)
    ∙ sym (end_before starts total n (omega (arith, next, long)))
    ∙ ap (λ (v : RoomyEnds). get_or v.ends n 0) c.self.view_is
