use Rattle.std.proofs.Common.{◌≡◌, ◌-◌, ◌<◌, length, get_or, ap, sym, ◌∙◌, arith}
use Rattle.std.specs.Prelude.{slice_get}
use Rattle.pt_history.specs.Indices.{RoomyItems, values_at}
use Rattle.pt_history.proofs.ValuesAt.{below_get, length-values, read_at, values_get}
use Rattle.pt_history.proofs.repeats.Repeats.last.Goals as goal

pub returns : goal.returns
returns g c =
    let values = c.self.inside.values.items in
    let is = c.self.inside.indices.indices in
    let some : length is - 1 < length is = omega (arith, c.if-len-eq0.false, c.len.ensures) in
    let low : get_or is (length is - 1) 0 < length values = below_get (length values) (length is - 1) is c.self.invariant.0 some in
    let read : c.len-2.result - 1 ≡ length values - 1 = omega (arith, c.len-2.ensures, c.self.inside.values.ok.0) in
    sym (
    ap (λ (v : RoomyItems g.row.T.Denot). slice_get v.items (length v.items - 1)) (sym c.self.view_is)
    ∙ ap (λ k. slice_get (values_at values is) (k - 1)) (length-values values is c.self.invariant.0)
    ∙ values_get values is (length is - 1) c.self.invariant.0 some
    ∙ ap (slice_get values) (c.self.invariant.1 ∙ sym read)
    ∙ read_at values (c.len-2.result - 1) c.index.result.now (omega (arith, low, read)) c.index.ensures
    )
