use Rattle.std.proofs.Common.{◌≡◌, ◌+◌, ◌<◌, length, ap, sym, ◌∙◌, arith}
use Rattle.std.specs.Prelude.{slice_get}
use Rattle.pt_history.specs.Indices.{RoomyItems}
use Rattle.pt_history.proofs.ValuesAt.{length-values, values_get}
use Rattle.pt_history.proofs.repeats.Repeats.levels.Goals as goal

pub returns-clause-next : goal.returns-clause-next
returns-clause-next g c = λ n at is.
    let many : length c.args.self.now.items ≡ length c.self.inside.indices.indices = ap (λ (v : RoomyItems g.row.T.Denot). length v.items) (sym c.self.view_is) ∙ length-values c.self.inside.values.items c.self.inside.indices.indices c.self.invariant.0 in
    let low = c.levels.ensures.next n at is in
    omega (arith, many, low)

pub returns-clause-same : goal.returns-clause-same
returns-clause-same g c = λ n at is.
    let values = c.self.inside.values.items in
    let indices = c.self.inside.indices.indices in
    let low : n + 1 < length indices = c.levels.ensures.next n at is in
    ap (λ (v : RoomyItems g.row.T.Denot). slice_get v.items (n + 1)) (sym c.self.view_is)
    ∙ values_get values indices (n + 1) c.self.invariant.0 low
    ∙ ap (slice_get values) (c.levels.ensures.same n at is)
    ∙ sym (values_get values indices n c.self.invariant.0 (omega (arith, low)))
    ∙ ap (λ (v : RoomyItems g.row.T.Denot). slice_get v.items n) c.self.view_is
