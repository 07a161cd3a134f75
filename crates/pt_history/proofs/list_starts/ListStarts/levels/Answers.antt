use Rattle.std.proofs.Common.{◌≡◌, ℕ, ◌+◌, ◌<◌, length, ap, sym, ◌∙◌, arith}
use Rattle.std.specs.Prelude.{slice_get}
use Rattle.pt_history.specs.Indices.{RoomyItems}
use Rattle.pt_history.specs.Numbers.{numbers_with}
use Rattle.pt_history.proofs.ValuesAt.{length-values, values_get}
use Rattle.pt_history.proofs.list_starts.ListStarts.levels.Goals as goal

pub returns-clause-next : goal.returns-clause-next
returns-clause-next c = λ n at is.
    let many : length c.args.self.now.items ≡ length c.self.inside.indices.indices = ap (λ (v : RoomyItems ℕ). length v.items) (sym c.self.view_is) ∙ length-values (numbers_with c.self.inside.in_order c.self.inside.stored.items) c.self.inside.indices.indices c.self.invariant.below in
    let low = c.levels.ensures.next n at is in
    omega (arith, many, low)

pub returns-clause-same : goal.returns-clause-same
returns-clause-same c = λ n at is.
    let values = (numbers_with c.self.inside.in_order c.self.inside.stored.items) in
    let indices = c.self.inside.indices.indices in
    let low : n + 1 < length indices = c.levels.ensures.next n at is in
    ap (λ (v : RoomyItems ℕ). slice_get v.items (n + 1)) (sym c.self.view_is)
    ∙ values_get values indices (n + 1) c.self.invariant.below low
    ∙ ap (slice_get values) (c.levels.ensures.same n at is)
    ∙ sym (values_get values indices n c.self.invariant.below (omega (arith, low)))
    ∙ ap (λ (v : RoomyItems ℕ). slice_get v.items n) c.self.view_is
