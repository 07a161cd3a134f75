use Rattle.std.proofs.Common.{◌≡◌, ℕ, ◌+◌, length, ap, sym, ◌∙◌, arith}
use Rattle.std.specs.Prelude.{slice_get}
use Rattle.pt_history.specs.Indices.{RoomyItems}
use Rattle.pt_history.specs.Numbers.{numbers_with}
use Rattle.pt_history.proofs.ValuesAt.{length-values, values_get}
use Rattle.pt_history.proofs.list_starts.ListStarts.stays.Goals as goal

pub stays-requires : goal.stays-requires
stays-requires c =
    let many : length c.args.self.now.items ≡ length c.self.inside.indices.indices = ap (λ (v : RoomyItems ℕ). length v.items) (sym c.self.view_is) ∙ length-values (numbers_with c.self.inside.in_order c.self.inside.stored.items) c.self.inside.indices.indices c.self.invariant.below in
    omega (arith, many, c.requires)

pub returns : goal.returns
returns c = λ yes.
    let values = (numbers_with c.self.inside.in_order c.self.inside.stored.items) in
    let is = c.self.inside.indices.indices in
    let n = c.args.number in
    let many : length c.args.self.now.items ≡ length is = ap (λ (v : RoomyItems ℕ). length v.items) (sym c.self.view_is) ∙ length-values values is c.self.invariant.below in
    ap (λ (v : RoomyItems ℕ). slice_get v.items (n + 1)) (sym c.self.view_is)
    ∙ values_get values is (n + 1) c.self.invariant.below (omega (arith, many, c.requires))
    ∙ ap (slice_get values) (c.stays.ensures yes)
    ∙ sym (values_get values is n c.self.invariant.below (omega (arith, many, c.requires)))
    ∙ ap (λ (v : RoomyItems ℕ). slice_get v.items n) c.self.view_is
