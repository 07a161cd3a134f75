use Rattle.std.proofs.Common.{◌≡◌, ℕ, ◌+◌, ◌<◌, length, get_or, ap, sym, ◌∙◌, arith}
use Rattle.std.specs.Prelude.{slice_get}
use Rattle.pt_history.specs.Indices.{RoomyItems}
use Rattle.pt_history.specs.Numbers.{numbers_with}
use Rattle.pt_history.proofs.NumberLists.{length-with, number_is}
use Rattle.pt_history.proofs.ValuesAt.{below_get, length-values, values_get}
use Rattle.pt_history.proofs.list_starts.ListStarts.get.Goals as goal

pub get-requires : goal.get-requires
get-requires c =
    let starts = numbers_with c.self.inside.in_order c.self.inside.stored.items in
    let many : length c.args.self.now.items ≡ length c.self.inside.indices.indices = ap (λ (v : RoomyItems ℕ). length v.items) (sym c.self.view_is) ∙ length-values starts c.self.inside.indices.indices c.self.invariant.below in
    omega (arith, many, c.requires)

pub number_at-requires-clause-within : goal.number_at-requires-clause-within
number_at-requires-clause-within c =
    let starts = numbers_with c.self.inside.in_order c.self.inside.stored.items in
    let is = c.self.inside.indices.indices in
    let many : length c.args.self.now.items ≡ length is = ap (λ (v : RoomyItems ℕ). length v.items) (sym c.self.view_is) ∙ length-values starts is c.self.invariant.below in
    let low : get_or is c.args.number 0 < length starts = below_get (length starts) c.args.number is c.self.invariant.below (omega (arith, many, c.requires)) in
    let long : length starts ≡ c.self.inside.in_order + length c.self.inside.stored.items = length-with c.self.inside.in_order c.self.inside.stored.items in
    let same : length c.as_slice.result.now ≡ length c.self.inside.stored.items = ap length c.as_slice.ensures.value in
    omega (arith, low, long, same, c.get.ensures)

pub returns : goal.returns
returns c =
    let stored = c.self.inside.stored.items in
    let starts = numbers_with c.self.inside.in_order stored in
    let is = c.self.inside.indices.indices in
    let many : length c.args.self.now.items ≡ length is = ap (λ (v : RoomyItems ℕ). length v.items) (sym c.self.view_is) ∙ length-values starts is c.self.invariant.below in
    let low : get_or is c.args.number 0 < length starts = below_get (length starts) c.args.number is c.self.invariant.below (omega (arith, many, c.requires)) in
    let long : length starts ≡ c.self.inside.in_order + length stored = length-with c.self.inside.in_order stored in
    ap (λ (v : RoomyItems ℕ). slice_get v.items c.args.number) (sym c.self.view_is)
    ∙ values_get starts is c.args.number c.self.invariant.below (omega (arith, many, c.requires))
    ∙ ap (slice_get starts) (sym c.get.ensures)
    ∙ number_is c.self.inside.in_order c.get.result c.number_at.result stored (omega (arith, low, long, c.get.ensures)) (c.number_at.ensures ∙ ap (λ s. get_or (numbers_with c.self.inside.in_order s) c.get.result 0) c.as_slice.ensures.value)
