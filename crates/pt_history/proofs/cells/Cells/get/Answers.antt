use Rattle.std.proofs.Common.{◌≡◌, ◌+◌, ◌≤◌, ◌<◌, Some, count_ones, drop, length, take, get_or, sym, ap, ap₂, ◌∙◌, arith}
use Rattle.std.specs.Prelude.{slice_get}
use Rattle.std.proofs.lemmas.Grind.{get_or_default_zero}
use Rattle.std.proofs.lemmas.List.Sums.{sum_by_more_le}
use Rattle.pt_history.specs.Cells.{RoomyCells, group_of, ones_in}
use Rattle.pt_history.proofs.MaskLists.{groups_get, length-groups}
use Rattle.pt_history.proofs.cells.Cells.get.Goals as goal

pub values_before-start-requires-clause-within : goal.values_before-start-requires-clause-within
values_before-start-requires-clause-within c =
    let many : length c.args.self.now.cells ≡ length c.self.inside.masks.items = ap (λ (v : RoomyCells). length v.cells) (sym c.self.view_is) ∙ length-groups c.self.inside.masks.items c.self.inside.values.items in
    omega (arith, many, c.requires, ap length c.as_slice.ensures.value)

pub index-requires : goal.index-requires
index-requires c =
    let many : length c.args.self.now.cells ≡ length c.self.inside.masks.items = ap (λ (v : RoomyCells). length v.cells) (sym c.self.view_is) ∙ length-groups c.self.inside.masks.items c.self.inside.values.items in
    omega (arith, many, c.requires, c.self.inside.masks.ok.0)

pub group_at-requires : goal.group_at-requires
group_at-requires c =
    let masks = c.self.inside.masks.items in
    let n = c.args.number in
    let many : length c.args.self.now.cells ≡ length masks = ap (λ (v : RoomyCells). length v.cells) (sym c.self.view_is) ∙ length-groups masks c.self.inside.values.items in
    let within : n < length masks = omega (arith, many, c.requires) in
    let mask : count_ones c.index.result.now ≡ count_ones (get_or masks n 0) = ap count_ones (c.index.ensures ∙ get_or_default_zero masks n c.index.result.now within) in
    let start : c.values_before-start.result ≡ ones_in (take n masks) = c.values_before-start.ensures ∙ ap (λ ms. ones_in (take n ms)) c.as_slice.ensures.value in
    let most : ones_in (take n masks) + count_ones (get_or masks n 0) ≤ ones_in masks = sum_by_more_le count_ones masks n 0 within in
    omega (arith, mask, start, most, c.self.invariant.values, ap length c.as_slice-3.ensures.value)

pub returns : goal.returns
returns c =
    let masks = c.self.inside.masks.items in
    let values = c.self.inside.values.items in
    let n = c.args.number in
    let many : length c.args.self.now.cells ≡ length masks = ap (λ (v : RoomyCells). length v.cells) (sym c.self.view_is) ∙ length-groups masks values in
    let within : n < length masks = omega (arith, many, c.requires) in
    let mask : c.index.result.now ≡ get_or masks n 0 = c.index.ensures ∙ get_or_default_zero masks n c.index.result.now within in
    let start : c.values_before-start.result ≡ ones_in (take n masks) = c.values_before-start.ensures ∙ ap (λ ms. ones_in (take n ms)) c.as_slice.ensures.value in
    ap (λ (v : RoomyCells). slice_get v.cells n) (sym c.self.view_is)
    ∙ groups_get masks values n within
    ∙ ap₂ (λ m k. Some (group_of m (drop k values))) (sym mask) (sym start)
    ∙ ap (λ vs. Some (group_of c.index.result.now (drop c.values_before-start.result vs))) (sym c.as_slice-3.ensures.value)
    ∙ ap Some (sym c.group_at.ensures)
