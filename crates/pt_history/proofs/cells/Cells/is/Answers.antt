use Rattle.std.proofs.Common.{rules, ◌≡◌, ◌+◌, ◌≤◌, ◌<◌, ◌++◌, ◌∷◌, [], List, ℕ, ℤ, Some, count_ones, drop, length, take, get_or, sym, ap, ap₂, ◌∙◌, arith}
use Rattle.std.specs.Prelude.{slice_get}
use Rattle.std.proofs.lemmas.Grind.{get_or_default_zero}
use Rattle.std.proofs.lemmas.List.Sums.{sum_by_more_le}
use Rattle.pt_history.specs.Cells.{RoomyCells, group_of, groups_of, nonzero, ones_in}
use Rattle.pt_history.proofs.Comparing.{near_next}
use Rattle.pt_history.proofs.MaskLists.{groups_get, length-groups}
use Rattle.pt_history.proofs.cells.Cells.is.Goals as goal

pub start_of-start-requires-clause-within : goal.start_of-start-requires-clause-within
start_of-start-requires-clause-within c =
    let many : length c.args.self.now.cells ≡ length c.self.inside.masks.items = ap (λ (v : RoomyCells). length v.cells) (sym c.self.view_is) ∙ length-groups c.self.inside.masks.items c.self.inside.values.items in
    omega (arith, many, c.requires, ap length c.as_slice.ensures.value)

pub index-mask-requires : goal.index-mask-requires
index-mask-requires c =
    let many : length c.args.self.now.cells ≡ length c.self.inside.masks.items = ap (λ (v : RoomyCells). length v.cells) (sym c.self.view_is) ∙ length-groups c.self.inside.masks.items c.self.inside.values.items in
    omega (arith, many, c.requires, c.self.inside.masks.ok.0)

pub overflow_add-self : goal.overflow_add-self
overflow_add-self c =
    let many : length c.args.self.now.cells ≡ length c.self.inside.masks.items = ap (λ (v : RoomyCells). length v.cells) (sym c.self.view_is) ∙ length-groups c.self.inside.masks.items c.self.inside.values.items in
    omega (arith, many, c.requires, ap length c.as_slice.ensures.value, c.as_slice.type_inv.0)

-- a group, its start and its end
record Stands (masks : List ℕ) (values : List ℤ) (n mask start : ℕ) : Type 0 where
  pub is : mask ≡ get_or masks n 0
  pub before : start ≡ ones_in (take n masks)
  pub fits : start + count_ones mask ≤ ones_in masks
  pub get : slice_get (groups_of masks values) n ≡ Some (group_of mask (drop start values))

stands : (masks slice : List ℕ) (values : List ℤ) (n mask start : ℕ) → n < length masks → slice ≡ masks → mask ≡ get_or masks n mask → start ≡ ones_in (take n slice) → Stands masks values n mask start
stands masks slice values n mask start within same is before =
    let value : mask ≡ get_or masks n 0 = is ∙ get_or_default_zero masks n mask within in
    let at : start ≡ ones_in (take n masks) = before ∙ ap (λ ms. ones_in (take n ms)) same in
    let most : ones_in (take n masks) + count_ones (get_or masks n 0) ≤ ones_in masks = sum_by_more_le count_ones masks n 0 within in
    record { is = value; before = at; fits = omega (arith, most, at, ap count_ones value); get = groups_get masks values n within ∙ ap₂ (λ m k. Some (group_of m (drop k values))) (sym value) (sym at) }

pub are_cells-requires : goal.are_cells-requires
are_cells-requires c =
    let many : length c.args.self.now.cells ≡ length c.self.inside.masks.items = ap (λ (v : RoomyCells). length v.cells) (sym c.self.view_is) ∙ length-groups c.self.inside.masks.items c.self.inside.values.items in
    let s : Stands c.self.inside.masks.items c.self.inside.values.items c.args.number c.index-mask.result.now c.start_of-start.result =
    stands c.self.inside.masks.items c.as_slice.result.now c.self.inside.values.items c.args.number c.index-mask.result.now c.start_of-start.result (omega (arith, many, c.requires)) c.as_slice.ensures.value c.index-mask.ensures c.start_of-start.ensures in
    omega (arith, s.fits, c.self.invariant.values, ap length c.as_slice-3.ensures.value)

pub invariant_of-self : goal.invariant_of-self
invariant_of-self c =
    let many : length c.args.self.now.cells ≡ length c.self.inside.masks.items = ap (λ (v : RoomyCells). length v.cells) (sym c.self.view_is) ∙ length-groups c.self.inside.masks.items c.self.inside.values.items in
    let within : c.args.number < length c.self.inside.masks.items = omega (arith, many, c.requires) in
    let s : Stands c.self.inside.masks.items c.self.inside.values.items c.args.number c.index-mask.result.now c.start_of-start.result =
    stands c.self.inside.masks.items c.as_slice.result.now c.self.inside.values.items c.args.number c.index-mask.result.now c.start_of-start.result within c.as_slice.ensures.value c.index-mask.ensures c.start_of-start.ensures in
    record {
      values = c.self.invariant.values;
      sums = c.self.invariant.sums;
      near = near_next c.self.inside.masks.items c.args.number c.start_of-start.result c.index-mask.result.now within s.before s.is;
      masks_room = c.self.invariant.masks_room;
      values_room = c.self.invariant.values_room;
      sums_room = c.self.invariant.sums_room;
      fits = c.self.invariant.fits;
    }

pub returns-clause-same : goal.returns-clause-same
returns-clause-same c = λ same.
    let many : length c.args.self.now.cells ≡ length c.self.inside.masks.items = ap (λ (v : RoomyCells). length v.cells) (sym c.self.view_is) ∙ length-groups c.self.inside.masks.items c.self.inside.values.items in
    let s : Stands c.self.inside.masks.items c.self.inside.values.items c.args.number c.index-mask.result.now c.start_of-start.result =
    stands c.self.inside.masks.items c.as_slice.result.now c.self.inside.values.items c.args.number c.index-mask.result.now c.start_of-start.result (omega (arith, many, c.requires)) c.as_slice.ensures.value c.index-mask.ensures c.start_of-start.ensures in
    let cell : c.nonzero.result ≡ nonzero c.args.state = search rules in
    ap (λ (v : RoomyCells). slice_get v.cells c.args.number) (sym c.self.view_is)
    ∙ s.get
    ∙ ap (λ vs. Some (group_of c.index-mask.result.now (drop c.start_of-start.result vs))) (sym c.as_slice-3.ensures.value)
    ∙ ap Some (c.are_cells.ensures.same same ∙ ap (λ x. c.args.ports.now ++ x ∷ []) cell)
