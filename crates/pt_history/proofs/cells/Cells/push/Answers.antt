use Rattle.std.proofs.Common.{rules, ◌≡◌, ◌+◌, ◌*◌, ◌^◌, ◌%◌, ◌/◌, ◌≤◌, ◌<◌, ◌++◌, ◌∷◌, [], List, Option, ℕ, ℤ, count_ones, length, take, get_or, sym, ap, ap₂, subst, ◌∙◌, arith}
use Rattle.std.proofs.lemmas.List.{append-nil, append_assoc, length-append, length_push, take-append-le}
use Rattle.std.proofs.lemmas.List.Sums.{sum_by_push}
use Rattle.pt_history.specs.Cells.{AreSums, RoomyCells, bit_of, cells_of, group_of, groups_of, mask_of, nonzero, ones_in, value_in, values_in}
use Rattle.pt_history.proofs.MaskLists.{groups_push, group_back, ones_of_mask, sums_push}
use Rattle.pt_history.proofs.Prefixes.{few_values, mask_below, mask_push, values_push}
use Rattle.pt_history.proofs.cells.Cells.push.Goals as goal

low_eight : (ports : List (Option ℤ)) → length ports ≡ 8 → mask_of ports < 2 ^ 8
low_eight ports eight = subst (λ n. mask_of ports < 2 ^ n) eight (mask_below ports)

-- the mask and the values of eight ports, and then those of a state
record Stored (old new : List ℤ) (mask : ℕ) (cells : List (Option ℤ)) : Type 0 where
  pub nine : length cells ≡ 9
  pub is : mask ≡ mask_of cells
  pub values : new ≡ old ++ values_in cells
  pub many : length new ≡ length old + count_ones mask
  pub few : count_ones mask ≤ 9

stored : (old mid new : List ℤ) (ports : List (Option ℤ)) (cell : Option ℤ) (low mask : ℕ) (state : ℤ) → length ports ≡ 8 → cell ≡ nonzero state → low ≡ mask_of ports → mask ≡ low + bit_of cell * 2 ^ 8
    → mid ≡ old ++ values_in ports → new ≡ mid ++ value_in cell → Stored old new mask (cells_of ports state)
stored old mid new ports cell low mask state eight is first next some more =
    let cells = cells_of ports state in
    let all : mask ≡ mask_of cells = next ∙ ap₂ (λ m x. m + bit_of x * 2 ^ 8) first is ∙ sym (mask_push ports (nonzero state) 8 eight) in
    let values : new ≡ old ++ values_in cells =
    more ∙ ap₂ (λ vs x. vs ++ value_in x) some is ∙ append_assoc old (values_in ports) (value_in (nonzero state)) ∙ ap (λ vs. old ++ vs) (sym (values_push ports (nonzero state))) in
    let ones : count_ones mask ≡ length (values_in cells) = ap count_ones all ∙ ones_of_mask cells in
    let many : length new ≡ length old + length (values_in cells) = ap length values ∙ length-append old (values_in cells) in
    let nine : length cells ≡ 9 = omega (arith, eight, length_push ports (nonzero state)) in
    record { nine = nine; is = all; values = values; many = omega (arith, ones, many); few = omega (arith, ones, few_values cells, nine) }

pub push_cell-mask-requires-clause-low : goal.push_cell-mask-requires-clause-low
push_cell-mask-requires-clause-low c =
    let low : mask_of c.args.ports.now < 2 ^ 8 = low_eight c.args.ports.now c.push_ports-low.ensures.eight in
    omega (arith, low, c.push_ports-low.ensures.mask)

pub invariant_of-self : goal.invariant_of-self
invariant_of-self c =
    let masks = c.self.inside.masks.items in
    let values = c.self.inside.values.items in
    let cell : c.nonzero.result ≡ nonzero c.args.state = search rules in
    let s : Stored values c.push_cell-mask.new.values.items c.push_cell-mask.result (cells_of c.args.ports.now c.args.state) =
    stored values c.push_ports-low.new.values.items c.push_cell-mask.new.values.items c.args.ports.now c.nonzero.result c.push_ports-low.result c.push_cell-mask.result c.args.state c.push_ports-low.ensures.eight cell c.push_ports-low.ensures.mask c.push_cell-mask.ensures.mask c.push_ports-low.ensures.values c.push_cell-mask.ensures.values in
    let more : ones_in (masks ++ c.push_cell-mask.result ∷ []) ≡ ones_in masks + count_ones c.push_cell-mask.result = sum_by_push count_ones masks c.push_cell-mask.result in
    let len : c.len.result ≡ length masks = c.len.ensures ∙ c.self.inside.masks.ok.0 in
    let len_values : c.len-2.result ≡ length values = c.len-2.ensures ∙ c.self.inside.values.ok.0 in
    let spare : c.args.self.now.spare ≡ c.self.inside.spare = ap (λ (v : RoomyCells). v.spare) (sym c.self.view_is) in
    record {
      values = omega (arith, s.many, ap ones_in c.push_reserved.ensures.items, more, c.self.invariant.values);
      near = record { within = omega (arith, ap length c.push_reserved.ensures.items, length_push masks c.push_cell-mask.result, c.self.invariant.near.within); before = c.self.invariant.near.before ∙ ap ones_in (sym (ap (take c.self.inside.near_group) c.push_reserved.ensures.items ∙ take-append-le c.self.inside.near_group masks (c.push_cell-mask.result ∷ []) c.self.invariant.near.within)) };
      sums = subst (λ ms. AreSums c.begin_block.new.sums.items ms) (sym c.push_reserved.ensures.items)
          (sums_push c.self.inside.sums.items c.begin_block.new.sums.items masks c.push_cell-mask.result (length values) c.self.invariant.sums c.self.invariant.values
          (c.begin_block.ensures.many ∙ ap (λ n. (n + 8) / 8) len) c.begin_block.ensures.before
          (λ full. ap (λ n. get_or c.begin_block.new.sums.items (n / 8) 0) (sym len) ∙ c.begin_block.ensures.last (ap (λ n. n % 8) len ∙ full) ∙ len_values));
      masks_room = omega (arith, c.push_reserved.ensures.len, c.push_reserved.ensures.capacity, c.self.invariant.masks_room, spare, c.requires);
      values_room = omega (arith, s.many, s.few, c.push_cell-mask.new.values.ok.0, c.self.inside.values.ok.0, c.push_ports-low.ensures.room, c.push_cell-mask.ensures.room, c.self.invariant.values_room, spare, c.requires);
      sums_room = omega (arith, c.begin_block.ensures.one, c.begin_block.ensures.room, c.self.invariant.sums_room, spare, c.requires);
      fits = omega (arith, s.many, s.few, c.self.invariant.fits, spare, c.requires);
    }

pub returns-clause-cells : goal.returns-clause-cells
returns-clause-cells c =
    let masks = c.self.inside.masks.items in
    let values = c.self.inside.values.items in
    let cells = cells_of c.args.ports.now c.args.state in
    let cell : c.nonzero.result ≡ nonzero c.args.state = search rules in
    let s : Stored values c.push_cell-mask.new.values.items c.push_cell-mask.result cells =
    stored values c.push_ports-low.new.values.items c.push_cell-mask.new.values.items c.args.ports.now c.nonzero.result c.push_ports-low.result c.push_cell-mask.result c.args.state c.push_ports-low.ensures.eight cell c.push_ports-low.ensures.mask c.push_cell-mask.ensures.mask c.push_ports-low.ensures.values c.push_cell-mask.ensures.values in
    let back : group_of c.push_cell-mask.result (values_in cells) ≡ cells =
    ap₂ group_of s.is (sym (append-nil (values_in cells))) ∙ group_back cells [] s.nine in
    ap₂ groups_of c.push_reserved.ensures.items s.values
    ∙ groups_push masks values (values_in cells) c.push_cell-mask.result cells c.self.invariant.values back
    ∙ ap (λ (v : RoomyCells). v.cells ++ cells ∷ []) c.self.view_is
