use Rattle.std.proofs.Common.{rules, ◌≡◌, ◌+◌, ◌-◌, ◌%◌, ◌/◌, ◌≤◌, ◌<◌, ◌++◌, count_ones, drop, length, length-set, refl, sym, ap₂, ◌∙◌, arith}
use Rattle.std.proofs.lemmas.List.{append-nil, take_all}
use Rattle.pt_history.specs.Cells.{cells_from, group_of}
use Rattle.pt_history.proofs.MaskLists.{ones_split, step_group}
use Rattle.pt_history.proofs.cells.whole_group.Goals as goal

pub loop-number-init : goal.loop-number-init
unfolding group_of
loop-number-init c = record { cells = refl; fits = c.requires; nine = refl }

pub cell_at-requires : goal.cell_at-requires
cell_at-requires c =
    let split : count_ones c.loop-number.rest ≡ c.loop-number.rest % 2 + count_ones (c.loop-number.rest / 2) = ones_split c.loop-number.rest in
    omega (arith, split, c.loop-number.invariant.fits)

pub loop-number-preserved : goal.loop-number-preserved
loop-number-preserved c =
    let split : count_ones c.loop-number.rest ≡ c.loop-number.rest % 2 + count_ones (c.loop-number.rest / 2) = ones_split c.loop-number.rest in
    let nine : length c.loop-number.cells ≡ 9 = c.loop-number.invariant.nine in
    let low : c.loop-number.number < 9 = search rules in
    record {
      cells = step_group c.loop-number.cells c.cell_at.result c.loop-number.number 9 c.loop-number.rest c.args.values.now c.loop-number.at low (omega (arith, nine, low)) c.cell_at.ensures ∙ c.loop-number.invariant.cells;
      fits = omega (arith, split, c.loop-number.invariant.fits);
      nine = length-set c.loop-number.cells c.loop-number.number c.cell_at.result ∙ nine;
    }

pub returns : goal.returns
returns c =
    let nine : length c.loop-number.cells ≡ 9 = c.loop-number.invariant.nine in
    let past : 9 ≤ c.loop-number.number = search rules in
    let none : 9 - c.loop-number.number ≡ 0 = omega (arith, past) in
    sym (append-nil c.loop-number.cells)
    ∙ ap₂ (λ xs n. xs ++ cells_from n c.loop-number.rest (drop c.loop-number.at c.args.values.now)) (sym (take_all c.loop-number.number c.loop-number.cells (omega (arith, nine, past)))) (sym none)
    ∙ c.loop-number.invariant.cells
