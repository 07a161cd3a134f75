use Rattle.std.proofs.Common.{◌≡◌, ◌∙◌, ap, min, length, get_or}
use Rattle.pt_actors.proofs.Cells.{cell_value, place, all_placed}
use Rattle.pt_actors.proofs.lanes.lanes.Goals as goal

pub loop-cell-preserved : goal.loop-cell-preserved
loop-cell-preserved c =
    let l = c.loop-cell in
    let size : c.min.result ≡ min (get_or c.args.cells.now l.cell 0) (length l.rest.now) = cc in
    rw (c.split_at.ensures.back) (place c.args.cells.now c.args.inputs.now l.rest.now l.outputs l.cell c.min.result c.cell_value.result c.loop-cell-test.true l.invariant size
    (c.cell_value.ensures ∙ ap cell_value c.split_at.ensures.front))

pub returns : goal.returns
returns c = c.from_values.ensures ∙ all_placed c.args.cells.now c.args.inputs.now c.loop-cell.rest.now c.loop-cell.outputs c.loop-cell.cell c.loop-cell-test.false c.loop-cell.invariant
