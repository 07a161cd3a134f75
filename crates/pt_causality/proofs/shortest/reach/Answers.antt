use Rattle.std.proofs.Common.{◌≡◌, Bool, true, false, arith, slice_index_or}
use Rattle.pt_causality.specs.declared.arcs.Arc.{Arc}
use Rattle.pt_causality.proofs.Members.{in_place, open_by}
use Rattle.pt_causality.proofs.Reaching.{one_more, no_more}
use Rattle.pt_causality.specs.Waits.{is_open, reached}
use Rattle.pt_causality.specs.Cells.{delay_at}
use Rattle.pt_causality.proofs.shortest.reach.Goals.{then-is_open+in_ok-push, else-is_open}
use Rattle.pt_causality.proofs.shortest.reach.Goals as goal

abbrev no_arc : Arc
no_arc = record { to = 0; weight = record { time = 0; step = 0 } }

pub overflow_add-time : goal.overflow_add-time
overflow_add-time c =
    let fit = c.requires.fit (slice_index_or c.args.arcs.now c.loop-arc.arc-index no_arc) (in_place c.args.arcs.now c.loop-arc.arc-index no_arc c.loop-arc-test.true) in
    omega (arith, fit.0)

pub overflow_add-step : goal.overflow_add-step
overflow_add-step c =
    let fit = c.requires.fit (slice_index_or c.args.arcs.now c.loop-arc.arc-index no_arc) (in_place c.args.arcs.now c.loop-arc.arc-index no_arc c.loop-arc-test.true) in
    omega (arith, fit.1)

pub loop-arc-preserved : goal.loop-arc-preserved
loop-arc-preserved c =
    let row = c.args.row.now in
    let test = λ (b : Bool) (h : c.is_none-is_open.result ≡ b). open_by c.get.result (delay_at row (slice_index_or c.args.arcs.now c.loop-arc.arc-index no_arc).to) c.is_none-is_open.result b c.get.ensures c.is_none-is_open.ensures h in
    elim c.if-is_open.branch [
      | then-is_open+in_ok-push w ↦ rw w.frontier-is (one_more (reached c.args.at) (is_open row) c.args.arcs.now c.loop-arc.arc-index no_arc c.args.frontier.now _ _ c.loop-arc-test.true (test true w.if-is_open.true) c.loop-arc.invariant w.in_ok-push.ensures)
      | else-is_open w ↦ rw w.frontier-is (no_more (reached c.args.at) (is_open row) c.args.arcs.now c.loop-arc.arc-index no_arc c.args.frontier.now _ c.loop-arc-test.true (test false w.if-is_open.false) c.loop-arc.invariant)
    ]
