use Rattle.std.proofs.Common.{◌≤◌, ◌∙◌, length, sym, ap, subst}
use Rattle.std.specs.Arc.{arc_value}
use Rattle.pt_io.specs.Clocks.{viewed}
use Rattle.pt_types.specs.declared.graph.Graph.{Graph}
use Rattle.pt_semantics.specs.Linked.{AreMatched}
use Rattle.pt_offsets.specs.Plans.{IsAdmitted, Parts}
use Rattle.pt_turn.specs.All.{histories_of}
use Rattle.pt_engine.specs.Asked.{HaveLegalHistories}
use Rattle.pt_pool.specs.LinkedPlatform.{plan_graph}
use Rattle.pt_workers.specs.Working.Orders.{count_up}
use Rattle.pt_workers.specs.LinkEnds.Settled.{AreByNumber}
use Rattle.pt_workers.proofs.LinkEnds.Numbered.{numbered_in_order}
use Rattle.pt_workers.specs.Reported.{IsReported}
use Rattle.pt_workers.proofs.Ending.{all_is_outcome, readings_at, readings_count}
use Rattle.pt_workers.proofs.engine.run_named.Goals as goal

pub free-requires-clause-few : goal.free-requires-clause-few
free-requires-clause-few g c κs within =
    let admitted = c.in_ok-linked_platforms.ensures.admitted in
    subst (λ (z : Graph). length z.platforms ≤ 16) (sym (ap plan_graph c.requires.plan ∙ ap (λ (p : Parts). p.graph) (sym c.deref.ensures))) admitted.lawful.few_platforms

pub settle_run-requires-clause-order : goal.settle_run-requires-clause-order
settle_run-requires-clause-order g c =
    let linked_platforms = c.in_ok-linked_platforms-2.field-0.linked_platforms in
    let order = c.in_ok-linked_platforms-2.ensures.order in
    numbered_in_order linked_platforms.items (order.1 ∙ ap count_up (sym order.0 ∙ linked_platforms.ok.0))

pub returns : goal.returns
returns g c =
    let r = g.J.Run in
    let readings = g.C.Clock.readings in
    let ahead = g.C.Clock.ahead in
    let plan = arc_value c.args.plan in
    let linked_platforms = c.in_ok-linked_platforms-2.field-0.linked_platforms in
    let order = c.in_ok-linked_platforms-2.ensures.order in
    let platforms = c.in_ok-platforms.field-0.platforms.items in
    let clocks = c.in_ok-platforms.field-0.clocks.items in
    let settled = c.in_ok-platforms.ensures in
    let in_order : AreByNumber linked_platforms.items = numbered_in_order linked_platforms.items (order.1 ∙ ap count_up (sym order.0 ∙ linked_platforms.ok.0)) in
    record {
      outcome = all_is_outcome plan r.plan r.rows r.link r.began r.fixed c.requires.plan (subst IsAdmitted c.deref.ensures c.in_ok-linked_platforms.ensures.admitted)
          c.args.platforms.items (viewed readings ahead c.args.clocks.items) (viewed readings ahead clocks) c.requires.all c.requires.begun
          linked_platforms.items (sym linked_platforms.ok.0 ∙ order.0 ∙ ap (λ (z : Graph). length z.platforms) (ap plan_graph c.requires.plan)) in_order settled.of_run c.in_ok-linked_platforms-2.ensures.unmarked
          (readings_count readings ahead clocks linked_platforms.items settled.clocks) (readings_at readings ahead clocks linked_platforms.items settled.clocks)
          platforms settled.platforms (subst HaveLegalHistories c.as_slice.ensures.value c.show_histories.ensures)
          (subst (λ (p : Parts). AreMatched p.graph (histories_of platforms)) c.deref-2.ensures settled.matched)
          c.in_ok-linked_platforms-2.field-0.failed c.fault_at-fault.result c.in_ok-linked_platforms-2.ensures.done c.in_ok-linked_platforms-2.ensures.fault
          (subst (λ ps. IsReported ps c.in_ok-linked_platforms-2.field-0.failed c.fault_at-fault.result) c.as_slice-2.ensures.value c.fault_at-fault.ensures);
    }
