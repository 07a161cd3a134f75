use Rattle.std.proofs.Common.{◌≡◌, ◌∙◌, ◌++◌, ℕ, List, length, take, drop, arith, sym, ap, subst}
use Rattle.std.proofs.lemmas.List.{length-map}
use Rattle.pt_io.specs.Clocks.{ClockView, viewed}
use Rattle.pt_tags.specs.declared.message.Message.{Message}
use Rattle.pt_types.specs.declared.firing.Done.{Done}
use Rattle.pt_types.specs.declared.rows.Row.{Row}
use Rattle.pt_offsets.specs.Plans.{Parts}
use Rattle.pt_turn.specs.Platforms.{PlatformView}
use Rattle.pt_engine.specs.Asked.{result_lists}
use Rattle.pt_fixed_order.specs.Outcome.{IsOutcome}
use Rattle.pt_fixed_order.specs.Between.{BeforeVisit}
use Rattle.pt_fixed_order.proofs.Steps.{view_of_clock}
use Rattle.pt_engine.proofs.First.{AreOpened, opened, written}
use Rattle.pt_fixed_order.proofs.Starting.{before_first}
use Rattle.pt_fixed_order.proofs.engine.alone.Goals as goal

starts : (plan : Parts) (rows : ℕ → List Row) (most : ℕ) (clocks lent_clocks : List ClockView) (platforms lent : List PlatformView) (pipes lent_pipes : List (List Message)) (results lent_results : List (List Done)) →
    AreOpened plan rows platforms pipes results → length clocks ≡ length platforms → lent_clocks ≡ clocks → lent ≡ platforms → lent_pipes ≡ pipes → lent_results ≡ results → BeforeVisit plan rows most 0 clocks lent_clocks lent lent_pipes lent_results
starts plan rows most clocks lent_clocks platforms lent pipes lent_pipes results lent_results new count e0 e e2 e3 =
    subst (λ (cs : List ClockView). BeforeVisit plan rows most 0 clocks cs lent lent_pipes lent_results) (sym e0)
    (subst (λ (vs : List PlatformView). BeforeVisit plan rows most 0 clocks clocks vs lent_pipes lent_results) (sym e)
    (subst (λ (ps : List (List Message)). BeforeVisit plan rows most 0 clocks clocks platforms ps lent_results) (sym e2)
    (subst (λ (rs : List (List Done)). BeforeVisit plan rows most 0 clocks clocks platforms pipes rs) (sym e3)
    (before_first plan rows most clocks platforms pipes results new count))))

pub go_on-requires-clause-begun : goal.go_on-requires-clause-begun
go_on-requires-clause-begun g c =
    let (plan, rows, ready) = c.requires.ready in (
      plan,
      rows,
      viewed g.C.Clock.readings g.C.Clock.ahead c.args.clocks.items,
      starts plan rows c.args.most (viewed g.C.Clock.readings g.C.Clock.ahead c.args.clocks.items) (viewed g.C.Clock.readings g.C.Clock.ahead c.as_mut_slice-2.result.now) c.args.platforms.items c.as_mut_slice.result.now c.in_ok-pipes.pipes.items c.as_mut_slice-3.result.now (result_lists c.in_ok-results.results.items) (result_lists c.as_mut_slice-4.result.now)
          (opened plan rows c.args.platforms.items c.as_slice.result.now c.index.result.now c.deref.result.now c.graph.result.now c.as_slice-links.result.now c.in_ok-pipes.pipes.items (result_lists c.in_ok-results.results.items)
          c.requires.some (c.deref.ensures ∙ c.plan.ensures ∙ ap (λ (v : PlatformView). v.plan) c.index.ensures) c.graph.ensures.value c.graph.ensures.admitted c.as_slice-links.ensures c.as_slice.ensures.value
          c.in_ok-pipes.ensures c.in_ok-results.ensures.none c.in_ok-results.ensures.legal ready)
          (length-map c.args.clocks.items (view_of_clock g.C.Clock.readings g.C.Clock.ahead) ∙ c.requires.clocks)
          (ap (viewed g.C.Clock.readings g.C.Clock.ahead) c.as_mut_slice-2.ensures.value) c.as_mut_slice.ensures.value c.as_mut_slice-3.ensures.value (ap result_lists c.as_mut_slice-4.ensures.value),
    )

pub returns : goal.returns
returns g c = record {
  outcome = λ plan rows ready.
      let began : List ClockView = viewed g.C.Clock.readings g.C.Clock.ahead c.args.clocks.items in
      subst (λ (vs : List PlatformView). IsOutcome plan rows c.args.most began (viewed g.C.Clock.readings g.C.Clock.ahead (take c.args.clocks.len (c.go_on.new.clocks ++ drop (length c.go_on.new.clocks) c.args.clocks.items))) vs c.in_ok-fault.fault)
      (sym (written c.args.platforms.len c.go_on.new.platforms c.args.platforms.items (omega (arith, c.go_on.auto.platforms, c.as_mut_slice.ensures.len))))
      (subst (λ (ns : List ClockView). IsOutcome plan rows c.args.most began ns c.go_on.new.platforms c.in_ok-fault.fault)
      (sym (ap (viewed g.C.Clock.readings g.C.Clock.ahead) (written c.args.clocks.len c.go_on.new.clocks c.args.clocks.items (omega (arith, c.go_on.auto.clocks, c.as_mut_slice-2.ensures.len)))))
      (c.in_ok-fault.ensures.outcome plan rows began
      (starts plan rows c.args.most began (viewed g.C.Clock.readings g.C.Clock.ahead c.as_mut_slice-2.result.now) c.args.platforms.items c.as_mut_slice.result.now c.in_ok-pipes.pipes.items c.as_mut_slice-3.result.now (result_lists c.in_ok-results.results.items) (result_lists c.as_mut_slice-4.result.now)
      (opened plan rows c.args.platforms.items c.as_slice.result.now c.index.result.now c.deref.result.now c.graph.result.now c.as_slice-links.result.now c.in_ok-pipes.pipes.items (result_lists c.in_ok-results.results.items)
      c.requires.some (c.deref.ensures ∙ c.plan.ensures ∙ ap (λ (v : PlatformView). v.plan) c.index.ensures) c.graph.ensures.value c.graph.ensures.admitted c.as_slice-links.ensures c.as_slice.ensures.value
      c.in_ok-pipes.ensures c.in_ok-results.ensures.none c.in_ok-results.ensures.legal ready)
      (length-map c.args.clocks.items (view_of_clock g.C.Clock.readings g.C.Clock.ahead) ∙ c.requires.clocks)
      (ap (viewed g.C.Clock.readings g.C.Clock.ahead) c.as_mut_slice-2.ensures.value) c.as_mut_slice.ensures.value c.as_mut_slice-3.ensures.value (ap result_lists c.as_mut_slice-4.ensures.value))));
}
