use Rattle.std.proofs.Common.{◌∙◌, List, arith, subst, sym}
use Rattle.std.proofs.lemmas.Bool.{false≢true}
use Rattle.pt_io.specs.Clocks.{ClockView, viewed}
use Rattle.pt_engine.specs.Asked.{result_lists}
use Rattle.pt_fixed_order.specs.Between.{BeforeVisit}
use Rattle.pt_fixed_order.proofs.Steps.{ends_none, ends_one, goes_on, within_all}
use Rattle.pt_fixed_order.proofs.going_on.go_on.Goals as goal

pub visit_at-requires-clause-within : goal.visit_at-requires-clause-within
visit_at-requires-clause-within g c =
    let (plan, rows, began, start) = c.requires.begun in
    within_all g.C.Clock.readings g.C.Clock.ahead plan rows c.args.most c.loop.number began c.loop.clocks c.loop.platforms c.loop.pipes c.loop.results (c.loop.invariant plan rows began start)

pub visit_at-requires-clause-begun : goal.visit_at-requires-clause-begun
visit_at-requires-clause-begun g c =
    let (plan, rows, began, start) = c.requires.begun in (plan, rows, began, c.loop.invariant plan rows began start)

pub returns-in-Some-fault_of : goal.returns-in-Some-fault_of
returns-in-Some-fault_of g c = record {
  outcome = λ plan rows began start.
      ends_one plan rows c.args.most c.loop.number began (viewed g.C.Clock.readings g.C.Clock.ahead c.visit_at.new.clocks) c.visit_at.new.platforms c.visit_at.new.pipes (result_lists c.visit_at.new.results)
      (c.in_ok-visit_at.ensures.visited plan rows began (c.loop.invariant plan rows began start))
      c.in-Some-fault_of.fault c.in-Some-fault_of.ensures;
}

pub returns-then-are_finished : goal.returns-then-are_finished
returns-then-are_finished g c = record {
  outcome = λ plan rows began start.
      ends_none plan rows c.args.most c.loop.number began (viewed g.C.Clock.readings g.C.Clock.ahead c.visit_at.new.clocks) c.visit_at.new.platforms c.visit_at.new.pipes (result_lists c.visit_at.new.results)
      (c.in_ok-visit_at.ensures.visited plan rows began (c.loop.invariant plan rows began start))
      c.in_default.ensures (c.are_finished.ensures.0 c.if-are_finished.true);
}

pub loop-preserved : goal.loop-preserved
loop-preserved g c = λ plan rows began start.
    subst (λ (cs : List ClockView). BeforeVisit plan rows c.args.most c.after-number.result began cs c.visit_at.new.platforms c.visit_at.new.pipes (result_lists c.visit_at.new.results)) (sym c.rest.ensures)
    (goes_on plan rows c.args.most c.loop.number began (viewed g.C.Clock.readings g.C.Clock.ahead c.visit_at.new.clocks) c.visit_at.new.platforms c.visit_at.new.pipes (result_lists c.visit_at.new.results)
    (c.in_ok-visit_at.ensures.visited plan rows began (c.loop.invariant plan rows began start))
    c.in_default.ensures (λ done. false≢true (sym c.if-are_finished.false ∙ c.are_finished.ensures.1 done))
    c.after-number.result c.after-number.ensures)

pub loop-init : goal.loop-init
loop-init g c = λ plan rows began start. start

pub fault_of-requires : goal.fault_of-requires
fault_of-requires g c = record {
  within =
      let (plan, rows, began, start) = c.requires.begun in
      let w = within_all g.C.Clock.readings g.C.Clock.ahead plan rows c.args.most c.loop.number began c.loop.clocks c.loop.platforms c.loop.pipes c.loop.results (c.loop.invariant plan rows began start) in
      omega (arith, w.0, c.visit_at.auto.platforms);
}

pub after-number-requires : goal.after-number-requires
after-number-requires g c = record {
  within =
      let (plan, rows, began, start) = c.requires.begun in
      let w = within_all g.C.Clock.readings g.C.Clock.ahead plan rows c.args.most c.loop.number began c.loop.clocks c.loop.platforms c.loop.pipes c.loop.results (c.loop.invariant plan rows began start) in
      omega (arith, w.0, c.visit_at.auto.platforms);
}
