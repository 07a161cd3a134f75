use Rattle.std.proofs.Common.{◌∙◌, List, length, arith, sym, ap, subst}
use Rattle.pt_causality.specs.Ranked.{level_of}
use Rattle.pt_turn.specs.Platforms.{PlatformView}
use Rattle.pt_engine.specs.Asked.{result_lists}
use Rattle.pt_engine.proofs.First.{opened, written}
use Rattle.pt_replay.specs.Outcome.{IsOutcome}
use Rattle.pt_replay.specs.Passing.{PipesAreEmpty}
use Rattle.pt_replay.proofs.Opening.{empty, from_zero, some_lent, stands_lent}
use Rattle.pt_replay.proofs.rounds.replayed.Goals as goal

pub time_after-requires : goal.time_after-requires
time_after-requires g c = record {
  some =
      let (plan, rows, ready) = c.requires.ready in
      let new = opened plan rows c.args.platforms.items c.as_slice.result.now c.index.result.now c.deref.result.now c.graph.result.now c.as_slice-links.result.now c.in_ok-pipes.pipes.items (result_lists c.in_ok-results.results.items)
      c.requires.some (c.deref.ensures ∙ c.plan.ensures ∙ ap (λ (v : PlatformView). v.plan) c.index.ensures) c.graph.ensures.value c.graph.ensures.admitted c.as_slice-links.ensures c.as_slice.ensures.value
      c.in_ok-pipes.ensures c.in_ok-results.ensures.none c.in_ok-results.ensures.legal ready in
      some_lent plan rows c.args.air.now c.args.platforms.items c.in_ok-airways.airways.items c.in_ok-pipes.pipes.items (result_lists c.in_ok-results.results.items) new (length c.as_slice-links.result.now) c.in_ok-pipes.ensures c.in_ok-airways.ensures c.requires.transits
      c.as_slice-2.result.now c.args.platforms.items c.as_slice-3.result.now c.in_ok-airways.airways.items c.as_slice-2.ensures.value c.as_slice-3.ensures.value;
}

pub go_on-requires : goal.go_on-requires
go_on-requires g c = record {
  begun =
      let (plan, rows, ready) = c.requires.ready in
      let new = opened plan rows c.args.platforms.items c.as_slice.result.now c.index.result.now c.deref.result.now c.graph.result.now c.as_slice-links.result.now c.in_ok-pipes.pipes.items (result_lists c.in_ok-results.results.items)
      c.requires.some (c.deref.ensures ∙ c.plan.ensures ∙ ap (λ (v : PlatformView). v.plan) c.index.ensures) c.graph.ensures.value c.graph.ensures.admitted c.as_slice-links.ensures c.as_slice.ensures.value
      c.in_ok-pipes.ensures c.in_ok-results.ensures.none c.in_ok-results.ensures.legal ready in (
        plan,
        rows,
        stands_lent plan rows c.args.air.now c.args.platforms.items c.in_ok-airways.airways.items c.in_ok-pipes.pipes.items (result_lists c.in_ok-results.results.items) new (length c.as_slice-links.result.now) c.in_ok-pipes.ensures c.in_ok-airways.ensures c.requires.transits
            c.as_slice-2.result.now c.as_mut_slice.result.now c.as_slice-3.result.now c.as_mut_slice-2.result.now c.as_slice-2.ensures.value c.as_slice-3.ensures.value
            c.in_ok-begins.begins (result_lists c.as_mut_slice-5.result.now) c.in_ok-begins.ensures c.as_mut_slice.ensures.value c.as_mut_slice-2.ensures.value (ap result_lists c.as_mut_slice-5.ensures.value),
        subst (PipesAreEmpty plan.graph) (sym c.as_mut_slice-4.ensures.value)
            (empty plan rows c.args.air.now c.args.platforms.items c.in_ok-airways.airways.items c.in_ok-pipes.pipes.items (result_lists c.in_ok-results.results.items) new (length c.as_slice-links.result.now) c.in_ok-pipes.ensures c.in_ok-airways.ensures c.requires.transits),
        from_zero plan.graph _ c.as_mut_slice-3.result.now c.as_mut_slice-2.result.now (c.as_mut_slice-3.ensures.value ∙ c.in_ok-arrivals.ensures),
      );
}

pub returns : goal.returns
returns g c = record {
  outcome = λ plan rows ready.
      let new = opened plan rows c.args.platforms.items c.as_slice.result.now c.index.result.now c.deref.result.now c.graph.result.now c.as_slice-links.result.now c.in_ok-pipes.pipes.items (result_lists c.in_ok-results.results.items)
      c.requires.some (c.deref.ensures ∙ c.plan.ensures ∙ ap (λ (v : PlatformView). v.plan) c.index.ensures) c.graph.ensures.value c.graph.ensures.admitted c.as_slice-links.ensures c.as_slice.ensures.value
      c.in_ok-pipes.ensures c.in_ok-results.ensures.none c.in_ok-results.ensures.legal ready in
      subst (λ (vs : List PlatformView). IsOutcome plan (level_of plan.ranks) rows c.args.air.now vs c.in_ok-fault.fault)
      (sym (written c.args.platforms.len c.go_on.new.platforms c.args.platforms.items (omega (arith, c.go_on.auto.platforms, c.as_mut_slice.ensures.len))))
      (c.in_ok-fault.ensures.outcome plan rows
      (stands_lent plan rows c.args.air.now c.args.platforms.items c.in_ok-airways.airways.items c.in_ok-pipes.pipes.items (result_lists c.in_ok-results.results.items) new (length c.as_slice-links.result.now) c.in_ok-pipes.ensures c.in_ok-airways.ensures c.requires.transits
      c.as_slice-2.result.now c.as_mut_slice.result.now c.as_slice-3.result.now c.as_mut_slice-2.result.now c.as_slice-2.ensures.value c.as_slice-3.ensures.value
      c.in_ok-begins.begins (result_lists c.as_mut_slice-5.result.now) c.in_ok-begins.ensures c.as_mut_slice.ensures.value c.as_mut_slice-2.ensures.value (ap result_lists c.as_mut_slice-5.ensures.value)));
}
