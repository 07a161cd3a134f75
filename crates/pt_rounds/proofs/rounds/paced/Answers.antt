use Rattle.std.proofs.Common.{◌≡◌, ◌∙◌, ℕ, List, length, arith, sym, ap, subst}
use Rattle.pt_tags.specs.declared.message.Message.{Message}
use Rattle.pt_types.specs.declared.firing.Done.{Done}
use Rattle.pt_types.specs.declared.rows.Row.{Row}
use Rattle.pt_causality.specs.Ranked.{level_of}
use Rattle.pt_offsets.specs.Plans.{Parts}
use Rattle.pt_turn.specs.Platforms.{PlatformView}
use Rattle.pt_engine.specs.Asked.{result_lists}
use Rattle.pt_rounds.specs.Asked.{IsLeastOf, NoneIsOpen}
use Rattle.pt_rounds.specs.Outcome.{IsOutcome}
use Rattle.pt_rounds.specs.Passing.{IsBeforeRound}
use Rattle.pt_engine.proofs.First.{AreOpened, opened, written}
use Rattle.pt_rounds.proofs.Runs.{some_open, stands_first}
use Rattle.pt_rounds.proofs.rounds.paced.Goals as goal

pub next_reading-begins-requires : goal.next_reading-begins-requires
next_reading-begins-requires g c = record {
  some_open =
      let (plan, rows, ready) = c.requires.ready in
      subst (λ (vs : List PlatformView). NoneIsOpen (length vs) vs → ⊥) (sym c.as_slice-2.ensures.value)
      (some_open plan rows c.args.platforms.items c.in_ok-pipes.pipes.items (result_lists c.in_ok-results.results.items)
      (opened plan rows c.args.platforms.items c.as_slice.result.now c.index.result.now c.deref.result.now c.graph.result.now c.as_slice-links.result.now c.in_ok-pipes.pipes.items (result_lists c.in_ok-results.results.items)
      c.requires.some (c.deref.ensures ∙ c.plan.ensures ∙ ap (λ (v : PlatformView). v.plan) c.index.ensures) c.graph.ensures.value c.graph.ensures.admitted c.as_slice-links.ensures c.as_slice.ensures.value
      c.in_ok-pipes.ensures c.in_ok-results.ensures.none c.in_ok-results.ensures.legal ready));
}

-- the first reading is the least of all
starts : (plan : Parts) (rows : ℕ → List Row) (b : ℕ) (platforms sliced lent : List PlatformView) (pipes lent_pipes : List (List Message)) (results lent_results : List (List Done)) →
    AreOpened plan rows platforms pipes results → sliced ≡ platforms → IsLeastOf (length sliced) sliced b → lent ≡ platforms → lent_pipes ≡ pipes → lent_results ≡ results → IsBeforeRound plan rows 0 b lent lent_pipes lent_results
starts plan rows b platforms sliced lent pipes lent_pipes results lent_results new same least e e2 e3 =
    subst (λ (vs : List PlatformView). IsBeforeRound plan rows 0 b vs lent_pipes lent_results) (sym e)
    (subst (λ (ps : List (List Message)). IsBeforeRound plan rows 0 b platforms ps lent_results) (sym e2)
    (subst (λ (rs : List (List Done)). IsBeforeRound plan rows 0 b platforms pipes rs) (sym e3)
    (stands_first plan rows platforms pipes results new b (subst (λ (vs : List PlatformView). IsLeastOf (length vs) vs b) same least))))

pub go_on-requires : goal.go_on-requires
go_on-requires g c = record {
  begun =
      let (plan, rows, ready) = c.requires.ready in (
        plan,
        rows,
        starts plan rows c.next_reading-begins.result c.args.platforms.items c.as_slice-2.result.now c.as_mut_slice.result.now c.in_ok-pipes.pipes.items c.as_mut_slice-2.result.now (result_lists c.in_ok-results.results.items) (result_lists c.as_mut_slice-3.result.now)
            (opened plan rows c.args.platforms.items c.as_slice.result.now c.index.result.now c.deref.result.now c.graph.result.now c.as_slice-links.result.now c.in_ok-pipes.pipes.items (result_lists c.in_ok-results.results.items)
            c.requires.some (c.deref.ensures ∙ c.plan.ensures ∙ ap (λ (v : PlatformView). v.plan) c.index.ensures) c.graph.ensures.value c.graph.ensures.admitted c.as_slice-links.ensures c.as_slice.ensures.value
            c.in_ok-pipes.ensures c.in_ok-results.ensures.none c.in_ok-results.ensures.legal ready)
            c.as_slice-2.ensures.value c.next_reading-begins.ensures c.as_mut_slice.ensures.value c.as_mut_slice-2.ensures.value (ap result_lists c.as_mut_slice-3.ensures.value),
      );
}

pub returns : goal.returns
returns g c = record {
  outcome = λ plan rows ready.
      subst (λ (vs : List PlatformView). IsOutcome plan (level_of plan.ranks) rows vs c.in_ok-fault.fault)
      (sym (written c.args.platforms.len c.go_on.new.platforms c.args.platforms.items (omega (arith, c.go_on.auto.platforms, c.as_mut_slice.ensures.len))))
      (c.in_ok-fault.ensures.outcome plan rows
      (starts plan rows c.next_reading-begins.result c.args.platforms.items c.as_slice-2.result.now c.as_mut_slice.result.now c.in_ok-pipes.pipes.items c.as_mut_slice-2.result.now (result_lists c.in_ok-results.results.items) (result_lists c.as_mut_slice-3.result.now)
      (opened plan rows c.args.platforms.items c.as_slice.result.now c.index.result.now c.deref.result.now c.graph.result.now c.as_slice-links.result.now c.in_ok-pipes.pipes.items (result_lists c.in_ok-results.results.items)
      c.requires.some (c.deref.ensures ∙ c.plan.ensures ∙ ap (λ (v : PlatformView). v.plan) c.index.ensures) c.graph.ensures.value c.graph.ensures.admitted c.as_slice-links.ensures c.as_slice.ensures.value
      c.in_ok-pipes.ensures c.in_ok-results.ensures.none c.in_ok-results.ensures.legal ready)
      c.as_slice-2.ensures.value c.next_reading-begins.ensures c.as_mut_slice.ensures.value c.as_mut_slice-2.ensures.value (ap result_lists c.as_mut_slice-3.ensures.value)));
}
