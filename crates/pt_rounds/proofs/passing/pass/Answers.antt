use Rattle.std.proofs.Common.{◌≡◌, ◌∙◌, ◌<◌, ℕ, suc, List, get_or, set, length, slice_get, Some, add-one, sym, ap, subst, arith, inl, inr}
use Rattle.std.proofs.lemmas.Bool.{false≢true}
use Rattle.std.proofs.lemmas.List.{length-map, map-set}
use Rattle.std.proofs.lemmas.Option.{slice_get-get_or, slice_get_within}
use Rattle.std.specs.Global.{Vec}
use Rattle.pt_types.specs.declared.firing.Done.{Done}
use Rattle.pt_semantics.specs.Linked.{IsFinished}
use Rattle.pt_turn.specs.Posts.Posted.{AreDone}
use Rattle.pt_semantics.proofs.Lookups.{same_some}
use Rattle.pt_offsets.specs.Plans.{Parts}
use Rattle.pt_turn.specs.Platforms.{PlatformView, state_at}
use Rattle.pt_engine.specs.Asked.{result_lists}
use Rattle.pt_rounds.specs.Passing.{HavePassed}
use Rattle.pt_engine.proofs.Changed.{set_here}
use Rattle.pt_engine.proofs.Listed.{list_at}
use Rattle.pt_rounds.proofs.Showing.{may_come}
use Rattle.pt_rounds.proofs.Passes.{fine_with, none_passed, not_faulty, one_by, one_visited, passed_onward}
use Rattle.pt_rounds.proofs.passing.pass.Goals as goal
use Rattle.pt_rounds.proofs.passing.pass.Goals.{then-quiet, else-quiet}

-- a member by its place does not rest on what stands for one past the end
here : (platforms : List PlatformView) (i : ℕ) (v d : PlatformView) → i < length platforms → get_or platforms i v ≡ get_or platforms i d
here platforms i v d lt = same_some (get_or platforms i v) (get_or platforms i d) (sym (slice_get-get_or platforms i v lt) ∙ slice_get-get_or platforms i d lt)

-- where a platform was replaced, the new one stands
replaced : (platforms : List PlatformView) (i : ℕ) (v w d : PlatformView) → slice_get platforms i ≡ Some v → get_or (set platforms i w) i d ≡ w
replaced platforms i v w d there =
    let at = set_here platforms i w v there in
    same_some (get_or (set platforms i w) i d) w (sym (slice_get-get_or (set platforms i w) i d (slice_get_within (set platforms i w) i w at)) ∙ at)

pub loop-i-init : goal.loop-i-init
loop-i-init g c = record { passed = λ plan rows count s. none_passed plan rows count c.args.reading c.args.platforms.now c.args.pipes.now (result_lists c.args.results.now) s; none = c.requires.none; faults = λ _. let (plan, rows, count, s) = c.requires.begun in s.no_fault }

pub loop-i-preserved-then-finished : goal.loop-i-preserved-then-finished
loop-i-preserved-then-finished g c = record {
  passed = λ plan rows count s.
      let lt : c.loop-i.i < length c.loop-i.platforms = omega (arith, c.loop-i-test.true, c.loop-i.auto.platforms) in
      subst (λ k. HavePassed plan rows c.args.reading s.together k c.loop-i.platforms c.loop-i.pipes (result_lists c.loop-i.results) c.loop-i.quiet) (sym (add-one c.loop-i.i))
      (one_by plan rows count c.args.reading c.args.platforms.now c.args.pipes.now (result_lists c.args.results.now) s c.loop-i.i c.loop-i.platforms c.loop-i.pipes (result_lists c.loop-i.results) c.loop-i.quiet (c.loop-i.invariant.passed plan rows count s)
      (get_or c.loop-i.platforms c.loop-i.i c.index-platforms-i.result)
      (slice_get-get_or c.loop-i.platforms c.loop-i.i c.index-platforms-i.result lt)
      (c.finished.ensures.0 c.if-finished.true));
  none = c.loop-i.invariant.none;
  faults = c.loop-i.invariant.faults;
}

pub visit_one-requires-clause-no_fault : goal.visit_one-requires-clause-no_fault
visit_one-requires-clause-no_fault g c =
    let (plan, rows, count, s) = c.requires.begun in
    let lt : c.loop-i.i < length c.loop-i.platforms = omega (arith, c.loop-i-test.true, c.loop-i.auto.platforms) in
    not_faulty plan rows count c.args.reading c.args.platforms.now c.args.pipes.now (result_lists c.args.results.now) s c.loop-i.i c.loop-i.platforms c.loop-i.pipes (result_lists c.loop-i.results) c.loop-i.quiet (c.loop-i.invariant.passed plan rows count s)
    (get_or c.loop-i.platforms c.loop-i.i c.index-platforms-i-in-loop-i.result)
    (slice_get-get_or c.loop-i.platforms c.loop-i.i c.index-platforms-i-in-loop-i.result lt)

pub visit_one-requires-clause-links : goal.visit_one-requires-clause-links
visit_one-requires-clause-links g c =
    let (plan, rows, count, s) = c.requires.begun in
    let lt : c.loop-i.i < length c.loop-i.platforms = omega (arith, c.loop-i-test.true, c.loop-i.auto.platforms) in
    let h = c.loop-i.invariant.passed plan rows count s in
    h.shown.links
    ∙ ap (λ (p : Parts). length p.graph.links)
    (sym (h.shown.all.plans c.loop-i.i (get_or c.loop-i.platforms c.loop-i.i c.index-platforms-i-in-loop-i.result) (slice_get-get_or c.loop-i.platforms c.loop-i.i c.index-platforms-i-in-loop-i.result lt)))

pub visit_one-requires-clause-done : goal.visit_one-requires-clause-done
visit_one-requires-clause-done g c =
    let (plan, rows, count, s) = c.requires.begun in
    let lt : c.loop-i.i < length c.loop-i.platforms = omega (arith, c.loop-i-test.true, c.loop-i.auto.platforms) in
    let h = c.loop-i.invariant.passed plan rows count s in
    let there = slice_get-get_or c.loop-i.platforms c.loop-i.i c.index-platforms-i-in-loop-i.result lt in
    let within : c.loop-i.i < length c.loop-i.results = omega (arith, lt, h.shown.count, length-map c.loop-i.results (λ (v : Vec Done). v.items)) in
    let hand = list_at c.loop-i.results c.loop-i.i (get_or c.loop-i.results c.loop-i.i c.index-results-i.result) (slice_get-get_or c.loop-i.results c.loop-i.i c.index-results-i.result within) in
    subst (λ (p : Parts). AreDone p.graph (get_or c.loop-i.results c.loop-i.i c.index-results-i.result).items) (sym (h.shown.all.plans c.loop-i.i (get_or c.loop-i.platforms c.loop-i.i c.index-platforms-i-in-loop-i.result) there))
    (h.shown.pending c.loop-i.i (get_or c.loop-i.platforms c.loop-i.i c.index-platforms-i-in-loop-i.result) (get_or c.loop-i.results c.loop-i.i c.index-results-i.result).items there hand).done

pub visit_one-requires-clause-taken : goal.visit_one-requires-clause-taken
visit_one-requires-clause-taken g c =
    let (plan, rows, count, s) = c.requires.begun in
    let lt : c.loop-i.i < length c.loop-i.platforms = omega (arith, c.loop-i-test.true, c.loop-i.auto.platforms) in
    let h = c.loop-i.invariant.passed plan rows count s in
    may_come plan rows c.args.reading h.together c.loop-i.platforms c.loop-i.pipes (result_lists c.loop-i.results) s.admitted s.fit
    (passed_onward plan rows count c.args.reading c.args.platforms.now c.args.pipes.now (result_lists c.args.results.now) s c.loop-i.i c.loop-i.platforms c.loop-i.pipes (result_lists c.loop-i.results) c.loop-i.quiet h (omega (arith, lt)))
    h.shown c.loop-i.i
    (get_or c.loop-i.platforms c.loop-i.i c.index-platforms-i-in-loop-i.result)
    (slice_get-get_or c.loop-i.platforms c.loop-i.i c.index-platforms-i-in-loop-i.result lt)

pub loop-i-preserved : goal.loop-i-preserved
loop-i-preserved g c = record {
  passed = λ plan rows count s.
      let lt : c.loop-i.i < length c.loop-i.platforms = omega (arith, c.loop-i-test.true, c.loop-i.auto.platforms) in
      let h = c.loop-i.invariant.passed plan rows count s in
      let within : c.loop-i.i < length c.loop-i.results = omega (arith, lt, h.shown.count, length-map c.loop-i.results (λ (v : Vec Done). v.items)) in
      let one = here c.loop-i.platforms c.loop-i.i c.index-platforms-i.result c.index-platforms-i-in-loop-i.result lt in
      subst (λ k. HavePassed plan rows c.args.reading s.together k (set c.loop-i.platforms c.loop-i.i c.visit_one.new.platform) c.visit_one.new.pipes (result_lists (set c.loop-i.results c.loop-i.i c.visit_one.new.results)) c.if-quiet.quiet) (sym (add-one c.loop-i.i))
      (subst (λ results. HavePassed plan rows c.args.reading s.together (suc c.loop-i.i) (set c.loop-i.platforms c.loop-i.i c.visit_one.new.platform) c.visit_one.new.pipes results c.if-quiet.quiet)
      (sym (map-set (λ (v : Vec Done). v.items) c.loop-i.results c.loop-i.i c.visit_one.new.results))
      (one_visited plan rows count c.args.reading c.args.platforms.now c.args.pipes.now (result_lists c.args.results.now) s c.loop-i.i c.loop-i.platforms c.loop-i.pipes (result_lists c.loop-i.results) c.loop-i.quiet h
      (get_or c.loop-i.platforms c.loop-i.i c.index-platforms-i-in-loop-i.result)
      (slice_get-get_or c.loop-i.platforms c.loop-i.i c.index-platforms-i-in-loop-i.result lt)
      c.visit_one.new.platform (get_or c.loop-i.results c.loop-i.i c.index-results-i.result).items c.visit_one.new.results.items c.visit_one.new.pipes c.in_ok-still.still c.if-quiet.quiet
      (omega (arith, c.ranges.reading.fits))
      (list_at c.loop-i.results c.loop-i.i (get_or c.loop-i.results c.loop-i.i c.index-results-i.result) (slice_get-get_or c.loop-i.results c.loop-i.i c.index-results-i.result within))
      (λ done. false≢true (sym c.if-finished.false ∙ c.finished.ensures.1 (subst (λ (v : PlatformView). IsFinished v.plan.graph v.number (state_at v)) (sym one) done)))
      c.in_ok-still.ensures.visited
      (elim c.if-quiet.branch [ then-quiet w ↦ λ e. (w.if-quiet.true, sym w.quiet-is ∙ e) | else-quiet w ↦ λ e. absurd (false≢true (sym w.if-quiet.false ∙ (sym w.quiet-is ∙ e))) ])
      (elim c.if-quiet.branch [ then-quiet w ↦ λ e. inr (sym w.quiet-is ∙ e) | else-quiet w ↦ λ e. inl w.if-quiet.false ])));
  none = c.in_ok-still.ensures.none;
  faults = λ e.
      let lt : c.loop-i.i < length c.loop-i.platforms = omega (arith, c.loop-i-test.true, c.loop-i.auto.platforms) in
      let v = get_or c.loop-i.platforms c.loop-i.i c.index-platforms-i-in-loop-i.result in
      let there = slice_get-get_or c.loop-i.platforms c.loop-i.i c.index-platforms-i-in-loop-i.result lt in
      let same = replaced c.loop-i.platforms c.loop-i.i v c.visit_one.new.platform c.index-platforms-i-in-loop-i-2.result there in
      fine_with c.loop-i.platforms c.loop-i.i v c.visit_one.new.platform there (ap (λ (z : PlatformView). z.fault) (sym same) ∙ (c.or_faulty.ensures e).1)
      (c.loop-i.invariant.faults (c.or_faulty.ensures e).0);
}

pub returns : goal.returns
returns g c = record {
  passed = λ plan rows count s.
      let e : c.loop-i.i ≡ length c.args.platforms.now = omega (arith, c.loop-i-test.false, c.loop-i.auto.i-end) in
      subst (λ k. HavePassed plan rows c.args.reading s.together k c.loop-i.platforms c.loop-i.pipes (result_lists c.loop-i.results) c.loop-i.quiet) e (c.loop-i.invariant.passed plan rows count s);
  none = c.loop-i.invariant.none;
  faults = c.loop-i.invariant.faults;
}
