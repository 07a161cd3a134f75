use Rattle.std.proofs.Common.{◌≡◌, ◌∙◌, ◌<◌, ◌⊎◌, ℕ, suc, Bool, true, false, List, [], refl, get_or, set, length, add-one, sym, ap, subst, arith, inl, inr}
use Rattle.std.specs.Prelude.{◌&&◌}
use Rattle.std.proofs.lemmas.Bool.{false≢true}
use Rattle.std.proofs.lemmas.List.{length-map, map-set}
use Rattle.std.proofs.lemmas.Option.{slice_get-get_or}
use Rattle.std.specs.Global.{Vec}
use Rattle.pt_tags.specs.declared.message.Message.{Message}
use Rattle.pt_types.specs.declared.firing.Done.{Done}
use Rattle.pt_semantics.specs.Linked.{IsFinished}
use Rattle.pt_semantics.specs.Lists.{Each}
use Rattle.pt_semantics.proofs.Lookups.{same_some}
use Rattle.pt_turn.specs.Posts.Posted.{AreDone}
use Rattle.pt_offsets.specs.Plans.{Parts}
use Rattle.pt_replay.specs.Visits.Moments.{ArriveFrom}
use Rattle.pt_turn.specs.Platforms.{PlatformView, state_at}
use Rattle.pt_engine.specs.Asked.{result_lists}
use Rattle.pt_engine.proofs.Listed.{list_at}
use Rattle.pt_replay.specs.Passing.{HavePassed}
use Rattle.pt_replay.proofs.Passes.{comes, none_passed, not_faulty, one_by, one_visited}
use Rattle.pt_replay.proofs.passing.pass.Goals as goal

both_quiet : (quiet still : Bool) → (quiet && still) ≡ true → (quiet ≡ true) × (still ≡ true)
both_quiet true still e = (refl, e)
both_quiet false still e = absurd (false≢true e)

one_noisy : (quiet still : Bool) → (quiet && still) ≡ false → (quiet ≡ false) ⊎ (still ≡ false)
one_noisy true still e = inr e
one_noisy false still e = inl refl

-- a member by its place does not rest on what stands for one past the end
here : (platforms : List PlatformView) (i : ℕ) (v d : PlatformView) → i < length platforms → get_or platforms i v ≡ get_or platforms i d
here platforms i v d lt = same_some (get_or platforms i v) (get_or platforms i d) (sym (slice_get-get_or platforms i v lt) ∙ slice_get-get_or platforms i d lt)

pub loop-i-init : goal.loop-i-init
loop-i-init g c = record {
  passed = λ plan rows count s. none_passed plan rows c.args.air.now count c.args.now c.args.platforms.now c.args.airways.now (result_lists c.args.results.now) s;
  arrivals = λ plan rows count s from. from;
  pipes = refl;
}

pub loop-i-preserved-then-finished : goal.loop-i-preserved-then-finished
loop-i-preserved-then-finished g c = record {
  passed = λ plan rows count s.
      let lt : c.loop-i.i < length c.loop-i.platforms = omega (arith, c.loop-i-test.true, c.loop-i.auto.platforms) in
      subst (λ k. HavePassed plan rows c.args.air.now c.args.now s.state k c.loop-i.platforms c.loop-i.airways (result_lists c.loop-i.results) c.loop-i.quiet) (sym (add-one c.loop-i.i))
      (one_by plan rows c.args.air.now count c.args.now c.args.platforms.now c.args.airways.now (result_lists c.args.results.now) s c.loop-i.i c.loop-i.platforms c.loop-i.airways (result_lists c.loop-i.results) c.loop-i.quiet (c.loop-i.invariant.passed plan rows count s)
      (get_or c.loop-i.platforms c.loop-i.i c.index-platforms-i.result)
      (slice_get-get_or c.loop-i.platforms c.loop-i.i c.index-platforms-i.result lt)
      (c.finished.ensures.0 c.if-finished.true));
  arrivals = c.loop-i.invariant.arrivals;
  pipes = c.loop-i.invariant.pipes;
}

pub visit_one-requires : goal.visit_one-requires
visit_one-requires g c =
    let (plan, rows, count, s, empty, from) = c.requires.begun in
    let lt : c.loop-i.i < length c.loop-i.platforms = omega (arith, c.loop-i-test.true, c.loop-i.auto.platforms) in
    let h = c.loop-i.invariant.passed plan rows count s in
    let v : PlatformView = get_or c.loop-i.platforms c.loop-i.i c.index-platforms-i-in-loop-i.result in
    let there = slice_get-get_or c.loop-i.platforms c.loop-i.i c.index-platforms-i-in-loop-i.result lt in
    let within : c.loop-i.i < length c.loop-i.results = omega (arith, lt, h.shown.pending.count, length-map c.loop-i.results (λ (v : Vec Done). v.items)) in
    let mine = list_at c.loop-i.results c.loop-i.i (get_or c.loop-i.results c.loop-i.i c.index-results-i.result) (slice_get-get_or c.loop-i.results c.loop-i.i c.index-results-i.result within) in
    let links = ap (λ (p : Parts). length p.graph.links) (sym (h.shown.all.plans c.loop-i.i v there)) in
    record {
      no_fault = not_faulty plan rows c.args.air.now count c.args.now c.args.platforms.now c.args.airways.now (result_lists c.args.results.now) s c.loop-i.i c.loop-i.platforms c.loop-i.airways (result_lists c.loop-i.results) c.loop-i.quiet h v there;
      airways = h.shown.links ∙ links;
      arrivals = subst (λ (p : Parts). ArriveFrom p.graph c.loop-i.arrivals c.loop-i.airways) (sym (h.shown.all.plans c.loop-i.i v there)) (c.loop-i.invariant.arrivals plan rows count s from);
      pipes = ap length c.loop-i.invariant.pipes ∙ empty.0 ∙ links;
      empty = subst (Each (λ (pipe : List Message). pipe ≡ [])) (sym c.loop-i.invariant.pipes) empty.1;
      transits = s.transits ∙ links;
      done = subst (λ (p : Parts). AreDone p.graph (get_or c.loop-i.results c.loop-i.i c.index-results-i.result).items) (sym (h.shown.all.plans c.loop-i.i v there)) (h.shown.pending.each c.loop-i.i v (get_or c.loop-i.results c.loop-i.i c.index-results-i.result).items there mine).done;
      taken = comes plan rows c.args.air.now count c.args.now c.args.platforms.now c.args.airways.now (result_lists c.args.results.now) s c.loop-i.i c.loop-i.platforms c.loop-i.airways (result_lists c.loop-i.results) c.loop-i.quiet h v there;
    }

pub loop-i-preserved : goal.loop-i-preserved
loop-i-preserved g c = record {
  passed = λ plan rows count s.
      let lt : c.loop-i.i < length c.loop-i.platforms = omega (arith, c.loop-i-test.true, c.loop-i.auto.platforms) in
      let h = c.loop-i.invariant.passed plan rows count s in
      let within : c.loop-i.i < length c.loop-i.results = omega (arith, lt, h.shown.pending.count, length-map c.loop-i.results (λ (v : Vec Done). v.items)) in
      let one = here c.loop-i.platforms c.loop-i.i c.index-platforms-i.result c.index-platforms-i-in-loop-i.result lt in
      subst (λ k. HavePassed plan rows c.args.air.now c.args.now s.state k (set c.loop-i.platforms c.loop-i.i c.visit_one.new.platform) c.visit_one.new.airways (result_lists (set c.loop-i.results c.loop-i.i c.visit_one.new.results)) (c.loop-i.quiet && c.in_ok-still.still)) (sym (add-one c.loop-i.i))
      (subst (λ results. HavePassed plan rows c.args.air.now c.args.now s.state (suc c.loop-i.i) (set c.loop-i.platforms c.loop-i.i c.visit_one.new.platform) c.visit_one.new.airways results (c.loop-i.quiet && c.in_ok-still.still))
      (sym (map-set (λ (v : Vec Done). v.items) c.loop-i.results c.loop-i.i c.visit_one.new.results))
      (one_visited plan rows c.args.air.now count c.args.now c.args.platforms.now c.args.airways.now (result_lists c.args.results.now) s c.loop-i.i c.loop-i.platforms c.loop-i.airways (result_lists c.loop-i.results) c.loop-i.quiet h
      (get_or c.loop-i.platforms c.loop-i.i c.index-platforms-i-in-loop-i.result)
      (slice_get-get_or c.loop-i.platforms c.loop-i.i c.index-platforms-i-in-loop-i.result lt)
      c.visit_one.new.platform (get_or c.loop-i.results c.loop-i.i c.index-results-i.result).items c.visit_one.new.results.items c.visit_one.new.airways c.in_ok-still.still (c.loop-i.quiet && c.in_ok-still.still)
      (omega (arith, c.ranges.now.fits))
      (list_at c.loop-i.results c.loop-i.i (get_or c.loop-i.results c.loop-i.i c.index-results-i.result) (slice_get-get_or c.loop-i.results c.loop-i.i c.index-results-i.result within))
      (λ done. false≢true (sym c.if-finished.false ∙ c.finished.ensures.1 (subst (λ (v : PlatformView). IsFinished v.plan.graph v.number (state_at v)) (sym one) done)))
      c.in_ok-still.ensures.visit
      (both_quiet c.loop-i.quiet c.in_ok-still.still)
      (one_noisy c.loop-i.quiet c.in_ok-still.still)));
  arrivals = λ plan rows count s from.
      let lt : c.loop-i.i < length c.loop-i.platforms = omega (arith, c.loop-i-test.true, c.loop-i.auto.platforms) in
      let v : PlatformView = get_or c.loop-i.platforms c.loop-i.i c.index-platforms-i-in-loop-i.result in
      let there = slice_get-get_or c.loop-i.platforms c.loop-i.i c.index-platforms-i-in-loop-i.result lt in
      subst (λ (p : Parts). ArriveFrom p.graph c.visit_one.new.arrivals c.visit_one.new.airways) ((c.loop-i.invariant.passed plan rows count s).shown.all.plans c.loop-i.i v there) c.in_ok-still.ensures.arrivals;
  pipes = c.in_ok-still.ensures.pipes ∙ c.loop-i.invariant.pipes;
}

pub returns-clause-passed : goal.returns-clause-passed
returns-clause-passed g c = λ plan rows count s.
    let e : c.loop-i.i ≡ length c.args.platforms.now = omega (arith, c.loop-i-test.false, c.loop-i.auto.i-end) in
    subst (λ k. HavePassed plan rows c.args.air.now c.args.now s.state k c.loop-i.platforms c.loop-i.airways (result_lists c.loop-i.results) c.loop-i.quiet) e (c.loop-i.invariant.passed plan rows count s)
