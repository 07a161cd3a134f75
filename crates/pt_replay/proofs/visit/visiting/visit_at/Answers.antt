use Rattle.std.proofs.Common.{◌≡◌, ◌-◌, ◌<◌, ℕ, length, refl, sym, ap, subst, ◌∙◌}
use Rattle.std.specs.Prelude.{slice_index_or}
use Rattle.pt_types.specs.declared.graph.Graph.{Graph}
use Rattle.pt_offsets.specs.Plans.{Parts}
use Rattle.pt_turn.specs.Platforms.{PlatformView}
use Rattle.pt_turn.specs.Rested.{HasRested}
use Rattle.pt_replay.specs.Visits.Visits.{WasVisitedAt, MayBeVisited, airway_after}
use Rattle.pt_replay.specs.Visits.Moments.{ArriveFrom}
use Rattle.pt_semantics.specs.TrueTime.{left_on, map_from, reading_at}
use Rattle.pt_replay.proofs.Visits.Replacing.{length-map_from}
use Rattle.pt_replay.proofs.Visits.Resting.{all_left, before_arrivals, rested_visit_at}
use Rattle.pt_replay.proofs.visit.visiting.visit_at.Goals as goal

pub full_visit-requires : goal.full_visit-requires
full_visit-requires g c =
    let same : c.args.platform.now ≡ c.rests.new.platform = sym (c.in_ok-rested.ensures.awake c.if-rested.false) in
    let reading : c.saturating_sub-reading.result ≡ reading_at c.args.air.now c.args.platform.now.number c.args.now =
    c.saturating_sub-reading.ensures ∙ ap (λ (n : ℕ). c.args.now - n) c.lag_of.ensures ∙ ap (λ (i : ℕ). reading_at c.args.air.now i c.args.now) c.number-number.ensures in
    record {
      may_be_visited = subst (λ (v : PlatformView). MayBeVisited c.args.air.now c.args.now c.args.results.now.items v c.args.airways.now c.args.arrivals.now c.args.pipes.now) same c.requires;
      reading = reading ∙ ap (λ (v : PlatformView). reading_at c.args.air.now v.number c.args.now) same;
    }

pub update_arrivals-requires : goal.update_arrivals-requires
update_arrivals-requires g c =
    let same = c.in_ok-rested.ensures.awake c.if-rested.false in
    let visit : WasVisitedAt c.args.air.now c.args.now c.args.results.now.items c.full_visit.new.results.items c.args.platform.now c.full_visit.new.platform c.args.airways.now c.full_visit.new.airways =
    subst (λ (v : PlatformView). WasVisitedAt c.args.air.now c.args.now c.args.results.now.items c.full_visit.new.results.items v c.full_visit.new.platform c.args.airways.now c.full_visit.new.airways) same c.in_ok-sent.ensures.visit in
    let graph : c.graph.result.now ≡ c.args.platform.now.plan.graph = c.graph.ensures.value ∙ ap (λ (p : Parts). p.graph) (c.deref.ensures ∙ c.plan.ensures ∙ visit.visited.stays.plan) in
    record {
      airways = ap length visit.airways
          ∙ length-map_from (airway_after c.args.air.now c.args.platform.now.plan.graph c.args.platform.now.number c.args.now visit.visited.turn.sent) 0 c.args.airways.now
          ∙ c.requires.airways
          ∙ ap (λ (h : Graph). length h.links) (sym graph);
      still = λ none early.
          let arrival : c.arrival_at-arrival.result ≡ slice_index_or c.args.arrivals.now c.args.platform.now.number 0 =
          c.arrival_at-arrival.ensures ∙ ap (λ (i : ℕ). slice_index_or c.args.arrivals.now i 0) c.number-number.ensures in
          let stay : c.full_visit.new.airways ≡ c.args.airways.now =
          subst (λ (v : PlatformView). c.full_visit.new.airways ≡ map_from (left_on v.plan.graph v.number c.args.now) 0 c.args.airways.now) same (c.in_ok-sent.ensures.none none)
          ∙ all_left c.args.platform.now.plan.graph c.args.platform.now.number c.args.now 0 c.args.airways.now
          (before_arrivals c.args.platform.now.plan.graph c.args.platform.now.number c.args.now c.args.arrivals.now c.args.airways.now c.requires.arrivals (subst (λ (n : ℕ). c.args.now < n) arrival early)) in
          subst (λ (h : Graph). ArriveFrom h c.args.arrivals.now c.full_visit.new.airways) (sym graph) (subst (ArriveFrom c.args.platform.now.plan.graph c.args.arrivals.now) (sym stay) c.requires.arrivals);
    }

pub returns : goal.returns
returns g c =
    let same = c.in_ok-rested.ensures.awake c.if-rested.false in
    let visit : WasVisitedAt c.args.air.now c.args.now c.args.results.now.items c.full_visit.new.results.items c.args.platform.now c.full_visit.new.platform c.args.airways.now c.full_visit.new.airways =
    subst (λ (v : PlatformView). WasVisitedAt c.args.air.now c.args.now c.args.results.now.items c.full_visit.new.results.items v c.full_visit.new.platform c.args.airways.now c.full_visit.new.airways) same c.in_ok-sent.ensures.visit in
    let graph : c.graph.result.now ≡ c.args.platform.now.plan.graph = c.graph.ensures.value ∙ ap (λ (p : Parts). p.graph) (c.deref.ensures ∙ c.plan.ensures ∙ visit.visited.stays.plan) in
    record {
      visit = visit;
      arrivals = subst (λ (h : Graph). ArriveFrom h c.update_arrivals.new.arrivals c.full_visit.new.airways) graph c.update_arrivals.ensures;
      pipes = c.in_ok-sent.ensures.pipes;
    }

pub returns-then-rested : goal.returns-then-rested
returns-then-rested g c =
    let reading : c.saturating_sub-reading.result ≡ reading_at c.args.air.now c.args.platform.now.number c.args.now =
    c.saturating_sub-reading.ensures ∙ ap (λ (n : ℕ). c.args.now - n) c.lag_of.ensures ∙ ap (λ (i : ℕ). reading_at c.args.air.now i c.args.now) c.number-number.ensures in
    let arrival : c.arrival_at-arrival.result ≡ slice_index_or c.args.arrivals.now c.args.platform.now.number 0 =
    c.arrival_at-arrival.ensures ∙ ap (λ (i : ℕ). slice_index_or c.args.arrivals.now i 0) c.number-number.ensures in
    let (none, early, rested) = c.in_ok-rested.ensures.rested c.if-rested.true in
    record {
      visit = rested_visit_at c.args.air.now c.args.now c.args.results.now.items c.args.platform.now c.rests.new.platform c.args.airways.now
          (before_arrivals c.args.platform.now.plan.graph c.args.platform.now.number c.args.now c.args.arrivals.now c.args.airways.now c.requires.arrivals (subst (λ (n : ℕ). c.args.now < n) arrival early))
          (sym c.as_slice.ensures.value ∙ none)
          (subst (HasRested c.args.platform.now c.rests.new.platform) reading rested);
      arrivals = c.requires.arrivals;
      pipes = refl;
    }
