use Rattle.std.proofs.Common.{◌≡◌, ℕ, List, [], Ok, Err, length, sym, ap, ap₂, subst, ◌∙◌}
use Rattle.std.specs.Prelude.{IfOk, OnOk, Result, slice_index_or}
use Rattle.pt_tags.specs.declared.message.Message.{Message}
use Rattle.pt_types.specs.declared.graph.Graph.{Graph}
use Rattle.pt_offsets.specs.Plans.{Parts}
use Rattle.pt_semantics.specs.Arrivals.{AirwayView}
use Rattle.pt_visits.specs.Visited.{IsVisited}
use Rattle.pt_replay.specs.Visits.Moments.{ArriveFrom}
use Rattle.pt_semantics.specs.TrueTime.{come_on, left_on, map_from, put_link, reading_at}
use Rattle.pt_replay.proofs.Visits.Visited.{as_before, visit_of, length-emptied}
use Rattle.pt_replay.proofs.Visits.Replacing.{length-map_from}
use Rattle.pt_visits.specs.Pipes.{emptied}
use Rattle.pt_replay.proofs.visit.visiting.full_visit.Goals as goal

on_result : {T E P Q : Type 0} (r : Result T E) → (P → Q) → OnOk r P → OnOk r Q
on_result (Ok x) f h = f h
on_result (Err x) f h = tt

if_result : {T E : Type 0} {P Q : T → Type 0} (r : Result T E) → ((x : T) → P x → Q x) → IfOk r P → IfOk r Q
if_result (Ok x) f h = f x h
if_result (Err x) f h = tt

pub deliver-requires-clause-arrivals : goal.deliver-requires-clause-arrivals
deliver-requires-clause-arrivals g c =
    let graph : c.graph.result.now ≡ c.args.platform.now.plan.graph = c.graph.ensures.value ∙ ap (λ (p : Parts). p.graph) (c.deref.ensures ∙ c.plan.ensures) in
    subst (λ (h : Graph). ArriveFrom h c.args.arrivals.now c.args.airways.now) (sym graph) c.requires.may_be_visited.arrivals

pub returns-clause-none : goal.returns-clause-none
returns-clause-none g c =
    let graph : c.graph.result.now ≡ c.args.platform.now.plan.graph = c.graph.ensures.value ∙ ap (λ (p : Parts). p.graph) (c.deref.ensures ∙ c.plan.ensures) in
    let left : c.deliver.new.airways ≡ map_from (left_on c.args.platform.now.plan.graph c.args.platform.now.number c.args.now) 0 c.args.airways.now =
    c.deliver.ensures.airways ∙ ap₂ (λ (a : Graph) (i : ℕ). map_from (left_on a i c.args.now) 0 c.args.airways.now) graph c.number-number.ensures in
    if_result c.send.result (λ sent none e. none e ∙ left) c.send.ensures.none

pub returns-clause-visit : goal.returns-clause-visit
returns-clause-visit g c =
    let graph : c.graph.result.now ≡ c.args.platform.now.plan.graph = c.graph.ensures.value ∙ ap (λ (p : Parts). p.graph) (c.deref.ensures ∙ c.plan.ensures) in
    let after : c.graph-2.result.now ≡ c.args.platform.now.plan.graph = c.graph-2.ensures.value ∙ ap (λ (p : Parts). p.graph) (c.deref-2.ensures ∙ c.plan-2.ensures ∙ c.in_ok-visit.ensures.visited.stays.plan) in
    let come : c.deliver.new.pipes ≡ map_from (come_on c.args.platform.now.plan.graph c.args.platform.now.number c.args.now) 0 c.args.airways.now =
    c.deliver.ensures.pipes ∙ ap₂ (λ (a : Graph) (i : ℕ). map_from (come_on a i c.args.now) 0 c.args.airways.now) graph c.number-number.ensures in
    let left : c.deliver.new.airways ≡ map_from (left_on c.args.platform.now.plan.graph c.args.platform.now.number c.args.now) 0 c.args.airways.now =
    c.deliver.ensures.airways ∙ ap₂ (λ (a : Graph) (i : ℕ). map_from (left_on a i c.args.now) 0 c.args.airways.now) graph c.number-number.ensures in
    let visited : IsVisited 64 (reading_at c.args.air.now c.args.platform.now.number c.args.now) c.args.results.now.items c.visit.new.results.items c.args.platform.now c.visit.new.platform (map_from (come_on c.args.platform.now.plan.graph c.args.platform.now.number c.args.now) 0 c.args.airways.now) c.visit.new.pipes =
    subst (λ (ps : List (List Message)). IsVisited 64 (reading_at c.args.air.now c.args.platform.now.number c.args.now) c.args.results.now.items c.visit.new.results.items c.args.platform.now c.visit.new.platform ps c.visit.new.pipes) come
    (subst (λ (r : ℕ). IsVisited 64 r c.args.results.now.items c.visit.new.results.items c.args.platform.now c.visit.new.platform c.deliver.new.pipes c.visit.new.pipes) c.requires.reading c.in_ok-visit.ensures.visited) in
    on_result c.send.result
    (λ put. visit_of c.args.air.now c.args.now c.args.results.now.items c.visit.new.results.items c.args.platform.now c.visit.new.platform c.args.airways.now c.send.new.airways c.visit.new.pipes visited
    (put ∙ ap₂ (λ (a : Graph) (airways : List AirwayView). map_from (λ k. put_link c.args.air.now a c.args.now k (slice_index_or c.visit.new.pipes k [])) 0 airways) after left))
    c.send.ensures.airways

pub returns-clause-pipes : goal.returns-clause-pipes
returns-clause-pipes g c =
    let graph : c.graph.result.now ≡ c.args.platform.now.plan.graph = c.graph.ensures.value ∙ ap (λ (p : Parts). p.graph) (c.deref.ensures ∙ c.plan.ensures) in
    let visited = c.in_ok-visit.ensures.visited in
    let count : length c.visit.new.pipes ≡ length c.args.pipes.now =
    visited.sent.count
    ∙ ap (λ (ps : List (List Message)). length (emptied c.args.platform.now.plan.graph c.args.platform.now.number 0 ps)) c.deliver.ensures.pipes
    ∙ length-emptied c.args.platform.now.plan.graph c.args.platform.now.number 0 (map_from (come_on c.graph.result.now c.number-number.result c.args.now) 0 c.args.airways.now)
    ∙ length-map_from (come_on c.graph.result.now c.number-number.result c.args.now) 0 c.args.airways.now
    ∙ c.requires.may_be_visited.airways
    ∙ sym c.requires.may_be_visited.pipes in
    on_result c.send.result
    (λ none. none ∙ as_before c.visit.new.pipes c.args.pipes.now c.requires.may_be_visited.empty count)
    c.send.ensures.pipes
