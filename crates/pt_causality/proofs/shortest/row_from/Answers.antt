use Rattle.std.proofs.Common.{filter, length, arith, sym, subst, map, ◌++◌, ◌∷◌}
use Rattle.std.specs.List.Sorted.{IsPermutation}
use Rattle.pt_semantics.specs.Lists.{IsIn}
use Rattle.pt_causality.specs.Arcs.{arcs_from, IsFit}
use Rattle.pt_causality.specs.Waits.{is_open, reached}
use Rattle.pt_causality.proofs.Members.{none_of, some_of, leaving_from}
use Rattle.pt_causality.proofs.Searching.{Searched, started, skipped, settled_now, next_within, next_small, less_waits, less_work, row_is, row_is_small}
use Rattle.pt_causality.proofs.shortest.row_from.Goals as goal

pub loop-next-init : goal.loop-next-init
loop-next-init c = started c.args.arcs.now c.args.start c.in_ok-row.row c.push.new.self c.in_ok-row.ensures.len c.requires.start c.in_ok-row.ensures.absent (subst (λ z. IsPermutation (record { at = record { time = 0; step = 0 }; unit = c.args.start } ∷ z) c.push.new.self) c.new-frontier.ensures c.in_ok-push.ensures)

pub set-requires-clause-within : goal.set-requires-clause-within
set-requires-clause-within c = let less = next_within c.args.arcs.now c.args.start c.loop-next.row c.loop-next.frontier c.pop.new.self c.in-Some.next c.in-Some.ensures.taken c.loop-next.invariant in let len = c.loop-next.invariant.len in omega arith

pub set-requires-clause-small : goal.set-requires-clause-small
set-requires-clause-small c = (next_small c.args.arcs.now c.args.start c.loop-next.row c.loop-next.frontier c.pop.new.self c.in-Some.next c.in-Some.ensures.taken c.loop-next.invariant c.requires.few).0

pub bounds-arcs-place : goal.bounds-arcs-place
bounds-arcs-place c = next_within c.args.arcs.now c.args.start c.loop-next.row c.loop-next.frontier c.pop.new.self c.in-Some.next c.in-Some.ensures.taken c.loop-next.invariant

pub reach-requires-clause-small : goal.reach-requires-clause-small
reach-requires-clause-small c = next_small c.args.arcs.now c.args.start c.loop-next.row c.loop-next.frontier c.pop.new.self c.in-Some.next c.in-Some.ensures.taken c.loop-next.invariant c.requires.few

pub reach-requires-clause-fit : goal.reach-requires-clause-fit
reach-requires-clause-fit c = λ a there.
    let within = next_within c.args.arcs.now c.args.start c.loop-next.row c.loop-next.frontier c.pop.new.self c.in-Some.next c.in-Some.ensures.taken c.loop-next.invariant in
    let from = leaving_from c.args.arcs.now c.in-Some.next.unit c.index-arcs-place.result c.as_slice.result.now within c.index-arcs-place.is c.as_slice.ensures in
    let fit : IsFit (length c.args.arcs.now) a = c.requires.fit c.in-Some.next.unit a (subst (IsIn a) from there) in
    (fit.time, fit.step)

pub loop-next-smaller-in-Continue-branch-3 : goal.loop-next-smaller-in-Continue-branch-3
loop-next-smaller-in-Continue-branch-3 c =
    let within = next_within c.args.arcs.now c.args.start c.loop-next.row c.loop-next.frontier c.pop.new.self c.in-Some.next c.in-Some.ensures.taken c.loop-next.invariant in
    let from = leaving_from c.args.arcs.now c.in-Some.next.unit c.index-arcs-place.result c.as_slice.result.now within c.index-arcs-place.is c.as_slice.ensures in
    let len = c.loop-next.invariant.len in
    rw c.set.ensures
    (less_work c.args.arcs.now (is_open c.set.new.self) c.loop-next.row c.loop-next.frontier c.pop.new.self c.reach.new.frontier c.in-Some.next c.in-Some.ensures.taken
    (subst (λ z. IsPermutation (map (reached c.in-Some.next.at) (filter (is_open c.set.new.self) z) ++ c.pop.new.self) c.reach.new.frontier) from c.in_ok-reach.ensures)
    (omega (arith, within, len))
    (none_of _ _ c.if-is_none.ensures c.get.ensures))

pub loop-next-preserved-in-Continue-branch-3 : goal.loop-next-preserved-in-Continue-branch-3
loop-next-preserved-in-Continue-branch-3 c =
    let within = next_within c.args.arcs.now c.args.start c.loop-next.row c.loop-next.frontier c.pop.new.self c.in-Some.next c.in-Some.ensures.taken c.loop-next.invariant in
    let from = leaving_from c.args.arcs.now c.in-Some.next.unit c.index-arcs-place.result c.as_slice.result.now within c.index-arcs-place.is c.as_slice.ensures in
    subst (λ z. Searched c.args.arcs.now c.args.start z c.reach.new.frontier) (sym c.set.ensures)
    (settled_now c.args.arcs.now c.args.start c.loop-next.row c.loop-next.frontier c.pop.new.self c.in-Some.next c.in-Some.ensures.taken c.loop-next.invariant c.reach.new.frontier
    (subst (λ r. IsPermutation (map (reached c.in-Some.next.at) (filter (is_open r) (arcs_from c.args.arcs.now c.in-Some.next.unit)) ++ c.pop.new.self) c.reach.new.frontier) c.set.ensures
    (subst (λ z. IsPermutation (map (reached c.in-Some.next.at) (filter (is_open c.set.new.self) z) ++ c.pop.new.self) c.reach.new.frontier) from c.in_ok-reach.ensures))
    c.requires.fit c.in-Some.ensures.first
    (none_of _ _ c.if-is_none.ensures c.get.ensures))

pub loop-next-smaller : goal.loop-next-smaller
loop-next-smaller c = less_waits _ c.loop-next.frontier c.pop.new.self c.in-Some.next c.in-Some.ensures.taken

pub loop-next-preserved : goal.loop-next-preserved
loop-next-preserved c =
    let is = some_of _ _ c.if-is_none.ensures c.get.ensures in
    skipped c.args.arcs.now c.args.start c.loop-next.row c.loop-next.frontier c.pop.new.self c.in-Some.next c.in-Some.ensures.taken c.loop-next.invariant is.0 is.1

pub returns-clause-row : goal.returns-clause-row
returns-clause-row c = row_is c.args.arcs.now c.args.start c.loop-next.row (subst (λ z. Searched c.args.arcs.now c.args.start c.loop-next.row z) c.in_default.ensures.none c.loop-next.invariant)

pub returns-clause-small : goal.returns-clause-small
returns-clause-small c = row_is_small c.args.arcs.now c.args.start c.loop-next.row (subst (λ z. Searched c.args.arcs.now c.args.start c.loop-next.row z) c.in_default.ensures.none c.loop-next.invariant) c.requires.few
