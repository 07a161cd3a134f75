use Rattle.std.proofs.Common.{refl}
use Rattle.pt_causality.proofs.Fronts.{taken_later, taken_alone, taken_ready, first_alone, first_later, first_ready, none_left}
use Rattle.pt_causality.proofs.frontier.Frontier.pop.Goals as goal
use Rattle.pt_causality.proofs.frontier.Frontier.pop.Goals.{in-Some-pop, in-None-pop, in-Some-pop-2, in-None-pop-2}

pub returns-in-Some-clause-taken : goal.returns-in-Some-clause-taken
returns-in-Some-clause-taken c = taken_alone _ _ _ _ c.self.view_is c.in-Some.field-0 _ (none_left _ _ c.self.inside.ready.ok.0 c.if-is_empty.ensures) c.in-Some.ensures.permutation

pub returns-in-Some-clause-first : goal.returns-in-Some-clause-first
returns-in-Some-clause-first c = first_alone _ _ _ _ c.self.view_is c.in-Some.field-0 (none_left _ _ c.self.inside.ready.ok.0 c.if-is_empty.ensures) (c.in-Some.ensures.heap_order c.self.invariant).1

pub returns-then-is_before-clause-taken : goal.returns-then-is_before-clause-taken
returns-then-is_before-clause-taken c = elim c.match-pop-2.branch [ in-Some-pop w ↦ rw w.result-is (taken_later _ _ _ _ c.self.view_is w.in-Some-pop.field-0 _ w.in-Some-pop.ensures.permutation) | in-None-pop w ↦ rw w.result-is tt ]

pub returns-then-is_before-clause-first : goal.returns-then-is_before-clause-first
returns-then-is_before-clause-first c = elim c.match-pop-2.branch [ in-Some-pop w ↦ rw w.result-is (first_later _ _ _ _ c.self.view_is w.in-Some-pop.field-0 (c.if-is_before.ensures.some refl) (w.in-Some-pop.ensures.heap_order c.self.invariant).1) | in-None-pop w ↦ rw w.result-is tt ]

pub returns-clause-taken : goal.returns-clause-taken
returns-clause-taken c = elim c.match-pop-3.branch [ in-Some-pop-2 w ↦ rw w.result-is (taken_ready _ _ _ _ c.self.view_is w.in-Some-pop-2.unit _ w.in-Some-pop-2.ensures.items) | in-None-pop-2 w ↦ rw w.result-is tt ]

pub returns-clause-first : goal.returns-clause-first
returns-clause-first c = elim c.match-pop-3.branch [ in-Some-pop-2 w ↦ rw w.result-is (first_ready _ _ _ _ c.self.view_is w.in-Some-pop-2.unit (c.if-is_before.ensures.none refl)) | in-None-pop-2 w ↦ rw w.result-is tt ]
