use Rattle.std.proofs.Common.{◌≡◌, ◌<◌, ◌≤◌, ◌+◌, List, length, reverse, arith, subst, sym}
use Rattle.pt_types.specs.declared.graph.Edge.{Edge}
use Rattle.pt_causality.specs.declared.places.SearchState.{SearchState}
use Rattle.pt_causality.specs.declared.places.SearchMark.TheVariants.{New, Open, Done}
use Rattle.pt_causality.specs.Places.{place_at}
use Rattle.pt_causality.specs.Rings.{IsClosedBy}
use Rattle.pt_causality.specs.Ranking.{IsWalk}
use Rattle.pt_causality.proofs.Steps.{closed, closed_step, closes, level_fits, look_at, looked_step, looked_walk, mark_read, opened_step, opened_walk, pushed, rank_fits, top_within}
use Rattle.pt_causality.proofs.ranking.step.Goals as goal

pub next_edge-requires-clause-actor : goal.next_edge-requires-clause-actor
next_edge-requires-clause-actor c = subst (λ (ps : List SearchState). c.args.top < length ps) (sym c.as_slice.ensures.value) (top_within _ _ _ _ c.requires.walk)

pub index-requires : goal.index-requires
index-requires c =
    let look = look_at c.requires.joined c.requires.walk c.as_slice.ensures.value c.in-Some.ensures in
    omega (arith, look.below, c.args.places.now.ok.0)

pub set_mark-requires-in-New : goal.set_mark-requires-in-New
set_mark-requires-in-New c = (look_at c.requires.joined c.requires.walk c.as_slice.ensures.value c.in-Some.ensures).below

pub look-requires-clause-from : goal.look-requires-clause-from
look-requires-clause-from c = (look_at c.requires.joined c.requires.walk c.as_slice.ensures.value c.in-Some.ensures).below

pub look-requires-clause-level : goal.look-requires-clause-level
look-requires-clause-level c =
    let look = look_at c.requires.joined c.requires.walk c.as_slice.ensures.value c.in-Some.ensures in
    let done = mark_read _ _ _ Done look.below c.index.ensures c.in-Done.is in
    let fits : (place_at c.args.places.now.items c.in-Some.edge.from).level + 1 ≤ length c.args.places.now.items = level_fits _ _ _ c.requires.walk.settled done in
    omega (arith, fits, c.requires.walk.long, c.requires.few)

pub look-requires-clause-rank : goal.look-requires-clause-rank
look-requires-clause-rank c =
    let look = look_at c.requires.joined c.requires.walk c.as_slice.ensures.value c.in-Some.ensures in
    let done = mark_read _ _ _ Done look.below c.index.ensures c.in-Done.is in
    let fits : (place_at c.args.places.now.items c.in-Some.edge.from).rank + 1 ≤ length c.args.places.now.items = rank_fits _ _ _ c.requires.walk.settled done in
    omega (arith, fits, c.requires.walk.long, c.requires.few)

pub returns-in_default-clause-walk : goal.returns-in_default-clause-walk
returns-in_default-clause-walk c =
    let none = subst (λ (ps : List SearchState). (place_at ps c.args.top).left ≡ 0) c.as_slice.ensures.value c.in_default.ensures in
    closed _ _ _ _ _ _ _ c.requires.walk none c.set_mark.ensures c.go_back.ensures

pub returns-in_default-clause-shrinks : goal.returns-in_default-clause-shrinks
returns-in_default-clause-shrinks c = (closed_step _ _ _ _ _ c.requires.walk c.set_mark.ensures).shrinks

pub returns-in_default-clause-keeps : goal.returns-in_default-clause-keeps
returns-in_default-clause-keeps c = (closed_step _ _ _ _ _ c.requires.walk c.set_mark.ensures).keeps

pub returns-in-Done-clause-walk : goal.returns-in-Done-clause-walk
returns-in-Done-clause-walk c =
    let look = look_at c.requires.joined c.requires.walk c.as_slice.ensures.value c.in-Some.ensures in
    looked_walk _ _ _ _ _ c.in-Some.edge c.requires.walk look.next (mark_read _ _ _ Done look.below c.index.ensures c.in-Done.is) c.look.ensures

pub returns-in-Done-clause-shrinks : goal.returns-in-Done-clause-shrinks
returns-in-Done-clause-shrinks c =
    let look = look_at c.requires.joined c.requires.walk c.as_slice.ensures.value c.in-Some.ensures in
    (looked_step _ _ _ _ _ c.in-Some.edge c.requires.walk look.next c.look.ensures).shrinks

pub returns-in-Done-clause-keeps : goal.returns-in-Done-clause-keeps
returns-in-Done-clause-keeps c =
    let look = look_at c.requires.joined c.requires.walk c.as_slice.ensures.value c.in-Some.ensures in
    (looked_step _ _ _ _ _ c.in-Some.edge c.requires.walk look.next c.look.ensures).keeps

pub returns-in-Ok-clause-walk : goal.returns-in-Ok-clause-walk
returns-in-Ok-clause-walk c =
    let look = look_at c.requires.joined c.requires.walk c.as_slice.ensures.value c.in-Some.ensures in
    let new = mark_read _ _ _ New look.below c.index.ensures c.in-New.is in
    subst (λ (es : List Edge). IsWalk c.args.incoming.now c.set_mark-in-New.new.places.items c.in-Some.edge.from es) (sym (pushed c.args.trail.now.items c.push.new.self.items c.in-Some.edge c.in-Ok.ensures.items))
    (opened_walk _ _ _ _ _ c.in-Some.edge c.requires.walk look.below look.in_list look.to new c.set_mark-in-New.ensures)

pub returns-in-Ok-clause-shrinks : goal.returns-in-Ok-clause-shrinks
returns-in-Ok-clause-shrinks c =
    let look = look_at c.requires.joined c.requires.walk c.as_slice.ensures.value c.in-Some.ensures in
    (opened_step _ _ c.in-Some.edge.from look.below (mark_read _ _ _ New look.below c.index.ensures c.in-New.is) c.set_mark-in-New.ensures).shrinks

pub returns-in-Ok-clause-keeps : goal.returns-in-Ok-clause-keeps
returns-in-Ok-clause-keeps c =
    let look = look_at c.requires.joined c.requires.walk c.as_slice.ensures.value c.in-Some.ensures in
    (opened_step _ _ c.in-Some.edge.from look.below (mark_read _ _ _ New look.below c.index.ensures c.in-New.is) c.set_mark-in-New.ensures).keeps

pub returns-in-Open-clause-ring : goal.returns-in-Open-clause-ring
returns-in-Open-clause-ring c =
    let look = look_at c.requires.joined c.requires.walk c.as_slice.ensures.value c.in-Some.ensures in
    let opened = mark_read _ _ _ Open look.below c.index.ensures c.in-Open.is in
    c.ring_at.ensures c.args.incoming.now
    (subst (λ (es : List Edge). IsClosedBy c.args.incoming.now (reverse es) c.in-Some.edge) (sym c.as_slice-in-Open.ensures.value)
    (closes _ _ _ _ c.in-Some.edge c.requires.joined c.requires.walk look.next opened))
