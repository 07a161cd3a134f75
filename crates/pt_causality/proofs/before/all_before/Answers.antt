use Rattle.std.proofs.Common.{◌≡◌, ◌+◌, ◌<◌, ◌≤◌, arith, ⊎_elim}
use Rattle.std.proofs.lemmas.Bool.{cases_lt}
use Rattle.std.proofs.lemmas.List.{get_or_past}
use Rattle.pt_causality.specs.Cells.{first_in}
use Rattle.pt_causality.proofs.Listing.{past_listed}
use Rattle.pt_causality.proofs.before.all_before.Goals as goal

pub returns : goal.returns
returns c = λ x.
    let firsts = c.args.numbers.now.firsts in
    let end = c.len-actor-end.ensures in
    let over = c.loop-actor-test.false in
    ⊎_elim
    (λ (less : x.actor < c.loop-actor.actor). c.loop-actor.invariant x less)
    (λ (past : c.loop-actor.actor ≤ x.actor).
    let none : first_in firsts.items (x.actor + 1) ≡ 0 = get_or_past firsts.items (x.actor + 1) 0 (omega (arith, end, over, past)) in
    past_listed firsts.items c.args.rows.now c.loop-actor.lists.items x c.requires.few (omega (arith, none)))
    (cases_lt x.actor c.loop-actor.actor)
