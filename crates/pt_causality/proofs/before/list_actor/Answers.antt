use Rattle.std.proofs.Common.{◌+◌, ◌<◌, ◌≤◌, arith, ap, ⊎_elim}
use Rattle.std.proofs.lemmas.Bool.{cases_lt}
use Rattle.pt_causality.specs.Cells.{first_in}
use Rattle.pt_causality.proofs.Listing.{past_listed}
use Rattle.pt_causality.proofs.before.list_actor.Goals as goal

pub returns-clause-listed : goal.returns-clause-listed
returns-clause-listed c = λ x is.
    let firsts = c.args.numbers.now.firsts.items in
    let next = ap (λ a. first_in firsts (a + 1)) is in
    let first = ap (first_in firsts) is in
    let end = c.groups-group-end.ensures in
    let over = c.loop-group-test.false in
    ⊎_elim
    (λ (less : x.group < c.loop-group.group). c.loop-group.invariant.listed x is less)
    (λ (past : c.loop-group.group ≤ x.group). past_listed firsts c.args.rows.now c.loop-group.lists x c.requires.few (omega (arith, next, first, end, over, past)))
    (cases_lt x.group c.loop-group.group)
