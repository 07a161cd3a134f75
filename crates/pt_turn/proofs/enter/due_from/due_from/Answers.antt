use Rattle.std.proofs.Common.{◌≤◌, length, take, subst, arith}
use Rattle.std.proofs.lemmas.List.{take_all}
use Rattle.pt_types.specs.declared.rows.RowAt.{RowAt}
use Rattle.pt_turn.proofs.Enters.Due.{NoneDueOf, more_due, no_row}
use Rattle.pt_turn.proofs.enter.due_from.due_from.Goals as goal

pub loop-row-init : goal.loop-row-init
loop-row-init c = record { no_later = omega arith; due = λ g are x mem. absurd mem }

pub loop-row-preserved : goal.loop-row-preserved
loop-row-preserved c = record {
  no_later = omega (arith, c.sooner_due-least.ensures.no_later, c.loop-row.invariant.no_later);
  due = more_due c.args.offsets.now c.args.rows.now c.loop-row.row-index c.loop-row.least c.sooner_due-least.result no_row c.loop-row-test.true c.loop-row.invariant.due c.sooner_due-least.ensures.no_later c.sooner_due-least.ensures.due;
}

pub returns-clause-due : goal.returns-clause-due
returns-clause-due c = subst (λ rows. NoneDueOf c.args.offsets.now rows c.loop-row.least) (take_all c.loop-row.row-index c.args.rows.now (omega (arith, c.loop-row-test.false))) c.loop-row.invariant.due
