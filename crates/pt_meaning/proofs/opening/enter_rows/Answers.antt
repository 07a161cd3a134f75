use Rattle.std.proofs.Common.{◌≤◌, ◌∙◌, arith, length, [], ◌∷◌}
use Rattle.pt_meaning.specs.Early.{early_waits}
use Rattle.pt_meaning.specs.Opening.{rows_of_actor}
use Rattle.pt_meaning.proofs.Opens.{on_from, on_end, rows_step, rows_end, no_row}
use Rattle.pt_meaning.proofs.opening.enter_rows.Goals as goal

pub loop-row-preserved : goal.loop-row-preserved
loop-row-preserved c = record {
  waits =
      on_from (rows_of_actor c.args.until c.args.actor) (λ row. rows_of_actor c.args.until c.args.actor (row ∷ [])) (rows_step c.args.until c.args.actor)
      (early_waits c.loop-row.events.items) (early_waits c.enter.new.events.items) c.args.rows.now c.loop-row.row-index no_row c.loop-row-test.true c.in_ok-enter.ensures.waits
      ∙ c.loop-row.invariant.waits;
  sound = λ actors within was. c.in_ok-enter.ensures.sound actors within (c.loop-row.invariant.sound actors within was);
}

pub returns-clause-waits : goal.returns-clause-waits
returns-clause-waits c =
    let past : length c.args.rows.now ≤ c.loop-row.row-index = omega (arith, c.loop-row-test.false) in
    on_end (rows_of_actor c.args.until c.args.actor) (rows_end c.args.until c.args.actor) (early_waits c.loop-row.events.items) c.args.rows.now c.loop-row.row-index past
    ∙ c.loop-row.invariant.waits
