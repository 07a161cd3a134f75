use Rattle.std.proofs.Common.{rules, ◌≡◌, ◌+◌, refl, subst, sym, arith, is_ok, true}
use Rattle.pt_sensors.specs.declared.sensor_rows.SensorRows.{SensorRows}
use Rattle.pt_make.proofs.Entries.{AreFirst, first_more, none_first, placed, rows_are}
use Rattle.pt_semantics.specs.Rows.{FitRows}
use Rattle.pt_sensors.specs.Places.{of_run}
use Rattle.pt_make.specs.Input.{made_graph}
use Rattle.pt_make.proofs.Fitting.{rows_fit}
use Rattle.pt_make.proofs.rows.made_rows.Goals as goal

pub loop-actor-init : goal.loop-actor-init
loop-actor-init c = subst (λ xs. AreFirst c.args.number xs 0) (sym c.new-all.ensures.items) (none_first c.args.number)

pub loop-actor-preserved : goal.loop-actor-preserved
loop-actor-preserved c =
    let entry : SensorRows = record { actor = c.loop-actor.actor; rows = c.in_ok-rows.rows } in
    let pushed : is_ok c.push.result ≡ true = search rules in
    let items = rw pushed at c.push.ensures.items in
    subst (λ xs. AreFirst c.args.number xs (c.loop-actor.actor + 1)) (sym items)
    (first_more c.args.number c.loop-actor.all.items c.loop-actor.actor entry c.loop-actor.invariant refl c.in_ok-rows.ensures)

pub returns : goal.returns
returns c =
    let whole : c.loop-actor.actor ≡ 18 = omega arith in
    let all : AreFirst c.args.number c.loop-actor.all.items 18 = subst (AreFirst c.args.number c.loop-actor.all.items) whole c.loop-actor.invariant in
    record { places = placed c.args.number c.loop-actor.all.items all; rows = rows_are c.args.number c.loop-actor.all.items all; fit = subst (λ rows. FitRows (made_graph c.args.number) (of_run (made_graph c.args.number) rows)) (sym (rows_are c.args.number c.loop-actor.all.items all)) (rows_fit c.args.number) }
