use Rattle.std.proofs.Common.{◌≡◌, ◌<◌, ◌≤◌, ◌+◌, ◌∙◌, refl, subst, sym, arith, is_ok, true, length, rules}
use Rattle.std.proofs.lemmas.Result.{err_from_is_err_and}
use Rattle.pt_io.specs.Calls.{SourceCall, reading}
use Rattle.pt_sensors.specs.declared.sensor_rows.SensorRows.{SensorRows}
use Rattle.pt_sensors.specs.Limits.{file_limits}
use Rattle.pt_sensor_files.specs.Recorded.{RowsOfKind}
use Rattle.pt_types.specs.Lookups.{kind_of}
use Rattle.pt_sensor_files.proofs.Asking.{asks_all, asks_by_files, asks_files, asks_up_to}
use Rattle.pt_sensor_files.proofs.Counting.{count_from}
use Rattle.pt_sensor_files.proofs.Recording.{AreFirstRows, first_rows_more, fit_rows, later}
use Rattle.pt_sensor_files.proofs.recorded_rows.recorded.Goals as goal

pub returns-in_err-rows-clause-fault : goal.returns-in_err-rows-clause-fault
returns-in_err-rows-clause-fault g c =
    let p = err_from_is_err_and c.from_residual.result c.from_residual.ensures.1 in
    rw (p.1, p.2)
    (later c.args.late (g.S.Source.contents c.args.source.now) (g.S.Source.contents c.loop-number.source) c.args.graph.now c.loop-number.all.items c.loop-number.number
    (g.S.Source.asked c.args.source.now) (g.S.Source.asked c.loop-number.source) (g.S.Source.asked c.rows_of_actor.new.source)
    (g.S.Source.faults c.args.source.now) (g.S.Source.faults c.loop-number.source) (g.S.Source.faults c.rows_of_actor.new.source) _ c.loop-number.invariant.keeps
    c.loop-number.invariant.rows c.loop-number.invariant.asks c.loop-number.invariant.grows c.in_err-rows.ensures.fault)

pub returns-in_err-rows-clause-asks : goal.returns-in_err-rows-clause-asks
returns-in_err-rows-clause-asks g c =
    let within : c.loop-number.number < length c.args.graph.now.actors = search rules in
    asks_by_files c.args.graph.now c.loop-number.number _ (g.S.Source.asked c.args.source.now) (g.S.Source.asked c.loop-number.source) (g.S.Source.asked c.rows_of_actor.new.source) within c.loop-number.invariant.asks c.in_err-rows.ensures.asks_by

pub returns-in_err-rows-clause-asks_up_to : goal.returns-in_err-rows-clause-asks_up_to
returns-in_err-rows-clause-asks_up_to g c =
    let p = err_from_is_err_and c.from_residual.result c.from_residual.ensures.1 in
    let within : c.loop-number.number < length c.args.graph.now.actors = search rules in
    let reading : SourceCall = reading g.S.Source c.loop-number.source c.rows_of_actor.new.source in
    rw (p.1, p.2)
    (asks_up_to c.args.late (g.S.Source.contents c.loop-number.source) c.args.graph.now c.loop-number.number _ reading (g.S.Source.asked c.args.source.now) (g.S.Source.asked c.loop-number.source) (g.S.Source.asked c.rows_of_actor.new.source) within c.loop-number.invariant.asks
    c.in_err-rows.ensures.fault c.in_err-rows.ensures.asks_by)

pub returns-in_err-rows-clause-counted : goal.returns-in_err-rows-clause-counted
returns-in_err-rows-clause-counted g c =
    let p = err_from_is_err_and c.from_residual.result c.from_residual.ensures.1 in
    rw (p.1, p.2)
    (count_from _ (g.S.Source.faults c.args.source.now) (g.S.Source.faults c.loop-number.source) (g.S.Source.faults c.rows_of_actor.new.source) c.loop-number.invariant.quiet c.in_err-rows.ensures.counted)

pub loop-number-preserved : goal.loop-number-preserved
loop-number-preserved g c =
    let contents = g.S.Source.contents c.args.source.now in
    let graph = c.args.graph.now in
    let n = c.loop-number.number in
    let pushed : is_ok c.push.result ≡ true = search rules in
    let items = rw pushed at c.push.ensures.items in
    let entry : SensorRows = record { actor = c.loop-number.number; rows = c.in_ok-rows.rows } in
    let within : c.loop-number.number < length c.args.graph.now.actors = search rules in
    let kind = subst (λ t. RowsOfKind (file_limits graph.claims) t (kind_of graph n) c.in_ok-rows.rows) c.loop-number.invariant.keeps c.in_ok-rows.ensures.rows in
    record {
      rows = subst (λ xs. AreFirstRows c.args.late contents graph xs (c.loop-number.number + 1)) (sym items)
          (first_rows_more c.args.late contents graph c.loop-number.all.items n entry c.loop-number.invariant.rows refl within (record { kind = kind; passes = c.in_ok-rows.ensures.passes; order = c.in_ok-rows.ensures.order }));
      keeps = c.rows_of_actor.ensures.keeps ∙ c.loop-number.invariant.keeps;
      grows = omega (arith, c.loop-number.invariant.grows, c.rows_of_actor.ensures.grows);
      quiet = c.in_ok-rows.ensures.quiet ∙ c.loop-number.invariant.quiet;
      asks = asks_files graph n (g.S.Source.asked c.args.source.now) (g.S.Source.asked c.loop-number.source) (g.S.Source.asked c.rows_of_actor.new.source) within c.loop-number.invariant.asks c.in_ok-rows.ensures.asks;
    }

pub returns-then-is_err-clause-asks : goal.returns-then-is_err-clause-asks
returns-then-is_err-clause-asks g c =
    let within : c.loop-number.number < length c.args.graph.now.actors = search rules in (
      c.loop-number.number + 1,
      asks_files c.args.graph.now c.loop-number.number (g.S.Source.asked c.args.source.now) (g.S.Source.asked c.loop-number.source) (g.S.Source.asked c.rows_of_actor.new.source) within c.loop-number.invariant.asks c.in_ok-rows.ensures.asks,
    )

pub returns-then-is_err-clause-asks_up_to : goal.returns-then-is_err-clause-asks_up_to
returns-then-is_err-clause-asks_up_to g c =
    let within : c.loop-number.number < length c.args.graph.now.actors = search rules in (
      c.loop-number.number + 1,
      asks_files c.args.graph.now c.loop-number.number (g.S.Source.asked c.args.source.now) (g.S.Source.asked c.loop-number.source) (g.S.Source.asked c.rows_of_actor.new.source) within c.loop-number.invariant.asks c.in_ok-rows.ensures.asks,
    )

pub returns-clause-fit : goal.returns-clause-fit
returns-clause-fit g c =
    let whole : length c.args.graph.now.actors ≤ c.loop-number.number = search rules in
    λ refused. fit_rows (g.S.Source.contents c.args.source.now) c.args.graph.now c.loop-number.all.items c.loop-number.number (subst (λ l. AreFirstRows l (g.S.Source.contents c.args.source.now) c.args.graph.now c.loop-number.all.items c.loop-number.number) refused c.loop-number.invariant.rows) whole

pub returns-clause-asks_all : goal.returns-clause-asks_all
returns-clause-asks_all g c =
    let whole : length c.args.graph.now.actors ≤ c.loop-number.number = search rules in
    asks_all c.args.graph.now c.loop-number.number (g.S.Source.asked c.args.source.now) (g.S.Source.asked c.loop-number.source) whole c.loop-number.invariant.asks
