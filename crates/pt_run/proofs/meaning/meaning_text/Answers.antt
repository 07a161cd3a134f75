use Rattle.pt_io.specs.Calls.{SourceCall, reading}
use Rattle.pt_run.specs.Asks.{AsksOver}
use Rattle.std.proofs.Common.{List, subst, Some, [], sym}
use Rattle.std.specs.Prelude.{string_bytes}
use Rattle.std.specs.declared.alloc.Global.{Global}
use Rattle.pt_sensors.specs.declared.sensor_rows.SensorRows.{SensorRows}
use Rattle.pt_sensors.specs.Listed.{rows_for}
use Rattle.pt_sensor_files.specs.declared.recorded_fault.LateRows.TheVariants.{Taken}
use Rattle.pt_run.specs.Due.{AnswersAsDue, IsMeantBy, RefusedWith}
use Rattle.pt_run.proofs.Asks.{meant_asks, rows_asked}
use Rattle.pt_run.proofs.Endings.{read_due, rows_due}
use Rattle.pt_run.proofs.meaning.meaning_text.Goals as goal

pub returns-clause-due : goal.returns-clause-due
returns-clause-due g c =
    let r : SourceCall = reading g.S.Source c.args.source.now c.recorded.new.source in
    read_due (string_bytes {Z = Global}) c.meaning_tables.result (g.S.Source.contents c.args.source.now) c.args.graph.now r (rows_for c.in-Ok.sensors.items) c.in-Ok.ensures.rows
    (subst (λ (xs : List SensorRows). AnswersAsDue (string_bytes {Z = Global}) c.meaning_tables.result r (IsMeantBy c.args.graph.now (rows_for xs))) c.as_slice.ensures.value (c.meaning_tables.ensures r))

pub returns-clause-asks : goal.returns-clause-asks
returns-clause-asks g c =
    let r : SourceCall = reading g.S.Source c.args.source.now c.recorded.new.source in
    meant_asks c.args.graph.now (rows_for c.in-Ok.sensors.items) r (g.S.Source.asked c.args.source.now) (g.S.Source.asked c.recorded.new.source) c.in-Ok.ensures.asks_all (string_bytes {Z = Global}) c.meaning_tables.result
    (subst (λ (xs : List SensorRows). AnswersAsDue (string_bytes {Z = Global}) c.meaning_tables.result r (IsMeantBy c.args.graph.now (rows_for xs))) c.as_slice.ensures.value (c.meaning_tables.ensures r))

pub returns-in-Err-clause-asks : goal.returns-in-Err-clause-asks
returns-in-Err-clause-asks g c =
    let now = g.S.Source.asked c.recorded.new.source in
    subst (λ e. AsksOver (Some e) [] c.args.graph.now.actors [] (g.S.Source.asked c.args.source.now) now) (sym c.fault_of_rows.ensures) (rows_asked c.args.graph.now [] (g.S.Source.asked c.args.source.now) now c.in-Err.fault c.in-Err.ensures.asks_up_to)

pub returns-in-Err-clause-due : goal.returns-in-Err-clause-due
returns-in-Err-clause-due g c =
    let r : SourceCall = reading g.S.Source c.args.source.now c.recorded.new.source in
    λ a is out. rows_due (string_bytes {Z = Global}) Taken c.in-Err.fault (g.S.Source.contents c.args.source.now) c.args.graph.now r (λ a rows. IsMeantBy c.args.graph.now rows a) c.in-Err.ensures.fault a is (subst (λ e. RefusedWith e a) c.fault_of_rows.ensures out)
