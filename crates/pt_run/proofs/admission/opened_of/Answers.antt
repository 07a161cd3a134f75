use Rattle.std.proofs.Common.{◌≡◌, ◌∙◌, ◌++◌, [], Some, ap, inr, refl, subst, sym}
use Rattle.std.specs.Arc.{arc_value}
use Rattle.pt_io.specs.Calls.{SourceCall, reading}
use Rattle.pt_types.specs.declared.graph.Graph.{Graph}
use Rattle.pt_offsets.specs.Plans.{IsAdmitted, Parts}
use Rattle.pt_sensor_files.specs.Asked.{Asks, sensor_files}
use Rattle.pt_sensors.specs.Listed.{rows_for}
use Rattle.pt_sensor_files.specs.declared.recorded_fault.LateRows.TheVariants.{Refused}
use Rattle.pt_sensor_files.specs.Recorded.{AllPass, AreRows, CauseOfRows}
use Rattle.pt_run.specs.Asks.{AsksOver, all_sensors}
use Rattle.pt_run.specs.Faults.{fault_of_rows}
use Rattle.pt_run.proofs.Asks.{all_rows_asked, memory_asked, rows_asked}
use Rattle.pt_run.proofs.admission.opened_of.Goals as goal

pub returns-in-Err-clause-fault : goal.returns-in-Err-clause-fault
returns-in-Err-clause-fault g c =
    let plan : Parts = arc_value c.args.plan.now in
    let graph : c.graph.result.now ≡ plan.graph = c.graph.ensures.value ∙ ap (λ (p : Parts). p.graph) c.deref.ensures in
    let r : SourceCall = reading g.S.Source c.args.source.now c.recorded.new.source in
    inr (c.in-Err.fault, c.fault_of_rows.ensures, subst (λ (h : Graph). CauseOfRows Refused c.in-Err.fault (g.S.Source.contents c.args.source.now) h [] r) graph c.in-Err.ensures.fault)

pub returns-in-Err-clause-asks : goal.returns-in-Err-clause-asks
returns-in-Err-clause-asks g c =
    let plan : Parts = arc_value c.args.plan.now in
    let graph : c.graph.result.now ≡ plan.graph = c.graph.ensures.value ∙ ap (λ (p : Parts). p.graph) c.deref.ensures in
    let now = g.S.Source.asked c.recorded.new.source in
    let refused = rows_asked c.graph.result.now [] (g.S.Source.asked c.args.source.now) now c.in-Err.fault c.in-Err.ensures.asks_up_to in
    subst (λ e. AsksOver (Some e) [] plan.graph.actors [] (g.S.Source.asked c.args.source.now) now) (sym c.fault_of_rows.ensures)
    (subst (λ (h : Graph). AsksOver (Some (fault_of_rows c.in-Err.fault)) [] h.actors [] (g.S.Source.asked c.args.source.now) now) graph refused)

pub returns-in-Err-open_all-clause-asks : goal.returns-in-Err-open_all-clause-asks
returns-in-Err-open_all-clause-asks g c =
    let plan : Parts = arc_value c.args.plan.now in
    let graph : c.graph.result.now ≡ plan.graph = c.graph.ensures.value ∙ ap (λ (p : Parts). p.graph) c.deref.ensures in
    let all = subst (λ (h : Graph). Asks (g.S.Source.asked c.args.source.now) (g.S.Source.asked c.recorded.new.source) (all_sensors h)) graph c.in-Ok.ensures.asks_all in
    memory_asked plan.graph [] (g.S.Source.asked c.args.source.now) (g.S.Source.asked c.recorded.new.source) (all_rows_asked plan.graph (g.S.Source.asked c.args.source.now) (g.S.Source.asked c.recorded.new.source) all)

pub returns-in-Ok-open_all-clause-asks : goal.returns-in-Ok-open_all-clause-asks
returns-in-Ok-open_all-clause-asks g c =
    let plan : Parts = arc_value c.args.plan.now in
    let graph : c.graph.result.now ≡ plan.graph = c.graph.ensures.value ∙ ap (λ (p : Parts). p.graph) c.deref.ensures in
    let all = subst (λ (h : Graph). Asks (g.S.Source.asked c.args.source.now) (g.S.Source.asked c.recorded.new.source) (all_sensors h)) graph c.in-Ok.ensures.asks_all in
    (sensor_files plan.graph.actors ++ [], refl, all_rows_asked plan.graph (g.S.Source.asked c.args.source.now) (g.S.Source.asked c.recorded.new.source) all)

pub returns-in-Ok-open_all-clause-opened : goal.returns-in-Ok-open_all-clause-opened
returns-in-Ok-open_all-clause-opened g c =
    let plan : Parts = arc_value c.args.plan.now in
    let graph : c.graph.result.now ≡ plan.graph = c.graph.ensures.value ∙ ap (λ (p : Parts). p.graph) c.deref.ensures in
    let rows = rows_for c.in-Ok.entries.items in
    record {
      admitted = subst IsAdmitted c.deref.ensures c.graph.ensures.admitted;
      rows = rows;
      sensors = subst (λ (h : Graph). AreRows (g.S.Source.contents c.args.source.now) h rows) graph c.in-Ok.ensures.rows;
      in_time = subst (λ (h : Graph). AllPass Refused h rows) graph c.in-Ok.ensures.passes;
      fact = c.in-Ok-open_all.ensures;
    }
