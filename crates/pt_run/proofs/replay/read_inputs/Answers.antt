use Rattle.std.proofs.Common.{◌+◌, ◌≡◌, ◌↔◌, ◌∙◌, [], Ok, Err, None, ap, inl, length, subst}
use Rattle.std.specs.Arc.{arc_value}
use Rattle.pt_types.specs.declared.graph.Graph.{Graph}
use Rattle.pt_offsets.specs.Plans.{Parts}
use Rattle.pt_io.specs.Calls.{Contents}
use Rattle.pt_sensor_files.proofs.Asking.{of_content}
use Rattle.pt_air.specs.AirOf.{air_of}
use Rattle.pt_semantics.specs.RecordedTimes.{KeepsBounds}
use Rattle.pt_run.specs.declared.fault.Fault.TheVariants as fault
use Rattle.pt_run.specs.Auditing.{LastFails}
use Rattle.pt_run.specs.Due.{AfterAir, RefusedWith}
use Rattle.pt_run.proofs.ReplayEnds.{air_of-fetched, air_refused}
use Rattle.pt_run.proofs.OverPlan.{past_all_rows}
use Rattle.pt_run.proofs.Stages.{on_admitted}
use Rattle.pt_run.proofs.replay.read_inputs.Goals as goal
use Rattle.pt_sensors.specs.Limits.{file_limits}

pub returns-in-Err-clause-refused : goal.returns-in-Err-clause-refused
returns-in-Err-clause-refused g c =
    let contents : Contents = g.S.Source.contents c.args.source.now in
    let plan : Parts = arc_value c.args.plan.now in
    let air = c.args.air.now in
    λ a is out. on_admitted contents plan.graph (λ a p rows. RefusedWith fault.ReadAir a × LastFails plan.graph [] air a.read) (λ a p rows. AfterAir air contents plan.graph [] a ⊥) a (λ p rows k. inl k) (c.in-Err.ensures.refused a is out)

pub returns-in-Ok-read_air-clause-recorded : goal.returns-in-Ok-read_air-clause-recorded
returns-in-Ok-read_air-clause-recorded g c =
    let contents : Contents = g.S.Source.contents c.args.source.now in
    let plan : Parts = arc_value c.args.plan.now in
    let graph : c.graph.result.now ≡ plan.graph = c.graph.ensures.value ∙ ap (λ (p : Parts). p.graph) c.deref.ensures in
    let has = c.in-Ok.ensures.rows in
    let bytes = c.in-Ok.found.bytes.items in
    let air = c.in-Ok-read_air.air in
    let read : air_of plan.graph bytes ≡ Ok air = subst (λ bytes. air_of plan.graph bytes ≡ Ok air) c.as_slice.ensures.value (subst (λ (h : Graph). air_of h c.as_slice.result.now ≡ Ok air) graph c.in-Ok-read_air.ensures.air) in
    record {
      admitted = has.admitted;
      sensors = has.sensors;
      in_time = has.in_time;
      places = has.places;
      fit = has.fit;
      file = of_content (air_of plan.graph) ((file_limits plan.graph.claims).bytes + 1) (air_of-fetched plan.graph) (contents c.args.air.now) bytes (Ok air) c.in-Ok.ensures.bytes read;
      transits = c.in-Ok-read_air.ensures.lengths.1 ∙ ap (λ (h : Graph). length h.links) graph;
      bounds = subst (λ (h : Graph). (air.breach ≡ None) ↔ KeepsBounds h air) graph c.in-Ok-read_air.ensures.bounds;
    }

pub returns-in-Err-read_air-clause-refused : goal.returns-in-Err-read_air-clause-refused
returns-in-Err-read_air-clause-refused g c =
    let contents : Contents = g.S.Source.contents c.args.source.now in
    let plan : Parts = arc_value c.args.plan.now in
    let graph : c.graph.result.now ≡ plan.graph = c.graph.ensures.value ∙ ap (λ (p : Parts). p.graph) c.deref.ensures in
    let name = c.args.air.now in
    let bytes = c.in-Ok.found.bytes.items in
    let f = c.in-Err-read_air.fault in
    λ a is out. past_all_rows contents plan c.in-Ok.found.entries.items (λ a p rows. AfterAir name contents plan.graph [] a ⊥) c.in-Ok.ensures.rows a
    (air_refused name contents plan.graph f a (λ other.
    of_content (air_of plan.graph) ((file_limits plan.graph.claims).bytes + 1) (air_of-fetched plan.graph) (contents name) bytes (Err f) c.in-Ok.ensures.bytes
    (subst (λ bytes. air_of plan.graph bytes ≡ Err f) c.as_slice.ensures.value (subst (λ (h : Graph). air_of h c.as_slice.result.now ≡ Err f) graph (c.in-Err-read_air.ensures.air other))))
    (subst (λ e. RefusedWith e a) c.fault_of_air.ensures out))
