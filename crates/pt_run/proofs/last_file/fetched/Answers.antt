use Rattle.std.proofs.Common.{rules, ◌≡◌, ◌∷◌, ◌∙◌, [], Some, ap, inr, subst, sym}
use Rattle.std.specs.Arc.{arc_value}
use Rattle.pt_io.specs.Calls.{Contents, SourceCall, reading}
use Rattle.pt_io.specs.Causes.{Rose}
use Rattle.pt_types.specs.declared.graph.Graph.{Graph}
use Rattle.pt_offsets.specs.Plans.{IsAdmitted, Parts}
use Rattle.pt_sensor_files.specs.Asked.{Asks}
use Rattle.pt_sensors.specs.Listed.{rows_for}
use Rattle.pt_run.specs.Asks.{AsksOver, all_sensors}
use Rattle.pt_run.specs.Auditing.{LastFails}
use Rattle.pt_run.specs.Due.{RefusedWith, RefusesAsDue}
use Rattle.pt_run.specs.Faults.{fault_of_rows}
use Rattle.pt_run.specs.LastFiles.{IsUnread, unread_of}
use Rattle.pt_run.proofs.Asks.{last_asked, rows_asked, unread_asked}
use Rattle.pt_run.proofs.OverPlan.{last_unread, no_rows, past_rows}
use Rattle.pt_run.proofs.last_file.fetched.Goals as goal

pub returns-in-Err-clause-refused : goal.returns-in-Err-clause-refused
returns-in-Err-clause-refused g c =
    let contents : Contents = g.S.Source.contents c.args.source.now in
    let plan : Parts = arc_value c.args.plan.now in
    let graph : c.graph.result.now ≡ plan.graph = c.graph.ensures.value ∙ ap (λ (p : Parts). p.graph) c.deref.ensures in
    let admitted = subst IsAdmitted c.deref.ensures c.graph.ensures.admitted in
    let r : SourceCall = reading g.S.Source c.args.source.now c.recorded.new.source in
    subst (λ f. RefusesAsDue f r (IsUnread c.args.last c.args.name.now contents plan.graph)) (sym c.fault_of_rows.ensures)
    (no_rows contents plan c.graph.result.now (λ a p rows. RefusedWith (unread_of c.args.last) a × LastFails plan.graph [] c.args.name.now a.read) admitted graph c.in-Err.fault r c.in-Err.ensures.fault)

pub returns-in-Err-Failed-clause-refused : goal.returns-in-Err-Failed-clause-refused
returns-in-Err-Failed-clause-refused g c =
    let contents : Contents = g.S.Source.contents c.args.source.now in
    let plan : Parts = arc_value c.args.plan.now in
    let name = c.args.name.now in
    let graph : c.graph.result.now ≡ plan.graph = c.graph.ensures.value ∙ ap (λ (p : Parts). p.graph) c.deref.ensures in
    let admitted = subst IsAdmitted c.deref.ensures c.graph.ensures.admitted in
    let r : SourceCall = reading g.S.Source c.args.source.now c.fetch.new.self in
    let one : Asks (g.S.Source.asked c.recorded.new.source) (g.S.Source.asked c.fetch.new.self) (name ∷ []) = search rules in
    let rose : Rose (g.S.Source.faults c.recorded.new.source) (g.S.Source.faults c.fetch.new.self) = search rules in
    let fails : LastFails plan.graph [] name r =
    last_unread name plan c.graph.result.now (g.S.Source.asked c.args.source.now) (g.S.Source.asked c.recorded.new.source) (g.S.Source.asked c.fetch.new.self)
    (g.S.Source.faults c.args.source.now) (g.S.Source.faults c.recorded.new.source) (g.S.Source.faults c.fetch.new.self) graph c.in-Ok.ensures.asks_all c.recorded.ensures.grows one rose in
    λ a is out. past_rows contents plan c.graph.result.now (λ a p rows. RefusedWith (unread_of c.args.last) a × LastFails plan.graph [] name a.read) admitted graph (rows_for c.in-Ok.entries.items) c.in-Ok.ensures.rows c.in-Ok.ensures.passes a
    (inr (subst (λ f. RefusedWith f a) c.unread.ensures out, subst (LastFails plan.graph [] name) {x = r} (sym {b = r} is) fails))

pub returns-in-Err-clause-asks : goal.returns-in-Err-clause-asks
returns-in-Err-clause-asks g c =
    let plan : Parts = arc_value c.args.plan.now in
    let last = c.args.name.now ∷ [] in
    let graph : c.graph.result.now ≡ plan.graph = c.graph.ensures.value ∙ ap (λ (p : Parts). p.graph) c.deref.ensures in
    let now = g.S.Source.asked c.recorded.new.source in
    let refused = rows_asked c.graph.result.now last (g.S.Source.asked c.args.source.now) now c.in-Err.fault c.in-Err.ensures.asks_up_to in
    subst (λ e. AsksOver (Some e) [] plan.graph.actors last (g.S.Source.asked c.args.source.now) now) (sym c.fault_of_rows.ensures)
    (subst (λ (h : Graph). AsksOver (Some (fault_of_rows c.in-Err.fault)) [] h.actors last (g.S.Source.asked c.args.source.now) now) graph refused)

pub returns-in-Err-Failed-clause-asks : goal.returns-in-Err-Failed-clause-asks
returns-in-Err-Failed-clause-asks g c =
    let plan : Parts = arc_value c.args.plan.now in
    let last = c.args.name.now ∷ [] in
    let graph : c.graph.result.now ≡ plan.graph = c.graph.ensures.value ∙ ap (λ (p : Parts). p.graph) c.deref.ensures in
    let files = subst (λ (h : Graph). Asks (g.S.Source.asked c.args.source.now) (g.S.Source.asked c.recorded.new.source) (all_sensors h)) graph c.in-Ok.ensures.asks_all in
    let one : Asks (g.S.Source.asked c.recorded.new.source) (g.S.Source.asked c.fetch.new.self) last = search rules in
    subst (λ e. AsksOver (Some e) [] plan.graph.actors last (g.S.Source.asked c.args.source.now) (g.S.Source.asked c.fetch.new.self)) (sym c.unread.ensures)
    (unread_asked plan.graph last (g.S.Source.asked c.args.source.now) (g.S.Source.asked c.fetch.new.self) c.args.last
    (last_asked plan.graph last (g.S.Source.asked c.args.source.now) (g.S.Source.asked c.fetch.new.self) (g.S.Source.asked c.recorded.new.source) files one))
