use Rattle.std.proofs.Common.{rules, ◌∷◌, [], Ok, Err, Some, subst, sym}
use Rattle.pt_io.specs.Calls.{SourceCall, reading}
use Rattle.pt_run.specs.Asks.{AsksAlone}
use Rattle.pt_run.proofs.Asks.{alone_asks}
use Rattle.pt_run.proofs.GraphFiles.{fault_with, graph_by-fetched, graph_with, lawful_with}
use Rattle.pt_io.specs.Causes.{Rose}
use Rattle.pt_run.specs.Due.{AfterFile, RefusesAsDue}
use Rattle.pt_sensor_files.specs.Asked.{Asks}
use Rattle.pt_sensor_files.proofs.Asking.{of_content}
use Rattle.pt_run.proofs.Endings.{graph_fails, graph_unread}
use Rattle.pt_run.proofs.admission.graph_at.Goals as goal
use Rattle.pt_run.specs.GraphFiles.{graph_by, with_claims}
use Rattle.pt_words.specs.Views.{file_in}

pub returns-in-Ok-read_graph-clause-graph : goal.returns-in-Ok-read_graph-clause-graph
returns-in-Ok-read_graph-clause-graph g c =
    let blocks = c.args.blocks.now.listed.items in
    let file = file_in c.args.graph_file in
    let graph = c.in-Ok-read_graph.graph in
    of_content (graph_by blocks file) 1048577 (graph_by-fetched blocks file) (g.S.Source.contents c.args.source.now c.args.graph_file.name.now) c.in-Ok.bytes.items (Ok (with_claims file.claims graph)) c.in-Ok.ensures.bytes
    (graph_with blocks file c.in-Ok.bytes.items graph (rw c.as_slice.ensures.value at c.in-Ok-read_graph.ensures.graph))

pub returns-in-Err-Failed-clause-refused : goal.returns-in-Err-Failed-clause-refused
returns-in-Err-Failed-clause-refused g c =
    let r : SourceCall = reading g.S.Source c.args.source.now c.fetch.new.self in
    let asked : Asks (g.S.Source.asked c.args.source.now) (g.S.Source.asked c.fetch.new.self) (c.args.graph_file.name.now ∷ []) = search rules in
    let rose : Rose (g.S.Source.faults c.args.source.now) (g.S.Source.faults c.fetch.new.self) = search rules in
    graph_unread (g.S.Source.contents c.args.source.now) c.args.blocks.now.listed.items (file_in c.args.graph_file) r (record { asked = asked; rose = rose })

pub returns-clause-refused : goal.returns-clause-refused
returns-clause-refused g c =
    let blocks = c.args.blocks.now.listed.items in
    let contents = g.S.Source.contents c.args.source.now in
    let r : SourceCall = reading g.S.Source c.args.source.now c.fetch.new.self in
    subst (λ f. RefusesAsDue f r (λ a. AfterFile contents blocks (file_in c.args.graph_file) a (λ g. ⊥))) (sym c.fault_of_graph.ensures)
    (graph_fails contents blocks (file_in c.args.graph_file) r c.in-Err.fault (λ other.
    of_content (graph_by blocks (file_in c.args.graph_file)) 1048577 (graph_by-fetched blocks (file_in c.args.graph_file)) (contents c.args.graph_file.name.now) c.in-Ok.bytes.items (Err c.in-Err.fault) c.in-Ok.ensures.bytes
    (fault_with blocks (file_in c.args.graph_file) c.in-Ok.bytes.items c.in-Err.fault (rw c.as_slice.ensures.value at (c.in-Err.ensures.graph other)))))

pub returns-in-Ok-read_graph-clause-defined : goal.returns-in-Ok-read_graph-clause-defined
returns-in-Ok-read_graph-clause-defined g c =
    (c.as_slice.result.now, graph_with c.args.blocks.now.listed.items (file_in c.args.graph_file) c.as_slice.result.now c.in-Ok-read_graph.graph c.in-Ok-read_graph.ensures.graph)

pub returns-in-Ok-read_graph-clause-lawful : goal.returns-in-Ok-read_graph-clause-lawful
returns-in-Ok-read_graph-clause-lawful g c = lawful_with c.args.graph_file.claims c.in-Ok-read_graph.graph c.requires c.in-Ok-read_graph.ensures.lawful

pub returns-clause-asks_alone : goal.returns-clause-asks_alone
returns-clause-asks_alone g c =
    let now = g.S.Source.asked c.fetch.new.self in
    subst (λ f. AsksAlone (Some f) (file_in c.args.graph_file) (g.S.Source.asked c.args.source.now) now) (sym c.fault_of_graph.ensures) (alone_asks c.in-Err.fault (file_in c.args.graph_file) (g.S.Source.asked c.args.source.now) now c.in-Ok.ensures.names)
