-- Two runs of one program.
use Rattle.std.proofs.Common.{◌≡◌, ℕ, Bool, List, Option, None, Some, Result, Ok, refl, sym, subst, ◌∙◌}
use Rattle.pt_types.specs.declared.graph.Graph.{Graph}
use Rattle.pt_blocks.specs.declared.blocks.Named.{Named}
use Rattle.pt_graph_text.specs.declared.fault.GraphFault.{GraphFault}
use Rattle.pt_semantics.proofs.Lookups.{none_some, same_some}
use Rattle.pt_turn.specs.All.{histories_of}
use Rattle.pt_io.specs.Calls.{Contents}
use Rattle.pt_run.specs.RunsAgreeing.{ReportsSensors}
use Rattle.pt_run.proofs.RunsAgreeing.{finished_agree, runs_agree as left_agree}
use Rattle.pt_run.specs.Agreeing.{RunsAgree}
use Rattle.pt_words.specs.declared.orders.ClockChoice.TheVariants.{Paced}
use Rattle.pt_run.specs.Written.{IsRun, Leaves, run_clocks}
use Rattle.pt_run.specs.GraphFiles.{graph_by}
use Rattle.pt_words.specs.Grammar.{GraphFile}
use Rattle.pt_sensor_files.specs.Bytes.{OfBytes}

-- a file with known content defines one graph
same_ok : (g h : Graph) → ◌≡◌ {A = Result Graph GraphFault} (Ok g) (Ok h) → g ≡ h
same_ok g h e = cc

defined : (blocks : List Named) (graph_file : GraphFile) (reported : Option (List ℕ)) (bytes : List ℕ) (g : Graph) → reported ≡ Some bytes → OfBytes reported (λ bytes. graph_by blocks graph_file bytes ≡ Ok g) → graph_by blocks graph_file bytes ≡ Ok g
defined blocks graph_file None bytes g e h = absurd (none_some bytes e)
defined blocks graph_file (Some reported) bytes g e h = subst (λ b. graph_by blocks graph_file b ≡ Ok g) (same_some reported bytes e) h

over_graph : (contents : Contents) (g h : Graph) (workers others : ℕ) (log : Bool) (left other : Leaves) (text written : List ℕ) → g ≡ h → ReportsSensors contents g → IsRun contents g workers Paced log left text → IsRun contents h others Paced log other written →
    (text ≡ written) × (left.misses ≡ other.misses) × ((i : ℕ) → histories_of left.platforms i ≡ histories_of other.platforms i)
over_graph contents g h workers others log left other text written same files a b =
    let graphs : a.plan.graph ≡ b.plan.graph = a.graph ∙ same ∙ sym b.graph in
    let reported : ReportsSensors contents a.plan.graph = subst (ReportsSensors contents) (sym a.graph) files in
    let c = run_clocks workers Paced left in
    let d = run_clocks others Paced other in
    let texts = finished_agree contents c d a.plan b.plan log left.platforms other.platforms left.misses other.misses text written refl refl graphs reported a.finished b.finished in
    (texts.0, texts.1, (left_agree contents c d a.plan b.plan left.platforms other.platforms None None refl refl graphs reported a.finished.run b.finished.run).0)

pub runs_agree : RunsAgree
runs_agree workers others log contents blocks graph_file left other text written all (g, read, run) (h, read2, run2) =
    let one = defined blocks graph_file (contents graph_file.name) all.bytes g all.reported read in
    let two = defined blocks graph_file (contents graph_file.name) all.bytes h all.reported read2 in
    over_graph contents g h workers others log left other text written (same_ok g h (sym one ∙ two)) (all.files g one) run run2
