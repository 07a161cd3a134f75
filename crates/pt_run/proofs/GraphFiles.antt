-- Graphs of graph files, by the number of claims that the command states.
use Rattle.std.proofs.Common.{◌≡◌, ◌≤◌, ℕ, List, Result, Ok, Err, ◌∙◌, take, ap, refl, subst, sym}
use Rattle.pt_types.specs.declared.graph.Graph.{Graph}
use Rattle.pt_types.specs.Lawful.{IsLawful}
use Rattle.pt_types.specs.Limits.{greatest_claims, usual_claims}
use Rattle.pt_blocks.specs.Blocks.{AreBlocks}
use Rattle.pt_blocks.specs.declared.blocks.Named.{Named}
use Rattle.pt_graph_text.specs.declared.fault.GraphFault.{GraphFault}
use Rattle.pt_graph.specs.Graphs.{whole_graph}
use Rattle.pt_graph.specs.GraphOf.{graph_of}
use Rattle.pt_graph.proofs.Fetched.{graph_of-fetched}
use Rattle.pt_graph.proofs.Joins.{graph_of-given}
use Rattle.pt_graph.proofs.Lawful.{lawful_of}
use Rattle.pt_words.specs.Grammar.{GraphFile}
use Rattle.pt_run.proofs.Complete.{ok_err, same_ok}
use Rattle.pt_run.specs.GraphFiles.{claiming, graph_by, with_claims}

-- the fault or the graph of the first bytes are those of all of them
pub graph_by-fetched : (blocks : List Named) (graph_file : GraphFile) (bytes : List ℕ) → graph_by blocks graph_file (take 1048577 bytes) ≡ graph_by blocks graph_file bytes
unfolding graph_by
graph_by-fetched blocks graph_file bytes = ap (claiming graph_file.claims) (graph_of-fetched blocks bytes)

-- a graph, or a fault, of the bytes alone
pub graph_with : (blocks : List Named) (graph_file : GraphFile) (bytes : List ℕ) (g : Graph) → graph_of blocks bytes ≡ Ok g → graph_by blocks graph_file bytes ≡ Ok (with_claims graph_file.claims g)
unfolding graph_by
graph_with blocks graph_file bytes g is = ap (claiming graph_file.claims) is

pub fault_with : (blocks : List Named) (graph_file : GraphFile) (bytes : List ℕ) (f : GraphFault) → graph_of blocks bytes ≡ Err f → graph_by blocks graph_file bytes ≡ Err f
unfolding graph_by
fault_with blocks graph_file bytes f is = ap (claiming graph_file.claims) is

-- and back
claimed : (claims : ℕ) (read : Result Graph GraphFault) (g : Graph) → claiming claims read ≡ Ok g → (h : Graph) × (read ≡ Ok h) × (g ≡ with_claims claims h)
claimed claims (Ok h) g is = (h, refl, sym (same_ok {E = GraphFault} (with_claims claims h) g is))
claimed claims (Err f) g is = absurd (ok_err g f (sym is))

pub graph_without : (blocks : List Named) (graph_file : GraphFile) (bytes : List ℕ) (g : Graph) → graph_by blocks graph_file bytes ≡ Ok g → (h : Graph) × (graph_of blocks bytes ≡ Ok h) × (g ≡ with_claims graph_file.claims h)
unfolding graph_by
graph_without blocks graph_file bytes g is = claimed graph_file.claims (graph_of blocks bytes) g is

-- a lawful graph is lawful with any number of claims that a command may state
pub lawful_with : (claims : ℕ) (g : Graph) → claims ≤ greatest_claims → IsLawful g → IsLawful (with_claims claims g)
lawful_with claims g few h = record {
  until = h.until;
  clock_error = h.clock_error;
  few_claims = few;
  some_platform = h.some_platform;
  few_platforms = h.few_platforms;
  few_actors = h.few_actors;
  few_links = h.few_links;
  few_pairs = h.few_pairs;
  few_cells = h.few_cells;
  visible = h.visible;
  few_wires = h.few_wires;
  wires = h.wires;
  platforms = h.platforms;
  actors = h.actors;
  ports = h.ports;
  links = h.links;
  pairs = h.pairs;
  other_platforms = h.other_platforms;
  other_actors = h.other_actors;
  other_pairs = h.other_pairs;
  ends = h.ends;
  home = h.home;
  fed_once = h.fed_once;
  fed = h.fed;
  linked = h.linked;
  one_link = h.one_link;
}

pub lawful_by : (blocks : List Named) (graph_file : GraphFile) (bytes : List ℕ) (g : Graph) → AreBlocks blocks → graph_file.claims ≤ greatest_claims → graph_by blocks graph_file bytes ≡ Ok g → IsLawful g
lawful_by blocks graph_file bytes g are few is =
    let (h, read, same) = graph_without blocks graph_file bytes g is in
    subst IsLawful (sym same) (lawful_with graph_file.claims h few (lawful_of blocks bytes h are read))

-- the graph of a file has the usual number of claims
usual_graph : (blocks : List Named) (bytes : List ℕ) (g : Graph) → graph_of blocks bytes ≡ Ok g → with_claims usual_claims g ≡ g
unfolding whole_graph
usual_graph blocks bytes g is =
    let given = graph_of-given blocks bytes g is in
    subst (λ (h : Graph). with_claims usual_claims h ≡ h) (sym given.graph) refl

-- so with that number the graph of a graph file is that of its bytes
pub usual_by : (blocks : List Named) (graph_file : GraphFile) (bytes : List ℕ) (g : Graph) → graph_file.claims ≡ usual_claims → graph_by blocks graph_file bytes ≡ Ok g → graph_of blocks bytes ≡ Ok g
usual_by blocks graph_file bytes g usual is =
    let (h, read, same) = graph_without blocks graph_file bytes g is in
    let one : h ≡ g = sym (usual_graph blocks bytes h read) ∙ ap (λ n. with_claims n h) (sym usual) ∙ sym same in
    read ∙ ap Ok one
