-- Two runs of the same files.
use Rattle.std.specs.Prelude.{◌≡◌, ℕ, Bool, List, Ok, Some}
use Rattle.pt_types.specs.declared.graph.Graph.{Graph}
use Rattle.pt_blocks.specs.declared.blocks.Named.{Named}
use Rattle.pt_turn.specs.All.{histories_of}
use Rattle.pt_io.specs.Calls.{Contents}
use Rattle.pt_words.specs.declared.orders.ClockChoice.TheVariants.{Paced}
use Rattle.pt_run.specs.RunsAgreeing.{ReportsSensors}
use Rattle.pt_run.specs.Written.{GraphWith, IsRun, Leaves}
use Rattle.pt_run.specs.GraphFiles.{graph_by}
use Rattle.pt_words.specs.Grammar.{GraphFile}

-- the contents of the graph file and, if it defines a graph, of the file of each sensor are known
pub record ReportsAll (contents : Contents) (blocks : List Named) (graph_file : GraphFile) : Type 0 where
  pub bytes : List ℕ
  pub reported : contents graph_file.name ≡ Some bytes
  pub files : (g : Graph) → graph_by blocks graph_file bytes ≡ Ok g → ReportsSensors contents g

-- the text of a paced run, the log included, its misses and its histories depend on these files alone, not on the number of
-- workers
abbrev pub RunsAgree : Type 0
RunsAgree = (workers others : ℕ) (log : Bool) (contents : Contents) (blocks : List Named) (graph_file : GraphFile) (left other : Leaves) (text written : List ℕ) → ReportsAll contents blocks graph_file →
    GraphWith contents blocks graph_file (λ g. IsRun contents g workers Paced log left text) → GraphWith contents blocks graph_file (λ g. IsRun contents g others Paced log other written) →
    (text ≡ written) × (left.misses ≡ other.misses) × ((i : ℕ) → histories_of left.platforms i ≡ histories_of other.platforms i)
