-- Runs of a graph with its least slacks.
use Rattle.std.specs.Prelude.{◌≡◌, [], ℕ, Bool, List, Ok, Option, Some, flat_map}
use Rattle.pt_types.specs.declared.graph.Graph.{Graph}
use Rattle.pt_types.specs.declared.rows.Row.{Row}
use Rattle.pt_blocks.specs.declared.blocks.Named.{Named}
use Rattle.pt_causality.specs.Ranked.{level_of}
use Rattle.pt_offsets.specs.Plans.{Parts}
use Rattle.pt_turn.specs.declared.fault.TurnFault.{TurnFault}
use Rattle.pt_turn.specs.Platforms.{PlatformView}
use Rattle.pt_monitors.specs.Platforms.{missed_by}
use Rattle.pt_rounds.specs.Outcome.{IsOutcome as IsPacedOutcome}
use Rattle.pt_slacks.specs.Slacks.{AreLeastSlacks, with_slacks}
use Rattle.pt_io.specs.Calls.{Contents}
use Rattle.pt_words.specs.declared.orders.ClockChoice.TheVariants.{Paced}
use Rattle.pt_run.specs.Written.{GraphWith, IsRun, Leaves}
use Rattle.pt_run.specs.GraphFiles.{graph_by}
use Rattle.pt_words.specs.Grammar.{GraphFile}

-- a paced run of a graph with its least slacks misses nothing, whatever its rows, whether it finishes or a platform made all the
-- claims that it may make
abbrev pub SlackRoundsMissNothing : Type 0
SlackRoundsMissNothing = (g : Graph) (slack : ℕ → ℕ) (plan : Parts) (rows : ℕ → List Row) (platforms : List PlatformView) (fault : Option (ℕ × TurnFault)) → AreLeastSlacks g slack →
    plan.graph ≡ with_slacks g slack → IsPacedOutcome plan (level_of plan.ranks) rows platforms fault → flat_map missed_by platforms ≡ []

-- so a paced `run` that writes all, over a file that defines the graph with these slacks, ends without misses
abbrev pub SlackRunsMissNothing : Type 0
SlackRunsMissNothing = (g : Graph) (slack : ℕ → ℕ) (workers : ℕ) (log : Bool) (contents : Contents) (blocks : List Named) (graph_file : GraphFile) (bytes text : List ℕ) (left : Leaves) → AreLeastSlacks g slack → contents graph_file.name ≡ Some bytes → graph_by blocks graph_file bytes ≡ Ok (with_slacks g slack) →
    GraphWith contents blocks graph_file (λ h. IsRun contents h workers Paced log left text) → left.misses ≡ []
