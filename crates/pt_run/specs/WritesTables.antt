-- The corollary that is read first: what a run has written that ended with status 0 or 5.
use Rattle.std.specs.Prelude.{◌≡◌, ℕ, false, List, Option, None, Some}
use Rattle.pt_io.specs.Calls.{Contents, SinkCall}
use Rattle.pt_io.specs.Causes.{Appends}
use Rattle.pt_types.specs.declared.firing.ActorFiring.{ActorFiring}
use Rattle.pt_types.specs.declared.graph.Graph.{Graph}
use Rattle.pt_types.specs.declared.rows.Row.{Row}
use Rattle.pt_semantics.specs.Meaning.{IsMeaning}
use Rattle.pt_semantics.specs.Ranks.{AreRanks}
use Rattle.pt_semantics.specs.Tables.{tables_text}
use Rattle.pt_blocks.specs.declared.blocks.Named.{Named}
use Rattle.pt_words.specs.declared.orders.ClockChoice.{ClockChoice}
use Rattle.pt_words.specs.declared.orders.Command.TheVariants.{Run}
use Rattle.pt_words.specs.Grammar.{GraphFile, over}
use Rattle.pt_run.specs.declared.fault.Fault.{Fault}
use Rattle.pt_run.specs.OverFiles.{HasHeadline, inputs_of}
use Rattle.pt_run.specs.Written.{Leaves}

-- the tables of the meaning of a graph and rows were put
pub record PutsTablesOf (g : Graph) (rows : ℕ → List Row) (w : SinkCall) : Type 0 where
  pub rank : ℕ → ℕ
  pub ranks : AreRanks g rank
  pub firings : List ActorFiring
  pub meaning : IsMeaning g rank rows firings
  pub written : Appends w.written_before w.written_now (tables_text g firings)

-- a run by whatever clock and number of workers that ended without a fault has put the tables of the graph that its file defines, over
-- the rows that its sensors' files have
abbrev pub WritesTables : Type 0
WritesTables =
    (contents : Contents) (blocks : List Named) (workers : ℕ) (clock : ClockChoice) (graph_file : GraphFile) (outcome : Option Fault) (left : Leaves) (w : SinkCall)
    → HasHeadline outcome left (Some (over (Run workers clock false) graph_file)) contents blocks w → outcome ≡ None
    → (g : Graph) × (rows : ℕ → List Row) × (inputs_of contents blocks).graph graph_file g × (inputs_of contents blocks).rows g rows × PutsTablesOf g rows w
