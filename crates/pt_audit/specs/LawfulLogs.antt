-- What a log must be: the tables of the meaning, and then the log of finished platforms that took all that was sent.
use Rattle.std.specs.Prelude.{◌≡◌, ◌<◌, ◌≤◌, ◌++◌, [], ℕ, List, length, slice_index_or}
use Rattle.pt_types.specs.declared.firing.ActorFiring.{ActorFiring}
use Rattle.pt_types.specs.declared.rows.Row.{Row}
use Rattle.pt_semantics.specs.History.{IsLegal}
use Rattle.pt_semantics.specs.Linked.{AreLinked, IsFinished}
use Rattle.pt_semantics.specs.Lists.{Each}
use Rattle.pt_semantics.specs.Meaning.{IsMeaning}
use Rattle.pt_semantics.specs.Platform.{State}
use Rattle.pt_semantics.specs.Tables.{tables_text}
use Rattle.pt_semantics.specs.Turn.{Turn}
use Rattle.pt_causality.specs.Ranked.{level_of, rank_of}
use Rattle.pt_offsets.specs.Plans.{Parts}
use Rattle.pt_tables.specs.Log.{log_text}
use Rattle.pt_audit.specs.Limits.{log_limit}
use Rattle.pt_audit.specs.Parsing.Hints.{IsLoggable}

-- the history of platform i; none past the last
abbrev pub history_in : List (List Turn) → ℕ → List Turn
history_in histories i = slice_index_or histories i []

-- the file is a lawful log of this plan over these rows
pub record IsLawfulLog (plan : Parts) (rows : ℕ → List Row) (bytes : List ℕ) : Type 0 where
  pub short : length bytes ≤ log_limit plan.graph.claims
  -- each platform of the graph has a legal history that leads to a state in which it is finished
  pub histories : List (List Turn)
  pub all : length histories ≡ length plan.graph.platforms
  pub ends : ℕ → State
  pub legal : (i : ℕ) → i < length plan.graph.platforms → IsLegal plan.graph (level_of plan.ranks) i rows (history_in histories i) (ends i)
  pub finished : (i : ℕ) → i < length plan.graph.platforms → IsFinished plan.graph i (ends i)
  -- on each link all that was sent was taken
  pub linked : AreLinked plan.graph (history_in histories)
  -- 64 bits hold the numbers in the turns, also the values of messages
  pub held : (i : ℕ) → i < length plan.graph.platforms → Each (IsLoggable plan.graph i) (history_in histories i)
  -- the text is the tables of the meaning and the log of these histories
  pub firings : List ActorFiring
  pub meaning : IsMeaning plan.graph (rank_of plan.ranks) rows firings
  pub text : bytes ≡ tables_text plan.graph firings ++ log_text plan.graph histories
