-- The claims of finished platforms.
use Rattle.std.specs.Prelude.{◌≡◌, [], ℕ, List, Some, flat_map, slice_get}
use Rattle.pt_types.specs.declared.firing.ActorFiring.{ActorFiring}
use Rattle.pt_types.specs.declared.firing.Task.{Task}
use Rattle.pt_types.specs.declared.graph.Unit.{Unit}
use Rattle.pt_types.specs.declared.rows.Row.{Row}
use Rattle.pt_semantics.specs.History.{IsLegal}
use Rattle.pt_semantics.specs.Linked.{AreLinked, IsFinished, all_claims}
use Rattle.pt_semantics.specs.Meaning.{IsMeaning}
use Rattle.pt_semantics.specs.Parts.{AreTheFirings, parts}
use Rattle.pt_semantics.specs.Rows.{FitRows}
use Rattle.pt_semantics.specs.Tables.{tables_text}
use Rattle.pt_semantics.specs.Turn.{Turn}
use Rattle.pt_causality.specs.Ranked.{rank_of}
use Rattle.pt_offsets.specs.Plans.{Parts}
use Rattle.pt_turn.specs.Platforms.{PlatformView, level_at, rows_at, state_at}
use Rattle.pt_turn.specs.All.{AreAll, histories_of}

-- all platforms of a plan, opened with the rows of a run, are finished, and took everything that was sent
pub record HaveFinished (plan : Parts) (rows : ℕ → List Row) (platforms : List PlatformView) : Type 0 where
  pub all : AreAll plan rows platforms
  pub fit : FitRows plan.graph rows
  pub finished : (i : ℕ) (v : PlatformView) → slice_get platforms i ≡ Some v → IsFinished plan.graph i (state_at v)
  pub linked : AreLinked plan.graph (histories_of platforms)

-- the firings and the claims agree: each unit's claims are, in order, its parts of the firings, with the same tags, inputs,
-- states and outputs; each claim is a part of one of its actor's firings, and each input of a firing is claimed
pub record AgreeOnClaims (plan : Parts) (platforms : List PlatformView) (firings : List ActorFiring) : Type 0 where
  pub units : (u : Unit) → all_claims plan.graph (histories_of platforms) u ≡ parts plan.graph firings u
  pub actors : AreTheFirings plan.graph (all_claims plan.graph (histories_of platforms)) firings

-- the text is the tables of the meaning
pub record AreTables (plan : Parts) (rows : ℕ → List Row) (text : List ℕ) : Type 0 where
  pub firings : List ActorFiring
  pub meaning : IsMeaning plan.graph (rank_of plan.ranks) rows firings
  pub written : text ≡ tables_text plan.graph firings

-- a task as a firing of its actor, as far as a table needs it
abbrev pub by_task : Task → ActorFiring
by_task task = record { actor = task.actor; tag = task.tag; inputs = task.inputs; before = task.state; after = task.state; outputs = [] }

-- all tasks claimed by a platform
abbrev pub claimed_tasks : PlatformView → List Task
claimed_tasks v = flat_map (λ (turn : Turn). turn.claimed) v.turns

-- the recorded turns of a platform are a legal history
abbrev pub IsItsHistory : PlatformView → Type 0
IsItsHistory v = IsLegal v.plan.graph (level_at v) v.number (rows_at v) v.turns (state_at v)

-- the recorded turns of each of these platforms are a legal history
abbrev pub AreLegal : List PlatformView → Type 0
AreLegal platforms = (i : ℕ) (v : PlatformView) → slice_get platforms i ≡ Some v → IsItsHistory v
