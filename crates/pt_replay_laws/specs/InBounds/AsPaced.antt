-- A recorded network within its stated bounds changes nothing: a replayed run beside the paced run.
use Rattle.std.specs.Prelude.{◌≡◌, ◌↔◌, ℕ, List}
use Rattle.pt_tags.specs.declared.tag.Tag.{Tag}
use Rattle.pt_types.specs.declared.graph.Graph.{Graph}
use Rattle.pt_types.specs.declared.graph.Unit.{Unit}
use Rattle.pt_types.specs.declared.rows.Row.{Row}
use Rattle.pt_semantics.specs.Linked.{all_claims}
use Rattle.pt_semantics.specs.Visits.{AreFinished, RunState}
use Rattle.pt_paced_laws.specs.Schedule.{HaveMissed}
use Rattle.pt_paced_laws.specs.WholeRuns.{IsEnd, kept_by}
use Rattle.pt_types.specs.declared.air.Air.{Air}
use Rattle.pt_replay_laws.specs.ReplayRounds.{IsWholeReplay}
use Rattle.pt_replay_laws.specs.ReplayState.{ReplayState}
use Rattle.pt_replay_laws.specs.InBounds.InBounds.{IsInBounds, without_arrivals}

-- both are finished, or neither is: then both ended with a fault. If they are finished they have the same claims of each unit, in
-- order, and the same missed entries at the same readings
pub record DoTheSame (g : Graph) (y z : RunState) : Type 0 where
  pub finished : AreFinished g y ↔ AreFinished g z
  pub claims : AreFinished g z → (u : Unit) → all_claims g (kept_by y) u ≡ all_claims g (kept_by z) u
  pub misses : AreFinished g z → (a : ℕ) (t : Tag) (reading limit : ℕ) → HaveMissed g (kept_by y) a t reading limit ↔ HaveMissed g (kept_by z) a t reading limit

-- a whole replayed run does the same as the paced run
abbrev pub ReplaysInBoundsAreAsPaced : Type 0
ReplaysInBoundsAreAsPaced = (g : Graph) (level : ℕ → ℕ) (air : Air) (rows : ℕ → List Row) (y : ReplayState) (z : RunState) →
    IsInBounds g level air rows → IsWholeReplay g level air rows y → IsEnd g level rows z → DoTheSame g (without_arrivals y) z
