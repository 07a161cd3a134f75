-- What is proved about the turns of platforms.
use Rattle.std.specs.Prelude.{◌≡◌, ℕ, ◌<◌, ◌≤◌, [], List, None, false}
use Rattle.pt_types.specs.declared.firing.Done.{Done}
use Rattle.pt_types.specs.declared.firing.OnLink.{OnLink}
use Rattle.pt_types.specs.declared.graph.Unit.{Unit}
use Rattle.pt_semantics.specs.Candidates.{HasMoved}
use Rattle.pt_semantics.specs.Closing.{CanClose, on_link}
use Rattle.pt_semantics.specs.Entering.{due}
use Rattle.pt_semantics.specs.History.{IsLegal}
use Rattle.pt_semantics.specs.Paced.{IsClosing, IsNextReading}
use Rattle.pt_semantics.specs.Rows.{FitRows}
use Rattle.pt_semantics.specs.Safe.{NothingSafe}
use Rattle.pt_offsets.specs.Plans.{IsAdmitted}
use Rattle.pt_turn.specs.Platforms.{PlatformView, level_at, raised_to, rows_at, state_at}
use Rattle.pt_turn.specs.Turned.{IsTurned, is_late}

-- the recorded turns of a platform are a legal history of an admitted graph, and lead to its state
pub record IsRunning (v : PlatformView) : Type 0 where
  pub admitted : IsAdmitted v.plan
  pub rows : FitRows v.plan.graph (rows_at v)
  pub legal : IsLegal v.plan.graph (level_at v) v.number (rows_at v) v.turns (state_at v)

-- a turn of an open platform at its next reading or later, without late messages, that posts the results of all open claims
-- while nothing is in an outbox: it posts, enters, claims or closes, or all claims were made before it and a unit is safe
abbrev pub PlatformsMove : Type 0
PlatformsMove = (old new : PlatformView) (reading most next : ℕ) (dones : List Done) (messages : List OnLink) → IsRunning old → (made : IsTurned old new reading most dones messages) → is_late new.fault ≡ false →
    old.closed ≡ false → ((l : ℕ) → on_link l old.outbox ≡ []) → ((u : Unit) → made.is.posted.busy u ≡ None) → IsNextReading old.plan.graph old.number (state_at old) next → next ≤ raised_to old.reading reading →
    HasMoved old.plan.graph (state_at old) made.turn made.is.ready (state_at new)

-- before its next reading, no row of a platform is due, no unit is safe, and it can't close
abbrev pub PlatformsWait : Type 0
PlatformsWait = (v : PlatformView) (next closing reading : ℕ) → IsRunning v → IsClosing v.plan.graph v.number closing → IsNextReading v.plan.graph v.number (state_at v) next → reading < next →
    ((a : ℕ) → due reading ((state_at v).left a) ≡ []) × NothingSafe v.plan.graph (state_at v).waits (state_at v).busy reading × (CanClose v.plan.graph v.number (state_at v) reading → ⊥)
