-- A turn, run and recorded.
use Rattle.std.specs.Prelude.{◌≡◌, ℕ, ◌<◌, ◌≤◌, ◌++◌, List, Option, Some, length}
use Rattle.pt_types.specs.declared.firing.Done.{Done}
use Rattle.pt_types.specs.declared.firing.OnLink.{OnLink}
use Rattle.pt_types.specs.declared.firing.Task.{Task}
use Rattle.pt_semantics.specs.Kept.{kept_with}
use Rattle.pt_semantics.specs.Paced.{IsClosing}
use Rattle.pt_semantics.specs.Turn.{Turn}
use Rattle.pt_offsets.specs.Plans.{Parts}
use Rattle.pt_turn.specs.declared.state.fields.Fields.{Fields}
use Rattle.pt_turn.specs.Fields.State.{IsSound}
use Rattle.pt_turn.specs.Posts.Posted.{AreDone}
use Rattle.pt_turn.specs.Fields.Sensors.{AreSensors}
use Rattle.pt_turn.specs.Takes.Taken.{Arrive, Basis}
use Rattle.pt_history.specs.declared.room.HistoryRoom.{HistoryRoom}
use Rattle.pt_turn.specs.declared.claim_step.TurnEnd.{TurnEnd}
use Rattle.pt_turn.specs.declared.steps.Lists.{Lists}
use Rattle.pt_turn.specs.Steps.{AreEmpty, HasRoom, IsGround, IsMade, ShowsEnd, count_due, turn_of}
use Rattle.pt_turn.specs.declared.fault.TurnFault.{TurnFault}
use Rattle.pt_turn.specs.Faults.{IsFaultOf}

-- what a turn at reading r requires
pub record IsReady (plan : Parts) (w : Basis) (number close_at r n : ℕ) (results : List Done) (messages : List OnLink) (f : Fields) (lists : Lists) : Type 0 where
  pub sound : IsSound plan.graph f
  pub sensors : AreSensors plan.graph f.sensors.items
  pub goes_on : IsGround plan.graph w f
  pub platform : w.platform ≡ number
  pub closing : IsClosing plan.graph number close_at
  pub rises : (p : ℕ) → f.reading ≡ Some p → p ≤ r
  pub dones : AreDone plan.graph results
  pub arrive : Arrive plan.graph w messages
  pub most : (1 ≤ n) × (n ≤ 64)
  pub claims : f.claims ≤ plan.graph.claims
  pub room : HasRoom plan.graph f lists r (length results) (length messages) n
  pub empty : AreEmpty lists

-- a history has room for the turn
pub record CanKeep (plan : Parts) (r dones messages most : ℕ) (f : Fields) (room : HistoryRoom) : Type 0 where
  pub turns : 0 < room.turns
  pub posted : dones ≤ room.posted
  pub rows : count_due plan.graph r f ≤ room.rows
  pub taken : messages ≤ room.taken
  pub claimed : most ≤ room.claimed

-- the turn was made and recorded, its claims were appended to the tasks, and this is its fault
pub record IsRecordedTurn (plan : Parts) (w : Basis) (r most : ℕ) (dones : List Done) (messages : List OnLink) (old new : Fields) (before after : List Turn) (handed now : List Task) (fault : Option TurnFault) : Type 0 where
  pub lists : Lists
  pub ending : TurnEnd
  pub made : IsMade plan.graph w r most dones messages old new lists ending
  pub full : ShowsEnd plan.graph r new ending
  pub names : IsFaultOf plan.graph old.reading lists.taken.items ending fault
  pub turns : after ≡ kept_with before (turn_of r dones lists)
  pub tasks : now ≡ handed ++ lists.claimed.items
