-- What a turn claims, and how it ends.
use Rattle.std.specs.Prelude.{◌≡◌, ℕ, ◌≤◌, Bool, true, false, List}
use Rattle.pt_types.specs.declared.graph.Graph.{Graph}
use Rattle.pt_types.specs.declared.firing.Task.{Task}
use Rattle.pt_semantics.specs.Safe.{NothingSafe}
use Rattle.pt_queue.specs.Events.{waiting_in}
use Rattle.pt_turn.specs.declared.state.fields.Fields.{Fields}
use Rattle.pt_turn.specs.Fields.State.{busy_in}
use Rattle.pt_turn.specs.Claims.Claimed.{AreClaimed}
use Rattle.pt_turn.specs.declared.claim_step.TurnEnd.{TurnEnd}
use Rattle.pt_turn.specs.declared.claim_step.TurnEnd.TheVariants.{On, Late, Long}

-- no unit is safe at reading r
abbrev pub IsIdle : Graph → Fields → ℕ → Type 0
IsIdle g f r = NothingSafe g (waiting_in f.queue.events) (busy_in f.open_claims.items) r

-- how a turn without a late message ends, if all claims were made before it
abbrev pub EndsFull : Graph → Fields → ℕ → TurnEnd → Type 0
EndsFull g f r On = IsIdle g f r
EndsFull g f r Late = ⊥
EndsFull g f r Long = IsIdle g f r → ⊥

-- how a turn ends: Late with a late message; else, if all claims were made before it, Long or On by whether a unit is safe
abbrev pub EndsIn : Graph → ℕ → Fields → Fields → Bool → TurnEnd → Type 0
EndsIn g r old new late On = (late ≡ false) × (g.claims ≤ old.claims → IsIdle g new r)
EndsIn g r old new late Late = late ≡ true
EndsIn g r old new late Long = (late ≡ false) × (g.claims ≤ old.claims) × (IsIdle g new r → ⊥)

-- a late turn claims nothing; any other claims the greedy list or its first tasks, and nothing if all claims were made
pub record HasClaimed (g : Graph) (r most : ℕ) (old new : Fields) (before after : List Task) (late : Bool) (ending : TurnEnd) : Type 0 where
  pub claimed : late ≡ false → AreClaimed g r most old new before after
  pub none : late ≡ true → (new ≡ old) × (after ≡ before)
  pub ends : EndsIn g r old new late ending
