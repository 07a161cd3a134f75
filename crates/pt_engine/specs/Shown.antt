-- How an engine's platforms, pipes and results represent all platforms together, between visits.
use Rattle.std.specs.Prelude.{◌≡◌, ◌∷◌, [], ℕ, Bool, List, Option, None, Some, false, length, map, slice_get, true}
use Rattle.pt_tags.specs.declared.message.Message.{Message}
use Rattle.pt_types.specs.declared.firing.Done.{Done}
use Rattle.pt_types.specs.declared.firing.Task.{Task}
use Rattle.pt_types.specs.declared.graph.Graph.{Graph}
use Rattle.pt_types.specs.declared.graph.Unit.{Unit}
use Rattle.pt_types.specs.declared.rows.Row.{Row}
use Rattle.pt_semantics.specs.Kept.{kept}
use Rattle.pt_semantics.specs.Platform.{put_busy}
use Rattle.pt_semantics.specs.Units.{unit_of}
use Rattle.pt_semantics.specs.Visits.{NumbersRise, RunState}
use Rattle.pt_offsets.specs.Plans.{Parts}
use Rattle.pt_turn.specs.Posts.Posted.{AreDone}
use Rattle.pt_turn.specs.Fields.State.{busy_in}
use Rattle.pt_turn.specs.declared.fault.TurnFault.{TurnFault}
use Rattle.pt_turn.specs.Platforms.{PlatformView, state_at}
use Rattle.pt_turn.specs.All.{AreAll}

-- whether there is a fault
abbrev pub is_fault : Option TurnFault → Bool
is_fault None = false
is_fault (Some fault) = true

-- these are all the open claims: closing them in order leaves none
abbrev pub AreOpen : Graph → (Unit → Option Task) → List Task → Type 0
AreOpen g busy [] = (u : Unit) → busy u ≡ None
AreOpen g busy (task ∷ tasks) = (busy (unit_of g task) ≡ Some task) × AreOpen g (put_busy busy (unit_of g task) None) tasks

-- the pending results are those of all open claims, in the order of the claims
pub record AreResults (g : Graph) (v : PlatformView) (dones : List Done) : Type 0 where
  pub done : AreDone g dones
  pub open_claims : AreOpen g (busy_in v.open_claims) (map (λ (d : Done). d.task) dones)
  pub rise : NumbersRise dones

-- there is a list of pending results for each platform: those of its open claims
pub record ArePending (g : Graph) (platforms : List PlatformView) (results : List (List Done)) : Type 0 where
  pub count : length results ≡ length platforms
  pub each : (i : ℕ) (v : PlatformView) (dones : List Done) → slice_get platforms i ≡ Some v → slice_get results i ≡ Some dones → AreResults g v dones

-- the platforms, pipes and pending results represent all platforms together
pub record AreShown (plan : Parts) (rows : ℕ → List Row) (x : RunState) (platforms : List PlatformView) (pipes : List (List Message)) (results : List (List Done)) : Type 0 where
  pub all : AreAll plan rows platforms
  pub states : (i : ℕ) (v : PlatformView) → slice_get platforms i ≡ Some v → x.at i ≡ state_at v
  pub kept_turns : (i : ℕ) (v : PlatformView) → slice_get platforms i ≡ Some v → v.turns ≡ kept (x.did i)
  pub links : length pipes ≡ length plan.graph.links
  pub on_way : (l : ℕ) (pipe : List Message) → slice_get pipes l ≡ Some pipe → x.on_way l ≡ pipe
  pub nowhere_else : (l : ℕ) → slice_get pipes l ≡ None → x.on_way l ≡ []
  pub count : length results ≡ length platforms
  pub pending : (i : ℕ) (v : PlatformView) (dones : List Done) → slice_get platforms i ≡ Some v → slice_get results i ≡ Some dones → AreResults plan.graph v dones

-- the platforms alone represent them
pub record AreThere (plan : Parts) (rows : ℕ → List Row) (x : RunState) (platforms : List PlatformView) : Type 0 where
  pub all : AreAll plan rows platforms
  pub states : (i : ℕ) (v : PlatformView) → slice_get platforms i ≡ Some v → x.at i ≡ state_at v
  pub kept_turns : (i : ℕ) (v : PlatformView) → slice_get platforms i ≡ Some v → v.turns ≡ kept (x.did i)
