-- What an engine asks all platforms, and what it makes for them at the start.
use Rattle.std.specs.Prelude.{◌≡◌, ◌<◌, ℕ, List, None, Option, Some, map, slice_get}
use Rattle.std.specs.Global.{Vec}
use Rattle.pt_types.specs.declared.firing.Done.{Done}
use Rattle.pt_types.specs.declared.graph.Graph.{Graph}
use Rattle.pt_semantics.specs.History.{IsLegal}
use Rattle.pt_semantics.specs.Linked.{IsFinished}
use Rattle.pt_turn.specs.declared.fault.TurnFault.{TurnFault}
use Rattle.pt_turn.specs.Platforms.{PlatformView, level_at, rows_at, state_at}
use Rattle.pt_turn.specs.Running.{Shows}

-- the recorded turns of each platform are a legal history
abbrev pub HaveLegalHistories : List PlatformView → Type 0
HaveLegalHistories platforms = (i : ℕ) (v : PlatformView) → slice_get platforms i ≡ Some v → IsLegal v.plan.graph (level_at v) v.number (rows_at v) v.turns (state_at v)

-- all platforms are finished
abbrev pub AreAllFinished : List PlatformView → Type 0
AreAllFinished platforms = (i : ℕ) (v : PlatformView) → slice_get platforms i ≡ Some v → IsFinished v.plan.graph v.number (state_at v)

-- no platform has a fault
abbrev pub HaveNoFault : List PlatformView → Type 0
HaveNoFault platforms = (i : ℕ) (v : PlatformView) → slice_get platforms i ≡ Some v → v.fault ≡ None

-- the first platform with a fault has this number and this fault, and its turns show the fault
pub record IsFirstFault (platforms : List PlatformView) (fault : ℕ × TurnFault) : Type 0 where
  pub place : ℕ
  pub view : PlatformView
  pub at : slice_get platforms place ≡ Some view
  pub number : fault.0 ≡ view.number
  pub is : view.fault ≡ Some fault.1
  pub shows : Shows view.plan.graph view.turns (state_at view) fault.1
  pub before : (j : ℕ) (w : PlatformView) → j < place → slice_get platforms j ≡ Some w → w.fault ≡ None

-- with no fault, no platform has one and all are finished; otherwise this platform has this fault, its turns show it, and no
-- platform before it has one
abbrev pub EndsAt : Graph → List PlatformView → Option (ℕ × TurnFault) → Type 0
EndsAt g platforms None = (i : ℕ) (v : PlatformView) → slice_get platforms i ≡ Some v → (v.fault ≡ None) × IsFinished g i (state_at v)
EndsAt g platforms (Some f) = (v : PlatformView) × (slice_get platforms f.0 ≡ Some v) × (v.fault ≡ Some f.1) × Shows g v.turns (state_at v) f.1 × ((j : ℕ) (w : PlatformView) → j < f.0 → slice_get platforms j ≡ Some w → w.fault ≡ None)

-- the items of each vector
abbrev pub result_lists : List (Vec Done) → List (List Done)
result_lists vectors = map (λ (v : Vec Done). v.items) vectors
