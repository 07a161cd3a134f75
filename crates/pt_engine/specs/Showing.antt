-- The effect of one visit on the platforms, pipes and pending results of an engine.
use Rattle.std.specs.Prelude.{◌≡◌, ◌-◌, ◌<◌, ◌^◌, ◌++◌, [], ℕ, List, Some, false, length, set, slice_get}
use Rattle.pt_tags.specs.declared.message.Message.{Message}
use Rattle.pt_types.specs.declared.firing.Done.{Done}
use Rattle.pt_types.specs.declared.graph.Graph.{Graph}
use Rattle.pt_types.specs.declared.graph.Link.{Link}
use Rattle.pt_types.specs.declared.rows.Row.{Row}
use Rattle.pt_types.specs.Lookups.{platform_of}
use Rattle.pt_semantics.specs.History.{LegalOnTime}
use Rattle.pt_semantics.specs.Linked.{all_sent, all_taken}
use Rattle.pt_semantics.specs.Orderly.{IsOrderly}
use Rattle.pt_semantics.specs.Platform.{opened}
use Rattle.pt_semantics.specs.Rows.{FitRows}
use Rattle.pt_semantics.specs.Turn.{Turn}
use Rattle.pt_semantics.specs.Visits.{IsVisit, VisitRecord, RunState, run_at_start}
use Rattle.pt_causality.specs.Ranked.{level_of}
use Rattle.pt_offsets.specs.Plans.{IsAdmitted, Parts}
use Rattle.pt_turn.specs.All.{AreReady}
use Rattle.pt_turn.specs.Platforms.{PlatformView, level_at, raised_to, state_at}
use Rattle.pt_turn.specs.Turned.{MayCome, is_late}
use Rattle.pt_visits.specs.Pipes.{arriving}
use Rattle.pt_visits.specs.Visited.{IsVisited}
use Rattle.pt_fixed_order_laws.specs.Sound.{SendsNothingElse}
use Rattle.pt_engine.specs.Asked.{HaveLegalHistories}
use Rattle.pt_engine.specs.Shown.{ArePending, AreShown, AreThere, is_fault}

-- all platforms before a visit of platform i, however they were made: it took no late message so far, and what was sent to it
-- is orderly. Behind the messages on their way there may be others, which the visit does not see
pub record OnTimeSoFar (g : Graph) (level : ℕ → ℕ) (rows : ℕ → List Row) (i : ℕ) (x : RunState) : Type 0 where
  pub legal : LegalOnTime g level i (opened g i rows) (x.did i) (x.at i)
  pub own : SendsNothingElse g i (x.at i)
  pub orderly : (l : ℕ) (link : Link) → slice_get g.links l ≡ Some link → platform_of g link.to ≡ i → IsOrderly g level link (all_sent l (x.did (platform_of g link.from)))
  pub linked : (l : ℕ) (link : Link) → slice_get g.links l ≡ Some link → platform_of g link.to ≡ i →
      (behind : List Message) × (all_sent l (x.did (platform_of g link.from)) ≡ (all_taken l (x.did i) ++ x.on_way l) ++ behind)

-- a visit at reading r, and what the platforms, pipes and results represent after it. If a message was late the run is over:
-- nothing is said of the pipes
pub record ShowsVisit (plan : Parts) (rows : ℕ → List Row) (most : ℕ) (room : ℕ → ℕ) (r i : ℕ) (x : RunState) (w : PlatformView) (turn : Turn) (platforms : List PlatformView) (piped : List (List Message)) (results : List (List Done)) : Type 0 where
  pub made : VisitRecord
  pub together : RunState
  pub platform : made.platform ≡ i
  pub turn_is : made.turn ≡ turn
  pub late : made.late ≡ is_late w.fault
  pub fault : made.fault ≡ is_fault w.fault
  pub makes : IsVisit plan.graph (level_of plan.ranks) most room r x made together
  pub there : AreThere plan rows together platforms
  pub pending : ArePending plan.graph platforms results
  pub shown : is_late w.fault ≡ false → AreShown plan rows together platforms piped results

-- the room of the pipes of the links that lead from platform i
abbrev pub IsRoomFrom : Graph → ℕ → RunState → (ℕ → ℕ) → Type 0
IsRoomFrom g i x room = (l : ℕ) (link : Link) → slice_get g.links l ≡ Some link → platform_of g link.from ≡ i → room l ≡ 64 - length (x.on_way l)

-- platforms just opened, empty pipes and no pending results represent the start
abbrev pub StartShows : Type 0
StartShows = (plan : Parts) (rows : ℕ → List Row) (platforms : List PlatformView) (pipes : List (List Message)) (results : List (List Done)) → AreReady plan rows platforms →
    HaveLegalHistories platforms →
    length pipes ≡ length plan.graph.links → ((l : ℕ) (pipe : List Message) → slice_get pipes l ≡ Some pipe → pipe ≡ []) →
    length results ≡ length platforms → ((i : ℕ) (dones : List Done) → slice_get results i ≡ Some dones → dones ≡ []) →
    AreShown plan rows (run_at_start plan.graph rows) platforms pipes results

-- a platform may take the messages that are on their way to it
abbrev pub MayComeTo : Type 0
MayComeTo = (plan : Parts) (rows : ℕ → List Row) (x : RunState) (platforms : List PlatformView) (pipes : List (List Message)) (results : List (List Done)) → IsAdmitted plan → FitRows plan.graph rows → AreShown plan rows x platforms pipes results → (i : ℕ) (v : PlatformView) → slice_get platforms i ≡ Some v → OnTimeSoFar plan.graph (level_of plan.ranks) rows i x →
    MayCome v.plan.graph (level_at v) v.number (state_at v) (arriving v.plan.graph v.number 0 pipes)

-- a visit by an engine is a visit by the definitions
abbrev pub VisitShows : Type 0
VisitShows = (plan : Parts) (rows : ℕ → List Row) (x : RunState) (platforms : List PlatformView) (pipes : List (List Message)) (results : List (List Done)) → IsAdmitted plan → FitRows plan.graph rows → AreShown plan rows x platforms pipes results → (most c i : ℕ) (v w : PlatformView) (dones next : List Done) (piped : List (List Message)) → slice_get platforms i ≡ Some v → slice_get results i ≡ Some dones → OnTimeSoFar plan.graph (level_of plan.ranks) rows i x →
    (room : ℕ → ℕ) → IsRoomFrom plan.graph i x room → raised_to v.reading c < 2 ^ 64 →
    (visited : IsVisited most c dones next v w pipes piped) → ShowsVisit plan rows most room (raised_to v.reading c) i x w visited.turn (set platforms i w) piped (set results i next)
