-- What always holds of a station, and what a visit does.
use Rattle.std.specs.Prelude.{◌≡◌, ◌<◌, ◌≤◌, ◌++◌, ◌⊎◌, [], ◌∷◌, ℕ, ◌+◌, List, Option, Some, Result, Ok, Err, length}
use Rattle.atomic_table.specs.Seated.{TableId}
use Rattle.pt_types.specs.declared.graph.Graph.{Graph}
use Rattle.pt_types.specs.declared.firing.Done.{Done}
use Rattle.pt_types.specs.declared.firing.Task.{Task}
use Rattle.pt_semantics.specs.Lists.{Each}
use Rattle.pt_offsets.specs.Plans.{Parts}
use Rattle.pt_turn.specs.Posts.Posted.{AreDone}
use Rattle.pt_board.specs.Keepers.{BoardView, HasCollected, IsAllOut, KeeperView, SawNoneDone, out_at}
use Rattle.pt_pool.specs.declared.linked.VisitFault.{VisitFault}
use Rattle.pt_pool.specs.declared.linked.VisitFault.TheVariants.{Turn, Memory}
use Rattle.pt_pool.specs.Answers.{AnswersVisit, LinkedRefused}
use Rattle.pt_pool.specs.LinkedPlatform.{LinkedPlatformView, plan_graph}

-- its linked platform, the keeper of its board, and the results that wait for the next visit
pub record StationView : Type 0 where
  pub linked : LinkedPlatformView
  pub keeper : KeeperView
  pub results : List Done

-- the keeper is that of the platform's board in this run, its tasks are of the run's graph, it placed no more tasks than the
-- platform claimed, and each waiting result is what the kind of its task's actor computes
pub record IsStation (plan : Option Parts) (table : ℕ → TableId) (board : BoardView) (linked : LinkedPlatformView) (keeper : KeeperView) (results : List Done) : Type 0 where
  pub of_board : keeper.table ≡ board.table
  pub named : keeper.table ≡ table linked.platform.number
  pub graph : keeper.knows.graph ≡ Some (plan_graph plan)
  pub few : keeper.next ≤ linked.platform.claims
  pub done : AreDone (plan_graph plan) results

-- these results were collected, one after another, each from the slot in which its task was out
abbrev pub Collects : KeeperView → List Done → KeeperView → Type 0
Collects old [] new = new ≡ old
Collects old (d ∷ ds) new = (mid : KeeperView) × HasCollected old mid d × Collects mid ds new

-- these results were collected: 32, or fewer, and then none was found done
pub record HaveCollected (old new : KeeperView) (results : List Done) : Type 0 where
  pub after : KeeperView
  pub each : Collects old results after
  pub until : ((new ≡ after) × (length results ≡ 32)) ⊎ SawNoneDone after new

-- the task is out in a slot
abbrev pub IsOut : KeeperView → Task → Type 0
IsOut v task = (slot number : ℕ) × (slot < 32) × (out_at slot v.knows ≡ Some (number, task))

-- the first of these tasks, in order, are each out in a slot, and the others were left; tasks were left only if no slot is free
pub record HavePlaced (tasks : List Task) (old new : KeeperView) (handed now : List Task) : Type 0 where
  pub out : List Task
  pub left : List Task
  pub parted : tasks ≡ out ++ left
  pub placed : Each (IsOut new) out
  pub added : now ≡ handed ++ left
  pub full : (left ≡ []) ⊎ IsAllOut new
  pub stays : (i : ℕ) (x : ℕ × Task) → out_at i old.knows ≡ Some x → out_at i new.knows ≡ Some x
  pub next : new.next ≡ old.next + length out
  pub graph : new.knows.graph ≡ old.knows.graph
  pub table : new.table ≡ old.table

-- a visit of a station: results were collected, the linked platform was visited with those that waited and then these, what it claimed
-- was placed, and no result waits
pub record StationVisited (result : Result (Unit {0}) VisitFault) (most : ℕ) (g : Graph) (old new : LinkedPlatformView) (was now : KeeperView) (kept waits : List Done) (handed left : List Task) : Type 0 where
  pub collected : List Done
  pub mid : KeeperView
  pub got : HaveCollected was mid collected
  pub done : AreDone g collected
  pub claimed : List Task
  pub visited : AnswersVisit result most (kept ++ collected) old new [] claimed
  pub placed : HavePlaced claimed mid now handed left
  pub none : waits ≡ []

-- memory ran out: its platform made no turn, and what was collected waits for the next visit
pub record StationRefused (g : Graph) (old new : LinkedPlatformView) (was now : KeeperView) (kept waits : List Done) (handed left : List Task) : Type 0 where
  pub collected : List Done
  pub got : HaveCollected was now collected ⊎ ((now ≡ was) × (collected ≡ []))
  pub done : AreDone g collected
  pub waiting : waits ≡ kept ++ collected
  pub refused : LinkedRefused old new [] []
  pub tasks : left ≡ handed

abbrev pub StationAnswers : Result (Unit {0}) VisitFault → ℕ → Graph → LinkedPlatformView → LinkedPlatformView → KeeperView → KeeperView → List Done → List Done → List Task → List Task → Type 0
StationAnswers (Ok x) most g old new was now kept waits handed left = StationVisited (Ok x) most g old new was now kept waits handed left
StationAnswers (Err (Turn fault)) most g old new was now kept waits handed left = StationVisited (Err (Turn fault)) most g old new was now kept waits handed left
StationAnswers (Err Memory) most g old new was now kept waits handed left = StationRefused g old new was now kept waits handed left
