-- Claims and their results, stored flat.
use Rattle.std.specs.Prelude.{◌≡◌, ◌<◌, ◌≤◌, ◌++◌, ℕ, List, [], ◌∷◌, length, Option, ℤ, slice_index_or}
use Rattle.pt_types.specs.declared.firing.Done.{Done}
use Rattle.pt_types.specs.declared.firing.Task.{Task}
use Rattle.pt_history.specs.declared.sources.Source.{Source}
use Rattle.pt_history.specs.declared.sources.Source.TheVariants.{Claim, Other}
use Rattle.pt_history.specs.Cells.{ports_in, state_in}
use Rattle.pt_history.specs.Tasks.{no_task}

-- claims and results, and the room left for more of each
pub record RoomyWork : Type 0 where
  pub tasks : List Task
  pub dones : List Done
  pub spare_tasks : ℕ
  pub spare_dones : ℕ

-- the task of a result: that of a claim, or one of the others
abbrev pub task_at : List Task → List Task → Source → Task
task_at claims others (Claim number) = slice_index_or claims number no_task
task_at claims others (Other number) = slice_index_or others number no_task

-- the result with this task and these cells
abbrev pub done_of : Task → List (Option ℤ) → Done
done_of task cells = record { task = task; fired = record { state = state_in cells; outputs = ports_in cells } }

-- the results with these tasks and cells
abbrev pub dones_of : List Task → List Task → List Source → List (List (Option ℤ)) → List Done
dones_of claims others [] cells = []
dones_of claims others (s ∷ sources) [] = []
dones_of claims others (s ∷ sources) (c ∷ cells) = done_of (task_at claims others s) c ∷ dones_of claims others sources cells

-- there are that many claims and others at least
abbrev pub SourcesAreWithin : ℕ → ℕ → List Source → Type 0
SourcesAreWithin claims others [] = Unit {0}
SourcesAreWithin claims others (Claim number ∷ sources) = (number < claims) × SourcesAreWithin claims others sources
SourcesAreWithin claims others (Other number ∷ sources) = (number < others) × SourcesAreWithin claims others sources

-- a task is stored at a source, where at most one other is new
pub record IsStored (claims old new : List Task) (task : Task) (source : Source) : Type 0 where
  pub more : List Task
  pub grows : new ≡ old ++ more
  pub few : length more ≤ 1
  pub within : SourcesAreWithin (length claims) (length new) (source ∷ [])
  pub is : task_at claims new source ≡ task
