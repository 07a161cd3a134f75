-- Claims, stored flat.
use Rattle.std.specs.Prelude.{ℕ, List, [], ◌∷◌, Option, ℤ, pos}
use Rattle.pt_types.specs.declared.firing.Task.{Task}
use Rattle.pt_history.specs.declared.claims.Mark.{Mark}
use Rattle.pt_history.specs.Cells.{ports_in, state_in}

-- claims, and the room left for more
pub record RoomyTasks : Type 0 where
  pub tasks : List Task
  pub spare : ℕ

-- a claim without its inputs and its state
abbrev pub mark_of : Task → Mark
mark_of task = record { tag = task.tag; number = task.number; actor = task.actor }

-- the claim with these cells
abbrev pub task_of_cells : Mark → List (Option ℤ) → Task
task_of_cells mark cells = record { number = mark.number; actor = mark.actor; tag = mark.tag; inputs = ports_in cells; state = state_in cells }

-- the claims with these cells
abbrev pub tasks_of_cells : List Mark → List (List (Option ℤ)) → List Task
tasks_of_cells [] cells = []
tasks_of_cells (m ∷ marks) [] = []
tasks_of_cells (m ∷ marks) (c ∷ cells) = task_of_cells m c ∷ tasks_of_cells marks cells

-- the default past the end of a list of tasks
abbrev pub no_task : Task
no_task = record { number = 0; actor = 0; tag = record { time = 0; step = 0 }; inputs = []; state = pos 0 }
