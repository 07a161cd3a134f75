-- A list of tasks, and the number of tasks that it has room for.
use Rattle.std.specs.Prelude.{ℕ, List}
use Rattle.pt_types.specs.declared.firing.Task.{Task}

pub record Roomy : Type 0 where
  pub tasks : List Task
  pub spare : ℕ
