-- A result that is appended.
use Rattle.std.specs.Prelude.{◌≡◌, List, [], ◌∷◌, ◌++◌}
use Rattle.pt_types.specs.declared.kind.Kind.{Kind}
use Rattle.pt_types.specs.declared.firing.Task.{Task}
use Rattle.pt_types.specs.declared.firing.Done.{Done}
use Rattle.pt_semantics.specs.Firing.{fired}

-- these results have one more at their end: the task with what this kind gives for it
abbrev pub IsFiredOnto : Kind → Task → List Done → List Done → Type 0
IsFiredOnto kind task before after = after ≡ before ++ record { task = task; fired = fired kind task.state task.inputs } ∷ []
