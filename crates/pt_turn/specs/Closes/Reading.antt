-- When an actor allows its platform to close.
use Rattle.std.specs.Prelude.{ℕ, ◌+◌, Option, None, Some}
use Rattle.pt_types.specs.declared.graph.Graph.{Graph}
use Rattle.pt_semantics.specs.Bounds.{bound_of}

-- the first reading past a horizon plus a bound; 0 if there is no bound
abbrev pub past : ℕ → Option ℕ → ℕ
past until None = 0
past until (Some b) = until + b + 1

-- the first reading past the horizon plus the bound of actor a; 0 if it has none
abbrev pub closes_after : Graph → ℕ → ℕ
closes_after g a = past g.until (bound_of g a)
