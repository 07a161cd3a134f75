-- Edges that the program can follow.
use Rattle.std.specs.Prelude.{◌≡◌, ℕ, ◌<◌, ◌≤◌}
use Rattle.pt_types.specs.declared.graph.Edge.{Edge}

-- an edge adds at most one step
abbrev pub AddsOneStep : Edge → Type 0
AddsOneStep e = e.weight.step ≤ 1

-- an edge leaves this actor
abbrev pub LeavesActor : ℕ → Edge → Type 0
LeavesActor actor e = e.from ≡ actor

-- an edge leads to one of that many actors, at one of eight ports, and adds at most one step
pub record IsUsable (actors : ℕ) (e : Edge) : Type 0 where
  pub to : e.to < actors
  pub port : e.input < 8
  pub step : AddsOneStep e
