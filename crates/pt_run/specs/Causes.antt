-- A cause that several commands share, and what a call writes.
use Rattle.std.specs.Prelude.{◌*◌, ℕ, List, length}
use Rattle.pt_types.specs.declared.graph.Graph.{Graph}
use Rattle.pt_types.specs.declared.rows.Row.{Row}
use Rattle.pt_run.specs.Written.{IsTooLong}

-- the meaning has more firings than the graph's number of claims times the number of platforms
abbrev pub IsTooLongForAll : Graph → (ℕ → List Row) → Type 0
IsTooLongForAll g rows = IsTooLong g rows (g.claims * length g.platforms)
