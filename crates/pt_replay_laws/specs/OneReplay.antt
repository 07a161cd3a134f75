-- Two replays of one recording.
use Rattle.std.specs.Prelude.{◌≡◌, ℕ, List}
use Rattle.pt_types.specs.declared.graph.Graph.{Graph}
use Rattle.pt_types.specs.declared.rows.Row.{Row}
use Rattle.pt_types.specs.declared.air.Air.{Air}
use Rattle.pt_replay_laws.specs.ReplayRounds.{IsWholeReplay}
use Rattle.pt_replay_laws.specs.ReplayState.{ReplayState}

-- a graph with its rows and a recording has one whole replayed run: the same states, turns and messages, and the same turns with
-- the same faults in its last round, late messages included
abbrev pub ReplaysAreOne : Type 0
ReplaysAreOne = (g : Graph) (level : ℕ → ℕ) (air : Air) (rows : ℕ → List Row) (y z : ReplayState) → (a : IsWholeReplay g level air rows y) → (b : IsWholeReplay g level air rows z) → (y ≡ z) × (a.made ≡ b.made)
