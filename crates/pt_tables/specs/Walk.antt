-- A walk through the turns of a history.
use Rattle.std.specs.Prelude.{◌≡◌, ◌+◌, ◌/◌, ℕ, List, Some, flat_map, length, slice_get, take}
use Rattle.pt_semantics.specs.Turn.{Turn}
use Rattle.pt_history.specs.Levels.{AreTurnLevels}
use Rattle.pt_tables.specs.declared.walk.Counts.{Counts}
use Rattle.pt_tables.specs.declared.walk.Walk.{Walk}

-- a walk has come to turn n
pub record IsAtTurn (turns : List Turn) (n : ℕ) (walk : Walk) : Type 0 where
  pub levels : AreTurnLevels turns (n / 64) walk.levels
  pub results : walk.results ≡ length (flat_map (λ (turn : Turn). turn.posted) (take n turns))
  pub claims : walk.claims ≡ length (flat_map (λ (turn : Turn). turn.claimed) (take n turns))

-- the turn before turn n, if there is one, has this last reading
abbrev pub IsLastBefore : List Turn → ℕ → ℕ → Type 0
IsLastBefore turns n last = (k : ℕ) (turn : Turn) → k + 1 ≡ n → slice_get turns k ≡ Some turn → turn.last ≡ last

-- there are as many results and claims up to the end of turn n
pub record AreThrough (turns : List Turn) (n : ℕ) (counts : Counts) : Type 0 where
  pub results : counts.results ≡ length (flat_map (λ (turn : Turn). turn.posted) (take (n + 1) turns))
  pub claims : counts.claims ≡ length (flat_map (λ (turn : Turn). turn.claimed) (take (n + 1) turns))
