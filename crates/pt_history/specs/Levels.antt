-- Which neighbours of a list are equal, and what that tells of recorded turns.
use Rattle.std.specs.Prelude.{◌≡◌, ◌+◌, ◌/◌, ◌%◌, ◌^◌, ◌<◌, ℕ, [], List, Some, length, option_map, slice_get}
use Rattle.pt_semantics.specs.Turn.{Turn}
use Rattle.pt_history.specs.declared.head.Head.{Head}
use Rattle.pt_history.specs.declared.levels.HeadLevels.{HeadLevels}
use Rattle.pt_history.specs.declared.levels.Levels.{Levels}
use Rattle.pt_history.specs.declared.levels.TurnLevels.{TurnLevels}
use Rattle.pt_history.specs.Heads.{single}
use Rattle.pt_history.specs.Turns.{turn_head}

-- item n is known to be the same as the one after it
pub record IsLevel (levels : Levels) (n : ℕ) : Type 0 where
  pub within : n < levels.limit
  pub bit : levels.bits / 2 ^ (n % 64) / 2 % 2 ≡ 0

-- head n + 1 is known to be that of a single turn at the last reading of head n, in the same block of 64
pub record IsLevelHead (levels : HeadLevels) (n : ℕ) : Type 0 where
  pub inner : n % 64 < 63
  pub last : IsLevel levels.lasts n
  pub run : IsLevel levels.runs (n + 1)

-- head n + 1 is there, and is that of a single turn at the last reading of head n
pub record IsSingleAfter (heads : List Head) (n : ℕ) : Type 0 where
  pub next : n + 1 < length heads
  pub is : (head : Head) → slice_get heads n ≡ Some head → slice_get heads (n + 1) ≡ Some (single head.last)

-- what the levels of a block of 64 turns tell is right
pub record AreTurnLevels (turns : List Turn) (block : ℕ) (levels : TurnLevels) : Type 0 where
  pub heads : (n : ℕ) (turn : Turn) → n / 64 ≡ block → IsLevelHead levels.heads n → slice_get turns n ≡ Some turn → option_map turn_head (slice_get turns (n + 1)) ≡ Some (single turn.last)
  pub posted : (n : ℕ) → n / 64 ≡ block → n < length turns → IsLevel levels.posted n → option_map (λ (turn : Turn). turn.posted) (slice_get turns n) ≡ Some []
  pub rows : (n : ℕ) → n / 64 ≡ block → n < length turns → IsLevel levels.rows n → option_map (λ (turn : Turn). turn.rows) (slice_get turns n) ≡ Some []
  pub taken : (n : ℕ) → n / 64 ≡ block → n < length turns → IsLevel levels.taken n → option_map (λ (turn : Turn). turn.taken) (slice_get turns n) ≡ Some []
  pub claimed : (n : ℕ) → n / 64 ≡ block → n < length turns → IsLevel levels.claimed n → option_map (λ (turn : Turn). turn.claimed) (slice_get turns n) ≡ Some []
  pub sent : (n : ℕ) → n / 64 ≡ block → n < length turns → IsLevel levels.sent n → option_map (λ (turn : Turn). turn.sent) (slice_get turns n) ≡ Some []
