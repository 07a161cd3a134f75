-- Turns in which nothing happens.
use Rattle.std.specs.Prelude.{◌≡◌, ℕ, ◌<◌, ◌≤◌, ◌⊎◌, [], length}
use Rattle.pt_semantics.specs.Paced.{IsNextReading}
use Rattle.pt_turn.specs.Platforms.{PlatformView, raised_to, state_at}
use Rattle.pt_turn.specs.Turned.{IsTurned, StaysThere}

-- a platform with nothing to send made one turn without results and messages, and claimed nothing
pub record HasRested (old new : PlatformView) (reading : ℕ) : Type 0 where
  pub made : (most : ℕ) → IsTurned old new reading most [] []
  pub idle : (most : ℕ) → (made most).turn.claimed ≡ []
  pub stays : StaysThere old new
  pub sent_all : new.outbox ≡ []

-- the next reading of a platform is not after this reading, raised to the last one
pub record NextHasCome (v : PlatformView) (reading : ℕ) : Type 0 where
  pub next : ℕ
  pub is_next : IsNextReading v.plan.graph v.number (state_at v) next
  pub has_come : next ≤ raised_to v.reading reading

-- a platform has something to send, or has reached its next reading
abbrev pub IsAwake : PlatformView → ℕ → Type 0
IsAwake v reading = (0 < length v.outbox) ⊎ NextHasCome v reading
