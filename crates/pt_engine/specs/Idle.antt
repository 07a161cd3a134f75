-- How long nothing can happen.
use Rattle.std.specs.Prelude.{◌≡◌, ◌≤◌, [], ℕ, List, Some, false, slice_get, slice_index_or}
use Rattle.pt_tags.specs.declared.message.Message.{Message}
use Rattle.pt_semantics.specs.Paced.{IsNextReading}
use Rattle.pt_turn.specs.Platforms.{PlatformView, state_at}

-- before this reading nothing can happen on a platform, unless a result or a message comes: all messages are sent, and the
-- platform is closed or its next reading isn't before this one
pub record IsIdleUntil (until : ℕ) (v : PlatformView) : Type 0 where
  pub sent_all : v.outbox ≡ []
  pub next : v.closed ≡ false → (c : ℕ) → IsNextReading v.plan.graph v.number (state_at v) c → until ≤ c

-- before this reading nothing can happen on any platform: none has an open claim, and no message is under way
pub record AreIdleUntil (until : ℕ) (platforms : List PlatformView) (pipes : List (List Message)) : Type 0 where
  pub each : (i : ℕ) (v : PlatformView) → slice_get platforms i ≡ Some v → IsIdleUntil until v
  pub no_claims : (i : ℕ) (v : PlatformView) → slice_get platforms i ≡ Some v → v.open_claims ≡ []
  pub none_under_way : (l : ℕ) → slice_index_or pipes l [] ≡ []
