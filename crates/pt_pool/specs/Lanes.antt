-- Messages between a platform and the ends of its links.
use Rattle.std.specs.Prelude.{◌≡◌, ◌<◌, ◌≤◌, ◌++◌, ◌⊎◌, ℕ, List, Some, length, map, slice_get}
use Rattle.pt_tags.specs.declared.message.Message.{Message}
use Rattle.pt_types.specs.declared.firing.OnLink.{OnLink}
use Rattle.pt_semantics.specs.Closing.{on_link}
use Rattle.pt_semantics.specs.Lists.{IsIn}
use Rattle.pt_turn.specs.Platforms.{PlatformView}
use Rattle.pt_visits.specs.Visited.{HasSent}
use Rattle.pt_visits.specs.Pipes.{put_on}
use Rattle.pt_links.specs.Ends.{SentBy, TakenBy}
use Rattle.pt_links.specs.Line.{IsOrderlyBy}
use Rattle.pt_pool.specs.Ends.{End, end_in, end_out}

-- these messages, 64 at most, were taken at an end
pub record Took (n : ℕ) (old new : TakenBy) (ms : List Message) : Type 0 where
  pub stays : (new.link ≡ old.link) × (new.limits ≡ old.limits)
  pub taken : new.taken ≡ old.taken ++ ms
  pub few : length ms ≤ 64
  pub orderly : IsOrderlyBy old.limits old.taken → IsOrderlyBy old.limits new.taken

-- these messages, 64 at most, were sent at the end of link n: all that were pending, or 64, or as many as the link had places for
pub record Put (outbox : ℕ → List Message) (n : ℕ) (old new : SentBy) (ms : List Message) : Type 0 where
  pub stays : (new.link ≡ old.link) × (new.limits ≡ old.limits)
  pub sent : new.sent ≡ old.sent ++ ms
  pub few : length ms ≤ 64
  pub until : (outbox n ≡ ms) ⊎ ((length ms ≡ 64) ⊎ (64 ≤ length new.sent))

-- the messages of a list went through the first k ends, each through that of its link, in this way; the other ends are unchanged
pub record EndByEnd {X : Type 0} (way : ℕ → X → X → List Message → Type 0) (end_of : ℕ × X → End) (k : ℕ) (old now : List (ℕ × X)) (ms : List OnLink) : Type 0 where
  pub ends : map end_of now ≡ map end_of old
  pub below : (i : ℕ) (e f : ℕ × X) → i < k → slice_get old i ≡ Some e → slice_get now i ≡ Some f → way e.0 e.1 f.1 (on_link e.0 ms)
  pub above : (i : ℕ) → k ≤ i → slice_get now i ≡ slice_get old i
  pub members : (m : OnLink) → IsIn m ms → (i : ℕ) × (i < k) × (e : ℕ × X) × (slice_get old i ≡ Some e) × (e.0 ≡ m.link)

-- these messages came from the ends of a platform's incoming links
abbrev pub AreTaken : List (ℕ × TakenBy) → List (ℕ × TakenBy) → List OnLink → Type 0
AreTaken old new given = EndByEnd Took end_in (length old) old new given

-- and these went out of it, through the ends of its outgoing links
pub record ArePut (old new : PlatformView) (outs puts : List (ℕ × SentBy)) : Type 0 where
  pub sent : List OnLink
  pub gone : HasSent old new sent
  pub put : EndByEnd (Put (λ l. on_link l old.outbox)) end_out (length outs) outs puts sent

-- messages from the front of link n's outbox went out of a platform and through the link's end
pub record WentOut (n : ℕ) (old new : PlatformView) (out after : SentBy) : Type 0 where
  pub messages : List Message
  pub gone : HasSent old new (map (put_on n) messages)
  pub put : Put (λ l. on_link l old.outbox) n out after messages
