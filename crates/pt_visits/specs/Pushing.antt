-- Pushing the messages of a platform into the pipes.
use Rattle.std.specs.Prelude.{◌≡◌, ◌-◌, ◌++◌, ℕ, List, length, map, take}
use Rattle.pt_tags.specs.declared.message.Message.{Message}
use Rattle.pt_types.specs.declared.firing.OnLink.{OnLink}
use Rattle.pt_semantics.specs.Closing.{on_link}
use Rattle.pt_turn.specs.Platforms.{PlatformView}
use Rattle.pt_visits.specs.Pipes.{HavePushed, put_on}
use Rattle.pt_visits.specs.Visited.{HasSent}

-- messages moved from the outboxes of a platform into the pipes, as far as these had room
pub record ArePushed (old new : PlatformView) (pipes piped : List (List Message)) : Type 0 where
  pub sent : List OnLink
  pub gone : HasSent old new sent
  pub pushed : HavePushed (λ (l : ℕ). on_link l old.outbox) pipes piped sent

-- the first messages of link l's outbox moved into the link's pipe, as many as it had room for
pub record IsPushed (l : ℕ) (old new : PlatformView) (pipe piped : List Message) : Type 0 where
  pub messages : List Message
  pub gone : HasSent old new (map (put_on l) messages)
  pub appended : piped ≡ pipe ++ messages
  pub first : messages ≡ take (64 - length pipe) (on_link l old.outbox)
