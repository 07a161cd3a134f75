-- A message that a platform sends.
use Rattle.std.specs.Prelude.{◌≡◌, ◌∷◌, [], ℕ, List}
use Rattle.pt_tags.specs.declared.message.Message.{Message}
use Rattle.pt_types.specs.declared.firing.OnLink.{OnLink}
use Rattle.pt_history.specs.Lists.{on_last}
use Rattle.pt_semantics.specs.Closing.{on_link}
use Rattle.pt_semantics.specs.Turn.{Turn}
use Rattle.pt_history.specs.Turns.{sending}
use Rattle.pt_turn.specs.Platforms.{PlatformView}

-- what was sent after the last of these turns
abbrev pub last_sent : List Turn → List OnLink
last_sent [] = []
last_sent (x ∷ []) = x.sent
last_sent (x ∷ y ∷ turns) = last_sent (y ∷ turns)

-- the first message of link l leaves the outbox and is recorded as sent after the last turn; nothing else changes
pub record FirstHasGone (old new : PlatformView) (l : ℕ) : Type 0 where
  pub message : Message
  pub first : on_link l old.outbox ≡ message ∷ on_link l new.outbox
  pub others : (k : ℕ) → (k ≡ l → ⊥) → on_link k new.outbox ≡ on_link k old.outbox
  pub sent : new.turns ≡ on_last (sending (record { link = l; message = message } ∷ [])) old.turns
  pub rest : new ≡ record old { turns = new.turns; outbox = new.outbox }
