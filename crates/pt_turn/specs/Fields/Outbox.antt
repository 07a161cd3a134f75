-- The messages that a platform has not sent yet.
use Rattle.std.specs.Prelude.{ℕ, suc, List, [], ◌∷◌, ◌++◌, map}
use Rattle.pt_tags.specs.declared.message.Message.{Message}
use Rattle.pt_types.specs.declared.firing.OnLink.{OnLink}
use Rattle.pt_turn.specs.declared.state.slots.Slot.{Slot}
use Rattle.pt_turn.specs.declared.state.slots.Chain.{Chain}
use Rattle.pt_turn.specs.Fields.Slots.{read}

-- an outbox as contracts see it: its messages link by link, those of one link in order; the number of links; and how many more
-- messages fit in memory
pub record OutboxView : Type 0 where
  pub items : List OnLink
  pub links : ℕ
  pub spare : ℕ

-- the messages of several links, link by link from link l on
abbrev pub items_from : ℕ → List (List Message) → List OnLink
items_from l [] = []
items_from l (ms ∷ rest) = map (λ (m : Message). record { link = l; message = m }) ms ++ items_from (suc l) rest

-- the messages in the slots of these queues
abbrev pub items_of : List Slot → List Chain → List OnLink
items_of ns qs = items_from 0 (map (λ (c : Chain). read ns c.first c.count) qs)
