-- Queues of slots that are linked by the numbers of their places.
use Rattle.std.specs.Prelude.{◌≡◌, ℕ, zero, suc, ◌<◌, List, [], ◌∷◌, Option, Some, None, length, set, slice_index_or}
use Rattle.pt_tags.specs.declared.message.Message.{Message}
use Rattle.pt_tags.specs.declared.message.Message.TheVariants.{End}
use Rattle.pt_semantics.specs.Lists.{IsIn}
use Rattle.pt_turn.specs.declared.state.slots.Slot.{Slot}
use Rattle.pt_turn.specs.declared.state.slots.Chain.{Chain}

-- the slot at a place; past all places, a free one
abbrev pub slot_at : List Slot → ℕ → Slot
slot_at ns k = slice_index_or ns k (record { message = End; link = None; next = 0 })

-- the places of n slots: place k, and then the next ones
abbrev pub walk : List Slot → ℕ → ℕ → List ℕ
walk ns k zero = []
walk ns k (suc n) = k ∷ walk ns (slot_at ns k).next n

-- the messages in n slots, from place k on
abbrev pub read : List Slot → ℕ → ℕ → List Message
read ns k zero = []
read ns k (suc n) = (slot_at ns k).message ∷ read ns (slot_at ns k).next n

-- n slots from place k on are there, have this owner, and are at different places
abbrev pub IsChain : List Slot → Option ℕ → ℕ → ℕ → Type 0
IsChain ns owner k zero = Unit {0}
IsChain ns owner k (suc n) = (k < length ns) × ((slot_at ns k).link ≡ owner) × (IsIn k (walk ns (slot_at ns k).next n) → ⊥) × IsChain ns owner (slot_at ns k).next n

-- the last of these places is q, if there is one
abbrev pub HasLastPlace : List ℕ → ℕ → Type 0
HasLastPlace [] q = Unit {0}
HasLastPlace (k ∷ []) q = k ≡ q
HasLastPlace (k ∷ j ∷ ks) q = HasLastPlace (j ∷ ks) q

-- the slots of a queue are linked from its first to its last, and belong to link l
abbrev pub IsQueue : List Slot → ℕ → Chain → Type 0
IsQueue ns l c = IsChain ns (Some l) c.first c.count × HasLastPlace (walk ns c.first c.count) c.last

-- what is past all queues: an empty one
abbrev pub no_chain : Chain
no_chain = record { first = 0; last = 0; count = 0 }

-- the queue of each link
abbrev pub AreQueues : List Slot → List Chain → Type 0
AreQueues ns qs = (l : ℕ) → IsQueue ns l (slice_index_or qs l no_chain)

-- a chain is the same in the old slots and in the new ones
pub record Stays (old new : List Slot) (owner : Option ℕ) (k n : ℕ) : Type 0 where
  pub chain : IsChain new owner k n
  pub places : walk new k n ≡ walk old k n
  pub messages : read new k n ≡ read old k n

-- the slots, with that at q followed by that at p
abbrev pub slots_joined : List Slot → ℕ → ℕ → List Slot
slots_joined ns q p = set ns q (record (slot_at ns q) { next = p })
