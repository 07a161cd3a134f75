-- Reserving memory, with nothing else changed.
use Rattle.std.specs.Prelude.{◌≡◌, ℕ, ◌+◌, ◌-◌, ◌*◌, ◌^◌, ◌==◌, ◌≤◌, if◌then◌else◌, Vec, length, min, vec_len, vec_capacity}
use Rattle.pt_types.specs.declared.graph.Graph.{Graph}
use Rattle.pt_history.specs.declared.history.History.{History}
use Rattle.pt_history.specs.declared.room.HistoryRoom.{HistoryRoom}
use Rattle.pt_turn.specs.declared.state.fields.Fields.{Fields}
use Rattle.pt_turn.specs.Fields.Outbox.{OutboxView}
use Rattle.pt_turn.specs.declared.steps.Lists.{Lists}
use Rattle.pt_turn.specs.Steps.{count_due}
use Rattle.pt_turn.specs.declared.memory.Needs.{Needs}
use Rattle.pt_turn.specs.declared.room.Room.{Room}

-- the same items, and no less capacity
pub record IsWider {X Z : Type 0} (old new : Vec X Z) : Type 0 where
  pub items : new.items ≡ old.items
  pub len : vec_len new ≡ vec_len old
  pub capacity : vec_capacity old ≤ vec_capacity new

-- the same messages and links, and no less room
pub record HoldsMore (old new : OutboxView) : Type 0 where
  pub items : new.items ≡ old.items
  pub links : new.links ≡ old.links
  pub spare : old.spare ≤ new.spare

-- the same fields, and no less room
pub record AreWider (old new : Fields) : Type 0 where
  pub events : new.queue.events ≡ old.queue.events
  pub groups : new.queue.groups ≡ old.queue.groups
  pub spare : old.queue.spare ≤ new.queue.spare
  pub open_claims : new.open_claims.items ≡ old.open_claims.items
  pub claims_spare : old.open_claims.spare ≤ new.open_claims.spare
  pub states : new.states ≡ old.states
  pub sensors : new.sensors ≡ old.sensors
  pub outbox : HoldsMore old.outbox new.outbox
  pub reading : new.reading ≡ old.reading
  pub closed : new.closed ≡ old.closed
  pub claims : new.claims ≡ old.claims
  pub none_safe_before : new.none_safe_before ≡ old.none_safe_before

-- the same lists of a turn, and no less capacity
pub record ListsAreWider (old new : Lists) : Type 0 where
  pub posted : IsWider old.posted new.posted
  pub rows : IsWider old.rows new.rows
  pub taken : IsWider old.taken new.taken
  pub claimed : IsWider old.claimed new.claimed

-- the same turns, and no less room
pub record HistoryIsWider (old new : History) : Type 0 where
  pub turns : new.turns ≡ old.turns
  pub more_turns : old.room.turns ≤ new.room.turns
  pub posted : old.room.posted ≤ new.room.posted
  pub rows : old.room.rows ≤ new.room.rows
  pub taken : old.room.taken ≤ new.room.taken
  pub claimed : old.room.claimed ≤ new.room.claimed
  pub sent : old.room.sent ≤ new.room.sent

-- 0 for 0, else 2 n + 256, but at most the greatest 64-bit number
unfoldable pub more_than : ℕ → ℕ
more_than n = if n == 0 then 0 else min (2 * n + 256) (2 ^ 64 - 1)

-- the room reserved when this much is asked for
abbrev pub ahead_of : HistoryRoom → HistoryRoom
ahead_of room = record {
  turns = more_than room.turns;
  posted = more_than room.posted;
  rows = more_than room.rows;
  taken = more_than room.taken;
  claimed = more_than room.claimed;
  sent = more_than room.sent;
}

-- the fields have the memory that a turn needs
pub record FieldsMeet (needs : Needs) (f : Fields) : Type 0 where
  pub events : needs.events ≤ f.queue.spare
  pub outbox : needs.messages ≤ f.outbox.spare
  pub open_claims : needs.claimed ≤ f.open_claims.spare

-- the lists of a turn have the memory that it needs
pub record ListsMeet (needs : Needs) (lists : Lists) : Type 0 where
  pub posted : vec_len lists.posted + needs.posted ≤ vec_capacity lists.posted
  pub rows : vec_len lists.rows + needs.rows ≤ vec_capacity lists.rows
  pub taken : vec_len lists.taken + needs.taken ≤ vec_capacity lists.taken
  pub claimed : vec_len lists.claimed + needs.claimed ≤ vec_capacity lists.claimed

-- the history has the room that a turn needs
pub record HistoryMeets (needs : Needs) (room : HistoryRoom) : Type 0 where
  pub turns : 1 ≤ room.turns
  pub posted : needs.posted ≤ room.posted
  pub rows : needs.rows ≤ room.rows
  pub taken : needs.taken ≤ room.taken
  pub claimed : needs.claimed ≤ room.claimed
  pub sent : needs.sent ≤ room.sent

-- these needs cover a turn at reading r
pub record AreEnough (g : Graph) (f : Fields) (r : ℕ) (room : Room) (needs : Needs) : Type 0 where
  pub events : length g.wires + count_due g r f + room.taken ≤ needs.events
  pub messages : room.done * length g.links + length g.links ≤ needs.messages
  pub sent : length f.outbox.items + room.done * length g.links + length g.links ≤ needs.sent
  pub posted : room.done ≤ needs.posted
  pub rows : count_due g r f ≤ needs.rows
  pub taken : room.taken ≤ needs.taken
  pub claimed : room.most ≤ needs.claimed
