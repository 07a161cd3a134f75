-- What contracts see of a hand and of its tickets, and what `claim` and `finish` do.
use Rattle.std.specs.Prelude.{◌≡◌, ◌≢◌, ℕ, ◌<◌, Option, Some, None, [], false}
use Rattle.atomic_table.specs.Seated.{TableId}
use Rattle.atomic_table.specs.declared.shared.Seat.{Seat}
use Rattle.pt_types.specs.declared.firing.Task.{Task}
use Rattle.pt_types.specs.declared.graph.Graph.{Graph}
use Rattle.pt_board.specs.declared.rule.View.{View}
use Rattle.pt_board.specs.declared.table.Item.{Item}
use Rattle.pt_board.specs.Rule.{part}
use Rattle.pt_board.specs.Seats.{IsHandView, SameElse, Unready}

-- a hand: its board's table, and what it knows
pub record HandView : Type 0 where
  pub table : TableId
  pub knows : View

-- a claimed task, with its slot and the number of its placement
pub record TicketView : Type 0 where
  pub slot : ℕ
  pub number : ℕ
  pub task : Task

pub record IsHand (seat : Seat Item View) : Type 0 where
  pub none : seat.me.1 ≡ []
  pub hand : IsHandView seat.me.0
  pub at_home : (k : ℕ) → k < 32 → (part k seat.me.0).holds ≡ false

-- what the hand has claimed in a slot: the number of the placement and its task
abbrev pub claimed_at : ℕ → View → Option (ℕ × Task)
claimed_at k v = (part k v).mine

-- the hand holds the ticket
abbrev pub HoldsTicket : HandView → TicketView → Type 0
HoldsTicket h t = claimed_at t.slot h.knows ≡ Some (t.number, t.task)

-- the hand holds no ticket
abbrev pub HoldsNone : HandView → Type 0
HoldsNone h = (k : ℕ) → k < 32 → claimed_at k h.knows ≡ None

-- the hand holds the same in the other slots
abbrev pub SameClaims : ℕ → View → View → Type 0
SameClaims k v w = (j : ℕ) → j ≢ k → claimed_at j w ≡ claimed_at j v

-- the hand holds one ticket more, in a slot in which it held none
pub record HoldsOneMore (old new : HandView) (ticket : TicketView) : Type 0 where
  pub low : ticket.slot < 32
  pub before : claimed_at ticket.slot old.knows ≡ None
  pub holds : HoldsTicket new ticket
  pub others : SameClaims ticket.slot old.knows new.knows
  pub graph : new.knows.graph ≡ old.knows.graph
  pub table : new.table ≡ old.table

-- at each of the slots the hand loaded a word that isn't ready, or lost the exchange to another hand
pub record SawNoneReady (old new : HandView) : Type 0 where
  pub seen : (k : ℕ) → k < 32 → Unready k old.knows new.knows
  pub same : (k : ℕ) → k < 32 → claimed_at k new.knows ≡ claimed_at k old.knows
  pub graph : new.knows.graph ≡ old.knows.graph
  pub table : new.table ≡ old.table

-- the same at one slot
pub record FoundNotReady (slot : ℕ) (old new : HandView) : Type 0 where
  pub seen : Unready slot old.knows new.knows
  pub others : SameElse slot old.knows new.knows
  pub graph : new.knows.graph ≡ old.knows.graph
  pub table : new.table ≡ old.table

-- the hand no longer holds the ticket
pub record HasFinished (old new : HandView) (ticket : TicketView) : Type 0 where
  pub given : claimed_at ticket.slot new.knows ≡ None
  pub others : SameClaims ticket.slot old.knows new.knows
  pub graph : new.knows.graph ≡ old.knows.graph
  pub table : new.table ≡ old.table
