-- What contracts see of a board and of its keeper, and what `place` and `collect` do.
use Rattle.std.specs.Prelude.{◌≡◌, ◌≢◌, ℕ, ◌+◌, ◌%◌, ◌<◌, ◌^◌, Option, Some, None, List, [], false, length, slice_index_or}
use Rattle.atomic_table.specs.Seated.{TableId}
use Rattle.atomic_table.specs.declared.shared.Seat.{Seat}
use Rattle.pt_types.specs.declared.firing.Done.{Done}
use Rattle.pt_types.specs.declared.graph.Graph.{Graph}
use Rattle.pt_board.specs.declared.rule.View.{View}
use Rattle.pt_board.specs.declared.table.Item.{Item}
use Rattle.pt_types.specs.declared.firing.Task.{Task}
use Rattle.pt_board.specs.Rule.{IsResult, part}
use Rattle.pt_board.specs.Seats.{IsKeeperView}

-- a board: which table it is, and the graph that its tasks are of
pub record BoardView : Type 0 where
  pub table : TableId
  pub graph : Graph

-- a keeper: its board's table, what it knows, and the number of its next placement
pub record KeeperView : Type 0 where
  pub table : TableId
  pub knows : View
  pub next : ℕ

-- what is out in a slot, with the number of the placement and its task
abbrev pub out_at : ℕ → View → Option (ℕ × Task)
out_at k v = (part k v).out

-- the number that is recorded for a slot is that of the placement that is out there
abbrev pub IsNumberOf : Option ℕ → Option (ℕ × Task) → Type 0
IsNumberOf None out = out ≡ None
IsNumberOf (Some number) out = (number < 2 ^ 62) × (task : Task) × (out ≡ Some (number, task))

-- a keeper's own record agrees with its seat
pub record IsKeeper (seat : Seat Item View) (places : List (Option ℕ)) : Type 0 where
  pub none : seat.me.1 ≡ []
  pub keeping : IsKeeperView seat.me.0
  pub wide : length places ≡ 32
  pub at_home : (k : ℕ) → k < 32 → (part k seat.me.0).holds ≡ false
  pub numbers : (k : ℕ) → k < 32 → IsNumberOf (slice_index_or places k None) (out_at k seat.me.0)

-- the same is out in the other slots
abbrev pub SameOut : ℕ → View → View → Type 0
SameOut k v w = (j : ℕ) → j ≢ k → out_at j w ≡ out_at j v

-- a task is out in a slot that was free, under the next number
pub record HasPlaced (old new : KeeperView) (task : Task) : Type 0 where
  pub slot : ℕ
  pub low : slot < 32
  pub free : out_at slot old.knows ≡ None
  pub out : out_at slot new.knows ≡ Some (old.next, task)
  pub others : SameOut slot old.knows new.knows
  pub graph : new.knows.graph ≡ old.knows.graph
  pub table : new.table ≡ old.table
  pub next : new.next ≡ old.next + 1

-- no slot is free
abbrev pub IsAllOut : KeeperView → Type 0
IsAllOut v = (k : ℕ) → k < 32 → out_at k v.knows ≢ None

-- the result of the task that was out in a slot under that number; the slot is then free
pub record HasCollected (old new : KeeperView) (result : Done) : Type 0 where
  pub slot : ℕ
  pub low : slot < 32
  pub number : ℕ
  pub was : out_at slot old.knows ≡ Some (number, result.task)
  pub free : out_at slot new.knows ≡ None
  pub done : (g : Graph) → old.knows.graph ≡ Some g → IsResult g result
  pub others : SameOut slot old.knows new.knows
  pub graph : new.knows.graph ≡ old.knows.graph
  pub table : new.table ≡ old.table
  pub next : new.next ≡ old.next

-- the word of each slot that is out was loaded once, and none was done; nothing else changed
pub record SawNoneDone (old new : KeeperView) : Type 0 where
  pub same : (k : ℕ) → k < 32 → out_at k new.knows ≡ out_at k old.knows
  pub seen : (k : ℕ) → k < 32 → out_at k old.knows ≢ None → ((part k new.knows).loads ≡ (part k old.knows).loads + 1) × ((part k new.knows).last % 4 ≢ 3)
  pub graph : new.knows.graph ≡ old.knows.graph
  pub table : new.table ≡ old.table
  pub next : new.next ≡ old.next

-- if the slot is out, its word was loaded once, and it wasn't done
pub record LookedAt (slot : ℕ) (old new : KeeperView) : Type 0 where
  pub same : out_at slot new.knows ≡ out_at slot old.knows
  pub seen : out_at slot old.knows ≢ None → ((part slot new.knows).loads ≡ (part slot old.knows).loads + 1) × ((part slot new.knows).last % 4 ≢ 3)
  pub others : (j : ℕ) → j ≢ slot → part j new.knows ≡ part j old.knows
  pub graph : new.knows.graph ≡ old.knows.graph
  pub table : new.table ≡ old.table
  pub next : new.next ≡ old.next

-- the same, of that slot
pub record CollectedFrom (slot : ℕ) (old new : KeeperView) (result : Done) : Type 0 where
  pub number : ℕ
  pub was : out_at slot old.knows ≡ Some (number, result.task)
  pub free : out_at slot new.knows ≡ None
  pub done : (g : Graph) → old.knows.graph ≡ Some g → IsResult g result
  pub others : SameOut slot old.knows new.knows
  pub graph : new.knows.graph ≡ old.knows.graph
  pub table : new.table ≡ old.table
  pub next : new.next ≡ old.next

-- no number is recorded for the slot
abbrev pub IsFree : List (Option ℕ) → ℕ → Type 0
IsFree places slot = (slot < 32) × (slice_index_or places slot None ≡ None)

abbrev pub NoneIsFree : List (Option ℕ) → Type 0
NoneIsFree places = (k : ℕ) → k < 32 → slice_index_or places k None ≢ None
