-- A seat at the board, before and after its steps on a slot.
use Rattle.std.specs.Prelude.{◌≡◌, ◌≢◌, ℕ, ◌+◌, ◌%◌, ◌⊎◌, true, false, Some, [], length}
use Rattle.atomic_table.specs.Seated.{TableId}
use Rattle.atomic_table.specs.declared.shared.Seat.{Seat}
use Rattle.pt_board.specs.declared.rule.SlotView.{SlotView}
use Rattle.pt_board.specs.declared.rule.View.{View}
use Rattle.pt_types.specs.declared.firing.Task.{Task}
use Rattle.pt_board.specs.Rule.{part}
use Rattle.pt_board.specs.declared.table.Item.{Item}

-- a seat at this table that has taken no slot's content out
abbrev pub IsSeatOf : TableId → Seat Item View → Type 0
IsSeatOf z seat = (seat.table_id ≡ z) × (seat.me.1 ≡ [])

abbrev pub IsKeeperView : View → Type 0
IsKeeperView v = (v.is_keeper ≡ true) × (length v.parts ≡ 32)

abbrev pub IsHandView : View → Type 0
IsHandView v = (v.is_keeper ≡ false) × (length v.parts ≡ 32)

-- only the part of one slot changed
abbrev pub SameElse : ℕ → View → View → Type 0
SameElse k v w = (j : ℕ) → j ≢ k → part j w ≡ part j v

-- the seat loaded a word there that isn't ready, or a ready one and then lost the exchange
abbrev pub UnreadyPart : SlotView → SlotView → Type 0
UnreadyPart p q = (q.loads ≡ p.loads + 1) × (q.mine ≡ p.mine) × (q.holds ≡ p.holds) × (((q.last % 4 ≢ 1) × (q.lost ≡ p.lost)) ⊎ (q.lost ≡ p.lost + 1))

abbrev pub Unready : ℕ → View → View → Type 0
Unready k v w = UnreadyPart (part k v) (part k w)

-- the hand has claimed the task of this slot, under this number, and the content is in the slot
abbrev pub Holds : ℕ → ℕ → Task → View → Type 0
Holds k number task w = ((part k w).mine ≡ Some (number, task)) × ((part k w).holds ≡ false)
