-- What the view of a seat is after each step, by the step's kind:
--
--   load           took_free, looked, looked_done, gave_back, took_again: one load more of the slot, and the word found
--   store ready    put_ready: the task is out under the next number
--   exchange won   tried, first case: the hand has the slot, its number and its task
--   exchange lost  tried, second case: one lost exchange more, and the word found
--   store done     put_done: the hand no longer has the slot
--   store free     put_free: the slot is no longer out
--   split, join    `NewHand` and `Leaves`: the view of a hand that has claimed nothing, and of one that left
use Rattle.std.specs.Prelude.{◌≡◌, ℕ, ◌+◌, ◌*◌, ◌/◌, ◌%◌, ◌==◌, Bool, true, false, Option, Some, None, List, [], ◌∷◌, MatchBool}
use Rattle.atomic_table.specs.Table.{Step, Me, rest}
use Rattle.pt_types.specs.declared.firing.Done.{Done}
use Rattle.pt_types.specs.declared.graph.Graph.{Graph}
use Rattle.pt_board.specs.declared.rule.SlotView.{SlotView}
use Rattle.pt_board.specs.declared.rule.View.{View}
use Rattle.pt_board.specs.declared.table.Item.{Item}
use Rattle.pt_board.specs.declared.table.Item.TheVariants.{Nothing, Placed, Finished}
use Rattle.pt_types.specs.declared.firing.Task.{Task}
use Rattle.pt_board.specs.Rule.{IsResult, part, with_part}

abbrev pub Seated : Type 0
Seated = Me Item View

abbrev pub looking : SlotView → ℕ → SlotView
looking p n = record { out = p.out; mine = p.mine; holds = p.holds; loads = p.loads + 1; lost = p.lost; last = n }

abbrev pub holding : SlotView → Bool → SlotView
holding p b = record { out = p.out; mine = p.mine; holds = b; loads = p.loads; lost = p.lost; last = p.last }

abbrev pub outing : SlotView → Option (ℕ × Task) → SlotView
outing p o = record { out = o; mine = p.mine; holds = false; loads = p.loads; lost = p.lost; last = p.last }

abbrev pub with_claim : SlotView → Option (ℕ × Task) → Bool → SlotView
with_claim p o b = record { out = p.out; mine = o; holds = b; loads = p.loads; lost = p.lost; last = p.last }

abbrev pub losing : SlotView → ℕ → SlotView
losing p n = record { out = p.out; mine = p.mine; holds = p.holds; loads = p.loads; lost = p.lost + 1; last = n }

-- the keeper takes the content of a free slot out
abbrev pub took_free : Step Item → Seated → ℕ → Seated → Type 0
took_free s m n w = (y : Item) × (w ≡ (with_part m.0 s.word (holding (looking (part s.word m.0) n) true), (s.word, y) ∷ m.1))

-- the keeper puts a task into the slot as its content: the task is out under the number
abbrev pub put_ready : Step Item → Seated → Seated → Type 0
put_ready s m w = (t : Task) × (n : ℕ) × (s.first ≡ n * 4 + 1) × (m.1 ≡ (s.word, Placed t) ∷ rest m.1) × (w ≡ (with_part m.0 s.word (outing (part s.word m.0) (Some (n, t))), rest m.1))

-- a load
abbrev pub with_load : Step Item → Seated → ℕ → Seated → Type 0
with_load s m n w = w ≡ (with_part m.0 s.word (looking (part s.word m.0) n), m.1)

-- the exchange was won, and the hand has the slot, which it didn't have before, with its number and task; or it was lost
abbrev pub tried : Step Item → Seated → ℕ → Seated → Type 0
tried s m found w =
    MatchBool (found == s.first) ((t : Task) × (w ≡ (with_part m.0 s.word (with_claim (part s.word m.0) (Some (s.first / 4, t)) true), (s.word, Placed t) ∷ m.1)) × ((part s.word m.0).mine ≡ None))
    (w ≡ (with_part m.0 s.word (losing (part s.word m.0) found), m.1))

-- the hand puts its result into the slot as its content, and no longer has the slot
abbrev pub put_done : Step Item → Seated → Seated → Type 0
put_done s m w = w ≡ (with_part m.0 s.word (with_claim (part s.word m.0) None false), rest m.1)

-- a result was there, of the task that is out under its number, and the keeper takes it out; or none was
abbrev pub looked_done : Step Item → Seated → ℕ → Seated → Type 0
looked_done s m found w =
    MatchBool (found % 4 == 3) ((n : ℕ) × (d : Done) × ((part s.word m.0).out ≡ Some (n, d.task)) × ((g : Graph) → m.0.graph ≡ Some g → IsResult g d) × (w ≡ (with_part m.0 s.word (holding (looking (part s.word m.0) found) true), (s.word, Finished d) ∷ m.1)))
    (w ≡ (with_part m.0 s.word (looking (part s.word m.0) found), m.1))

-- the slot is no longer out
abbrev pub put_free : Step Item → Seated → Seated → Type 0
put_free s m w = w ≡ (with_part m.0 s.word (outing (part s.word m.0) None), rest m.1)

-- the hand puts the content back, after it read the task
abbrev pub gave_back : Step Item → Seated → ℕ → Seated → Type 0
gave_back s m n w = w ≡ (with_part m.0 s.word (holding (looking (part s.word m.0) n) false), rest m.1)

-- the hand takes the content out again, before it writes the result
abbrev pub took_again : Step Item → Seated → ℕ → Seated → Type 0
took_again s m n w = (y : Item) × (w ≡ (with_part m.0 s.word (holding (looking (part s.word m.0) n) true), (s.word, y) ∷ m.1))
