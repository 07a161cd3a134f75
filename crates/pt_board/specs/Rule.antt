-- What holds of the board between any two steps, slot by slot.
--
-- The word of a slot is the number of its last placement times four, and a phase: 0 free, 1 ready, 2 taken, 3 done. The
-- keeper takes a slot from free to ready and from done to free, a hand takes it from ready to taken and on to done.
use Rattle.std.specs.Prelude.{◌≡◌, ◌≢◌, ℕ, ◌+◌, ◌*◌, ◌<◌, Bool, true, false, Option, Some, None, List, [], ◌∷◌, length, slice_index, slice_index_or, slice_set, replicate, pos}
use mathlib.Core.Option.{some}
use lib.ListN.{get_elem?}
use Rattle.atomic_table.specs.Table.{State}
use Rattle.pt_types.specs.declared.firing.Done.{Done}
use Rattle.pt_types.specs.declared.firing.Task.{Task}
use Rattle.pt_types.specs.declared.graph.Graph.{Graph}
use Rattle.pt_types.specs.Lookups.{kind_of}
use Rattle.pt_semantics.specs.Firing.{fired}
use Rattle.pt_board.specs.declared.rule.SlotView.{SlotView}
use Rattle.pt_board.specs.declared.rule.View.{View}
use Rattle.pt_board.specs.declared.table.Item.{Item}
use Rattle.pt_board.specs.declared.table.Item.TheVariants.{Nothing, Placed, Finished}

-- a result is what the kind of its task's actor computes
abbrev pub IsResult : Graph → Done → Type 0
IsResult g d = d.fired ≡ fired (kind_of g d.task.actor) d.task.state d.task.inputs

-- a result is that of its task in the graph that the board's tasks are of
abbrev pub IsResultOf : Option Graph → Done → Type 0
IsResultOf graph d = (g : Graph) × (graph ≡ Some g) × IsResult g d

abbrev pub empty_task : Task
empty_task = record { number = 0; actor = 0; tag = record { time = 0; step = 0 }; inputs = []; state = pos 0 }

abbrev pub no_part : SlotView
no_part = record { out = None; mine = None; holds = false; loads = 0; lost = 0; last = 0 }

-- what a seat knows of slot k
abbrev pub part : ℕ → View → SlotView
part k v = slice_index_or v.parts k no_part

-- the view after the part of slot k changed
abbrev pub with_part : View → ℕ → SlotView → View
with_part v k p = record { is_keeper = v.is_keeper; graph = v.graph; parts = slice_set v.parts k p }

-- the keeper's view of a board with nothing placed
abbrev pub keeper_first : Graph → View
keeper_first g = record { is_keeper = true; graph = Some g; parts = replicate 32 no_part }

-- a content that no seat has taken out is in its slot: in phase ready it is the task, in phase done the result of the task
abbrev pub Content : Graph → ℕ → Task → Bool → mathlib.Core.Option.Option (mathlib.Core.Option.Option Item) → Type 0
Content g phase task busy home = busy ≡ false → (y : Item) × (home ≡ some (some y)) × (phase ≡ 1 → y ≡ Placed task) × (phase ≡ 3 → (done : Done) × (y ≡ Finished done) × (done.task ≡ task) × IsResult g done)

-- what a seat knows of a slot agrees with the slot: with its keeper, the number and task of its last placement, its phase,
-- the hand that claimed it, and whether a seat has taken its content out
pub record SeatFits (keeper number : ℕ) (task : Task) (phase owner : ℕ) (busy : Bool) (id : ℕ) (is_keeper : Bool) (p : SlotView) : Type 0 where
  pub only : is_keeper ≡ true → id ≡ keeper
  pub free : is_keeper ≡ true → phase ≡ 0 → p.out ≡ None
  pub out : is_keeper ≡ true → phase ≢ 0 → p.out ≡ Some (number, task)
  pub holds_it : is_keeper ≡ true → phase ≢ 2 → p.holds ≡ busy
  pub holds_none : is_keeper ≡ true → phase ≡ 2 → p.holds ≡ false
  pub mine : (m : ℕ) (u : Task) → p.mine ≡ Some (m, u) → (id ≡ owner) × (phase ≡ 2) × (m ≡ number) × (u ≡ task) × (p.holds ≡ busy)

abbrev pub home_at : ℕ → State Item View → mathlib.Core.Option.Option (mathlib.Core.Option.Option Item)
home_at k s = get_elem? s.homes k

-- one slot: its word is its number and phase, its content is right, and each seat's part fits
pub record Slot (g : Graph) (keeper k : ℕ) (word : ℕ) (home : mathlib.Core.Option.Option (mathlib.Core.Option.Option Item)) (views : List View) : Type 0 where
  pub number : ℕ
  pub task : Task
  pub phase : ℕ
  pub owner : ℕ
  pub busy : Bool
  pub word_is : word ≡ number * 4 + phase
  pub small : phase < 4
  pub ready : phase ≡ 1 → busy ≡ false
  pub content : Content g phase task busy home
  pub fits : (id : ℕ) (v : View) → get_elem? views id ≡ some v → SeatFits keeper number task phase owner busy id v.is_keeper (part k v)

-- the rule of the whole board; each view names the board's graph, or none if its seat was joined to another
pub record BoardRule (g : Graph) (s : State Item View) : Type 0 where
  pub keeper : ℕ
  pub words : length s.words ≡ 32
  pub homes : length s.homes ≡ 32
  pub wide : (id : ℕ) (v : View) → get_elem? s.views id ≡ some v → length v.parts ≡ 32
  pub graphs : (id : ℕ) (v : View) (h : Graph) → get_elem? s.views id ≡ some v → v.graph ≡ Some h → h ≡ g
  pub slots : (k : ℕ) → k < 32 → Slot g keeper k (slice_index s.words k) (home_at k s) s.views

-- the view of a new hand; without a graph, the view of a hand that left
abbrev pub hand_first : Option Graph → View
hand_first g = record { is_keeper = false; graph = g; parts = replicate 32 no_part }
