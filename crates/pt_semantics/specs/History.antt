-- Legal histories and their claims.
use Rattle.std.specs.Prelude.{◌≡◌, ◌<◌, ◌∷◌, ◌≤◌, ◌-◌, ◌^◌, [], ℕ, Bool, List, Option, Some, false, filter_map, flat_map, true, ⊤}
use Rattle.pt_types.specs.declared.graph.Graph.{Graph}
use Rattle.pt_types.specs.declared.graph.Unit.{Unit}
use Rattle.pt_types.specs.declared.rows.Row.{Row}
use Rattle.pt_types.specs.declared.firing.Task.{Task}
use Rattle.pt_types.specs.Ports.{when}
use Rattle.pt_semantics.specs.Lists.{Each}
use Rattle.pt_semantics.specs.Behaviours.{Firing}
use Rattle.pt_semantics.specs.Turn.{IsLast, IsTurn, Turn, is_quiet}
use Rattle.pt_semantics.specs.Platform.{State, opened}
use Rattle.pt_semantics.specs.Firing.{fired}
use Rattle.pt_types.specs.Lookups.{kind_of}
use Rattle.pt_semantics.specs.Units.{same_part, unit_of}

-- these turns of platform i lead from state s to state new, one after another; no turn follows a last one
abbrev pub Legal : Graph → (ℕ → ℕ) → ℕ → State → List Turn → State → Type 0
Legal g level i s [] new = new ≡ s
Legal g level i s (turn ∷ turns) new =
    (late : Bool) × (mid : State) × (is : IsTurn g level i s turn late mid) × (IsLast g s turn.last late is.ready → turns ≡ []) × Legal g level i mid turns new

-- these turns of platform i lead from state s to state new, one after another, and none of them is late
abbrev pub LegalOnTime : Graph → (ℕ → ℕ) → ℕ → State → List Turn → State → Type 0
LegalOnTime g level i s [] new = new ≡ s
LegalOnTime g level i s (turn ∷ turns) new = (mid : State) × IsTurn g level i s turn false mid × LegalOnTime g level i mid turns new

-- the count of a turn is right: at least 1, and more only if the turn is quiet; its numbers fit in 64 bits
abbrev pub IsCounted : Turn → Type 0
IsCounted turn =
    (1 ≤ turn.count) × (turn.count < 2 ^ 64) × (turn.last < 2 ^ 64)
    × (turn.count ≡ 1 → turn.first ≡ turn.last) × (is_quiet turn ≡ false → turn.count ≡ 1)

-- of two quiet turns in a row, the first has the greatest count or the second is the last turn
abbrev pub AreJoined : List Turn → Type 0
AreJoined [] = ⊤
AreJoined (x ∷ []) = ⊤
AreJoined (x ∷ y ∷ []) = ⊤
AreJoined (x ∷ y ∷ z ∷ rest) = (is_quiet x ≡ true → is_quiet y ≡ true → x.count ≡ 2 ^ 64 - 1) × AreJoined (y ∷ z ∷ rest)

-- a legal history of platform i, and the state after it
pub record IsLegal (g : Graph) (level : ℕ → ℕ) (i : ℕ) (rows : ℕ → List Row) (turns : List Turn) (s : State) : Type 0 where
  pub leads : Legal g level i (opened g i rows) turns s
  pub counted : Each IsCounted turns
  pub joined : AreJoined turns

-- a task as a firing, with the result for its kind
abbrev pub firing_by : Graph → Task → Firing
firing_by g task = record {
  tag = task.tag;
  inputs = task.inputs;
  before = task.state;
  after = (fired (kind_of g task.actor) task.state task.inputs).state;
  outputs = (fired (kind_of g task.actor) task.state task.inputs).outputs;
}

-- the firing of a task, if the task is of this unit
abbrev pub of_unit : Graph → Unit → Task → Option Firing
of_unit g u task = when (same_part (unit_of g task) u) (Some (firing_by g task))

-- the firings of a unit that a history claimed, in order
abbrev pub claims_of : Graph → List Turn → Unit → List Firing
claims_of g turns u = flat_map (λ (turn : Turn). filter_map (of_unit g u) turn.claimed) turns
