-- The state of a platform.
use Rattle.std.specs.Prelude.{◌==◌, ◌&&◌, if◌then◌else◌, [], ℕ, ℤ, Bool, List, None, Option, Some, false}
use Rattle.pt_tags.specs.declared.message.Message.{Message}
use Rattle.pt_types.specs.declared.graph.Graph.{Graph}
use Rattle.pt_types.specs.declared.graph.Unit.{Unit}
use Rattle.pt_types.specs.declared.rows.Row.{Row}
use Rattle.pt_types.specs.declared.firing.Task.{Task}
use Rattle.pt_types.specs.Ports.{when}
use Rattle.pt_semantics.specs.Meaning.{Values, start_at}
use Rattle.pt_semantics.specs.Edges.{first_state}
use Rattle.pt_types.specs.Lookups.{kind_of, platform_of}
use Rattle.pt_semantics.specs.Units.{same_part}

-- a platform's state: the pending value of each input and tag, the open claim of each unit, the state of each actor, the
-- rows left of each sensor, the outbox of each outgoing link, the messages taken on each incoming link, the last reading,
-- whether it is closed, and the number of claims so far
pub record State : Type 0 where
  pub waits : Values
  pub busy : Unit → Option Task
  pub states : ℕ → ℤ
  pub left : ℕ → List Row
  pub outbox : ℕ → List Message
  pub taken : ℕ → List Message
  pub reading : Option ℕ
  pub closed : Bool
  pub claims : ℕ

-- the state of a platform before its first turn: its starting events are pending, and all its rows are left
abbrev pub opened : Graph → ℕ → (ℕ → List Row) → State
opened g i rows = record {
  waits = λ a p t. when (platform_of g a == i && p == 0) (start_at g (kind_of g a) t);
  busy = λ u. None;
  states = λ a. first_state (kind_of g a);
  left = λ a. if platform_of g a == i then rows a else [];
  outbox = λ l. [];
  taken = λ l. [];
  reading = None;
  closed = false;
  claims = 0;
}

-- the open claims, with that of unit u set to x
abbrev pub put_busy : (Unit → Option Task) → Unit → Option Task → Unit → Option Task
put_busy busy u x v = if same_part u v then x else busy v

-- the state with last reading r
abbrev pub raised : State → ℕ → State
raised s r = record s { reading = Some r }
