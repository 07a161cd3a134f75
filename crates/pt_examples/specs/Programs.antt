-- Small programs, and notation for their tables.
use Rattle.std.specs.Prelude.{ℕ, ℤ, List, [], ◌∷◌, ◌++◌, None, Some, codes, pos, negsuc, slice_index_or}
use Rattle.pt_types.specs.declared.graph.Graph.{Graph}
use Rattle.pt_types.specs.declared.graph.Actor.{Actor}
use Rattle.pt_types.specs.declared.graph.Wire.{Wire}
use Rattle.pt_types.specs.declared.kind.Kind.{Kind}
use Rattle.pt_types.specs.declared.kind.Kind.TheVariants.{Sensor, Receive, Send, Actuator, Scale, Shift, Add, Merge, Machine, Every, Lanes}
use Rattle.pt_types.specs.declared.kind.Law.TheVariants.{Deadband}
use Rattle.pt_types.specs.declared.rows.Row.{Row}
use Rattle.pt_semantics.specs.Tables.{head, line}
use Rattle.pt_types.specs.Limits.{usual_claims}

abbrev pub actor_named : List ℕ → ℕ → Kind → ℕ → ℕ → Actor
actor_named name platform kind inputs outputs = record { name = name; platform = platform; kind = kind; inputs = inputs; outputs = outputs }

abbrev pub sensor : List ℕ → ℕ → Actor
sensor name bound = actor_named name 0 (Sensor name bound) 0 1

abbrev pub actuator : List ℕ → ℕ → Actor
actuator name slack = actor_named name 0 (Actuator slack) 1 0

abbrev pub wire : ℕ → ℕ → ℕ → ℕ → Wire
wire from output to input = record { from = from; output = output; to = to; input = input }

-- a program on one platform, up to time 1000
abbrev pub on_one : List Actor → List Wire → Graph
on_one actors wires = record {
  until = 1000;
  clock_error = 0;
  claims = usual_claims;
  platforms = codes "p" ∷ [];
  actors = actors;
  wires = wires;
  links = [];
  clock_errors = [];
}

abbrev pub row : ℕ → ℕ → ℤ → Row
row time seen value = record { time = time; seen = seen; value = value }

-- the rows of each actor, from actor 0 on
abbrev pub listed_rows : List (List Row) → ℕ → List Row
listed_rows table a = slice_index_or table a []

-- the ranks of the actors, from actor 0 on
abbrev pub ranks_of : List ℕ → ℕ → ℕ
ranks_of ranks a = slice_index_or ranks a 0

-- an actuator acts at this time and step on this value
pub record Acts : Type 0 where
  pub name : List ℕ
  pub time : ℕ
  pub step : ℕ
  pub value : ℤ

abbrev pub acts : List ℕ → ℕ → ℕ → ℤ → Acts
acts name time step value = record { name = name; time = time; step = step; value = value }

-- the text of these lines
abbrev pub lines_text : List Acts → List ℕ
lines_text [] = []
lines_text (x ∷ xs) = line x.name (record { time = x.time; step = x.step }) x.value ++ lines_text xs

abbrev pub text : List Acts → List ℕ
text lines = head ++ lines_text lines

-- a sensor, a doubling, a delay, an actuator
abbrev pub basic : ℕ → ℕ → Graph
basic delay slack = on_one
    (sensor (codes "s") 10 ∷ actor_named (codes "x") 0 (Scale (pos 2) (pos 1)) 1 1 ∷ actor_named (codes "d") 0 (Kind.Delay delay) 1 1 ∷ actuator (codes "out") slack ∷ [])
    (wire 0 0 1 0 ∷ wire 1 0 2 0 ∷ wire 2 0 3 0 ∷ [])

-- two sensors into one merge
abbrev pub merged : Graph
merged = on_one
    (sensor (codes "s") 10 ∷ sensor (codes "u") 10 ∷ actor_named (codes "m") 0 (Merge 2) 2 1 ∷ actuator (codes "out") 20 ∷ [])
    (wire 0 0 2 0 ∷ wire 1 0 2 1 ∷ wire 2 0 3 0 ∷ [])

-- a sensor with two paths that meet in an addition
abbrev pub diamond : Graph
diamond = on_one
    (sensor (codes "s") 10 ∷ actor_named (codes "x") 0 (Scale (pos 2) (pos 1)) 1 1 ∷ actor_named (codes "y") 0 (Shift (pos 1)) 1 1 ∷ actor_named (codes "a") 0 Add 2 1 ∷ actuator (codes "out") 20 ∷ [])
    (wire 0 0 1 0 ∷ wire 0 0 2 0 ∷ wire 1 0 3 0 ∷ wire 2 0 3 1 ∷ wire 3 0 4 0 ∷ [])

-- a merge that feeds itself through a delay
abbrev pub loop : Graph
loop = on_one
    (sensor (codes "s") 10 ∷ actor_named (codes "m") 0 (Merge 2) 2 1 ∷ actor_named (codes "d") 0 (Kind.Delay 100) 1 1 ∷ actuator (codes "out") 20 ∷ [])
    (wire 0 0 1 0 ∷ wire 1 0 2 0 ∷ wire 1 0 3 0 ∷ wire 2 0 1 1 ∷ [])

-- an `every` and an actuator; the hidden wire is the last
abbrev pub ticks : Graph
ticks = on_one
    (actor_named (codes "e") 0 (Every 0 250) 0 1 ∷ actuator (codes "out") 0 ∷ [])
    (wire 0 0 1 0 ∷ wire 0 1 0 0 ∷ [])

-- two platforms and a link
abbrev pub linked : Graph
linked = record {
  until = 1000;
  clock_error = 5;
  claims = usual_claims;
  platforms = codes "p" ∷ codes "q" ∷ [];
  actors =
      sensor (codes "s") 10 ∷ actor_named (codes "d") 0 (Kind.Delay 30) 1 1 ∷ actor_named (codes "w") 0 (Send 0) 1 0
      ∷ actor_named (codes "r") 1 Receive 0 1 ∷ actor_named (codes "f") 1 (Kind.Delay 60) 1 1 ∷ actor_named (codes "out") 1 (Actuator 0) 1 0 ∷ [];
  wires = wire 0 0 1 0 ∷ wire 1 0 2 0 ∷ wire 3 0 4 0 ∷ wire 4 0 5 0 ∷ [];
  links = record { from = 2; to = 3; delay = 40 } ∷ [];
  clock_errors = [];
}

-- the same two platforms, with a clock error of their own
abbrev pub paired : Graph
paired = record linked { clock_errors = record { a = 1; b = 0; error = 25 } ∷ [] }

-- a machine whose first row has a guard: the input is more than 5 above the state
abbrev pub guarded : Graph
guarded = on_one
    (sensor (codes "s") 10
    ∷ actor_named (codes "g") 0 (Machine (pos 0) 1
    (record { state = pos 0; low = negsuc 99; high = pos 100; next = pos 0; emit = Some (0, pos 1); guard = Some (3, Deadband (pos 5)) }
    ∷ record { state = pos 0; low = negsuc 99; high = pos 100; next = pos 0; emit = Some (0, pos 0); guard = None } ∷ [])) 1 1
    ∷ actuator (codes "out") 20 ∷ [])
    (wire 0 0 1 0 ∷ wire 1 0 2 0 ∷ [])

-- two sensors of different bounds, through two lanes of one actor
abbrev pub lanes : Graph
lanes = on_one
    (sensor (codes "s") 10 ∷ sensor (codes "u") 200 ∷ actor_named (codes "g") 0 (Lanes (1 ∷ 1 ∷ [])) 2 2 ∷ actuator (codes "out") 20 ∷ actuator (codes "out2") 300 ∷ [])
    (wire 0 0 2 0 ∷ wire 1 0 2 1 ∷ wire 2 0 3 0 ∷ wire 2 1 4 0 ∷ [])
