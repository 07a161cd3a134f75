-- The input made from a number: a graph, of which only the horizon depends on the number, and the rows of its four sensors.
use Rattle.std.specs.Prelude.{ℕ, ◌+◌, ◌*◌, ◌%◌, ◌==◌, List, [], ◌∷◌, ◌++◌, codes, map, pos, if◌then◌else◌}
use Rattle.std.specs.List.{range_with_len}
use Rattle.pt_types.specs.declared.graph.Graph.{Graph}
use Rattle.pt_types.specs.declared.graph.Actor.{Actor}
use Rattle.pt_types.specs.declared.graph.Wire.{Wire}
use Rattle.pt_types.specs.declared.graph.Link.{Link}
use Rattle.pt_types.specs.declared.kind.Kind.{Kind}
use Rattle.pt_types.specs.declared.kind.Kind.TheVariants.{Sensor, Receive, Send, Actuator, Add, Sum}
use Rattle.pt_types.specs.declared.rows.Row.{Row}
use Rattle.pt_types.specs.Kinds.{visible_inputs, visible_outputs}
use Rattle.pt_types.specs.Limits.{usual_claims}

-- an actor with the visible ports of its kind
abbrev pub actor : List ℕ → ℕ → Kind → Actor
actor name platform kind = record { name = name; platform = platform; kind = kind; inputs = visible_inputs kind; outputs = visible_outputs kind }

-- the actors of platform p0; a sensor's rows are seen at most 10 microseconds after their times, and no file is read
abbrev pub at_p0 : List Actor
at_p0 =
    actor (codes "s0") 0 (Sensor (codes "s0.csv") 10)
    ∷ actor (codes "d0") 0 (Kind.Delay 100)
    ∷ actor (codes "w0") 0 (Send 0) ∷ []

-- the actors of platform p1
abbrev pub at_p1 : List Actor
at_p1 =
    actor (codes "r1") 1 Receive
    ∷ actor (codes "s1") 1 (Sensor (codes "s1.csv") 10)
    ∷ actor (codes "a1") 1 Add
    ∷ actor (codes "d1") 1 (Kind.Delay 100)
    ∷ actor (codes "w1") 1 (Send 0) ∷ []

-- the actors of platform p2
abbrev pub at_p2 : List Actor
at_p2 =
    actor (codes "r2") 2 Receive
    ∷ actor (codes "s2") 2 (Sensor (codes "s2.csv") 10)
    ∷ actor (codes "a2") 2 Add
    ∷ actor (codes "d2") 2 (Kind.Delay 100)
    ∷ actor (codes "w2") 2 (Send 0) ∷ []

-- the actors of platform p3
abbrev pub at_p3 : List Actor
at_p3 =
    actor (codes "r3") 3 Receive
    ∷ actor (codes "s3") 3 (Sensor (codes "s3.csv") 10)
    ∷ actor (codes "a3") 3 Add
    ∷ actor (codes "t") 3 Sum
    ∷ actor (codes "out") 3 (Actuator 50) ∷ []

-- s0 d0 w0 are the actors 0 to 2, r1 s1 a1 d1 w1 3 to 7, r2 s2 a2 d2 w2 8 to 12, r3 s3 a3 t out 13 to 17
abbrev pub actors : List Actor
actors = at_p0 ++ (at_p1 ++ (at_p2 ++ at_p3))

-- a wire from output 0 of an actor to an input of another
abbrev pub made_wire : ℕ → ℕ → ℕ → Wire
made_wire from to input = record { from = from; output = 0; to = to; input = input }

-- the wires, platform by platform
abbrev pub made_wires : List Wire
made_wires =
    -- s0 to d0, d0 to w0
    made_wire 0 1 0 ∷ made_wire 1 2 0
    -- r1 and s1 to a1, a1 to d1, d1 to w1
    ∷ made_wire 3 5 0 ∷ made_wire 4 5 1 ∷ made_wire 5 6 0 ∷ made_wire 6 7 0
    -- r2 and s2 to a2, a2 to d2, d2 to w2
    ∷ made_wire 8 10 0 ∷ made_wire 9 10 1 ∷ made_wire 10 11 0 ∷ made_wire 11 12 0
    -- r3 and s3 to a3, a3 to t, t to out
    ∷ made_wire 13 15 0 ∷ made_wire 14 15 1 ∷ made_wire 15 16 0 ∷ made_wire 16 17 0 ∷ []

-- a link from a sender to a receiver, with a delay of 40 microseconds
abbrev pub link : ℕ → ℕ → Link
link from to = record { from = from; to = to; delay = 40 }

-- w0 to r1, w1 to r2, w2 to r3
abbrev pub made_links : List Link
made_links = link 2 3 ∷ link 7 8 ∷ link 12 13 ∷ []

-- the number of rows of each sensor
abbrev pub row_count : ℕ → ℕ
row_count n = 100 * n

-- the names of the platforms
abbrev pub platforms : List (List ℕ)
platforms = codes "p0" ∷ codes "p1" ∷ codes "p2" ∷ codes "p3" ∷ []

-- the graph made from n: its horizon is 400 microseconds after the last row
abbrev pub made_graph : ℕ → Graph
made_graph n = record {
  until = 100 * row_count n + 400;
  clock_error = 5;
  claims = usual_claims;
  platforms = platforms;
  actors = actors;
  wires = made_wires;
  links = made_links;
  clock_errors = [];
}

-- row k, from 1, of sensor i, from 0
abbrev pub made_row : ℕ → ℕ → ℕ → Row
made_row n i k = record { time = 100 * k; seen = 100 * k + k % 11; value = pos ((n * k + i) % 100) }

-- the rows of sensor i, from 0
abbrev pub sensor_rows : ℕ → ℕ → List Row
sensor_rows n i = map (made_row n i) (range_with_len 1 (row_count n))

-- the rows of each actor: s0, s1, s2 and s3 are the actors 0, 4, 9 and 14
abbrev pub made_rows : ℕ → ℕ → List Row
made_rows n a =
    if a == 0 then sensor_rows n 0 else (
    if a == 4 then sensor_rows n 1 else (
    if a == 9 then sensor_rows n 2 else (
    if a == 14 then sensor_rows n 3 else [])))
