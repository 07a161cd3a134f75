-- The graph of a file that passed the checks of its names and numbers.
use Rattle.std.specs.Prelude.{ℕ, ℤ, List, ◌++◌, map, Bool, true, false, Option, option_map, option_and_then, unwrap_or, unsigned_abs}
use Rattle.pt_graph_text.specs.declared.document.Document.{Document}
use Rattle.pt_graph_text.specs.declared.document.LinkText.{LinkText}
use Rattle.pt_graph_text.specs.declared.document.WireText.{WireText}
use Rattle.pt_graph_text.specs.declared.document.PairText.{PairText}
use Rattle.pt_graph_text.specs.declared.document.RowText.{RowText}
use Rattle.pt_graph_text.specs.declared.document.ActorText.{ActorText}
use Rattle.pt_graph_text.specs.declared.document.TopNumbers.{TopNumbers}
use Rattle.pt_graph_text.specs.declared.kinds.KindText.{KindText}
use Rattle.pt_graph_text.specs.declared.kinds.KindText.TheVariants as text
use Rattle.pt_types.specs.declared.kind.Kind.{Kind}
use Rattle.pt_types.specs.declared.kind.Kind.TheVariants as kind
use Rattle.pt_types.specs.declared.kind.Law.{Law}
use Rattle.pt_types.specs.declared.kind.Law.TheVariants.{Least}
use Rattle.pt_types.specs.declared.kind.MachineRow.{MachineRow}
use Rattle.pt_types.specs.declared.graph.Actor.{Actor}
use Rattle.pt_types.specs.declared.graph.Wire.{Wire}
use Rattle.pt_types.specs.declared.graph.Link.{Link}
use Rattle.pt_types.specs.declared.graph.PairError.{PairError}
use Rattle.pt_types.specs.declared.graph.Graph.{Graph}
use Rattle.pt_types.specs.Kinds.{visible_inputs, visible_outputs}
use Rattle.pt_types.specs.Groups.{held}
use Rattle.pt_types.specs.Ends.{hidden_wires}
use Rattle.pt_blocks.specs.declared.blocks.Named.{Named}
use Rattle.pt_blocks.specs.Blocks.{find_block, law_at}
use Rattle.pt_graph.specs.Known.{first_named, itself, name_of_actor}
use Rattle.pt_types.specs.Limits.{usual_claims}

-- a number of the file as a natural number of 32 bits; numbers in their ranges fit
abbrev pub small : ℤ → ℕ
small z = held (unsigned_abs z)

-- the number of a name; 0 if it has none
abbrev pub number_or_0 : Option ℕ → ℕ
number_or_0 n = held (unwrap_or n 0)

-- the number and the law of the block with this name
abbrev pub number_and_law : List Named → List ℕ → ℕ × Law
number_and_law blocks name = (number_or_0 (find_block blocks name), unwrap_or (option_and_then (law_at blocks) (find_block blocks name)) Least)

abbrev pub emit_from : ℤ × ℤ → ℕ × ℤ
emit_from e = (small e.0, e.1)

unfoldable pub row_from : List Named → RowText → MachineRow
row_from blocks r = record { state = r.state; low = r.low; high = r.high; next = r.next; emit = option_map emit_from r.emit; guard = option_map (number_and_law blocks) r.guard }

abbrev pub kind_from : List Named → KindText → Kind
kind_from blocks (text.Sensor file bound) = kind.Sensor file (unsigned_abs bound)
kind_from blocks text.Receive = kind.Receive
kind_from blocks (text.Send slack) = kind.Send (unsigned_abs slack)
kind_from blocks (text.Actuator slack) = kind.Actuator (unsigned_abs slack)
kind_from blocks (text.Scale num den) = kind.Scale num den
kind_from blocks (text.Shift by) = kind.Shift by
kind_from blocks text.Add = kind.Add
kind_from blocks text.Sub = kind.Sub
kind_from blocks (text.Above limit) = kind.Above limit
kind_from blocks (text.Merge n) = kind.Merge (small n)
kind_from blocks (text.Delay d) = kind.Delay (unsigned_abs d)
kind_from blocks text.Count = kind.Count
kind_from blocks text.Sum = kind.Sum
kind_from blocks text.Latch = kind.Latch
kind_from blocks (text.Machine start outputs rows) = kind.Machine start (small outputs) (map (row_from blocks) rows)
kind_from blocks (text.Every start period) = kind.Every (unsigned_abs start) (unsigned_abs period)
kind_from blocks (text.Block block) = kind.Block (number_and_law blocks block).0 (number_and_law blocks block).1
kind_from blocks (text.Lanes cells) = kind.Lanes (map small cells)

-- an actor with its name, the number of its platform, its kind and its visible ports
abbrev pub with_ports : List ℕ → ℕ → Kind → Actor
with_ports name platform k = record { name = name; platform = platform; kind = k; inputs = held (visible_inputs k); outputs = held (visible_outputs k) }

abbrev pub platform_number : List (List ℕ) → List ℕ → ℕ
platform_number platforms n = number_or_0 (first_named itself platforms n)

abbrev pub actor_from : List Named → List (List ℕ) → ActorText → Actor
actor_from blocks platforms a = with_ports a.name (platform_number platforms a.platform) (kind_from blocks a.kind)

abbrev pub wire_from : (List ℕ → Option ℕ) → WireText → Wire
wire_from numbers w = record { from = number_or_0 (numbers w.from); output = small w.output; to = number_or_0 (numbers w.to); input = small w.input }

abbrev pub link_from : (List ℕ → Option ℕ) → LinkText → Link
link_from numbers l = record { from = number_or_0 (numbers l.from); to = number_or_0 (numbers l.to); delay = unsigned_abs l.delay }

abbrev pub pair_from : List (List ℕ) → PairText → PairError
pair_from platforms p = record { a = platform_number platforms p.a; b = platform_number platforms p.b; error = unsigned_abs p.error }

-- the actors, wires and links, with numbers for names and without hidden wires
abbrev pub actors_of : List Named → Document → List Actor
actors_of blocks d = map (actor_from blocks d.platforms) d.actors

abbrev pub wires_of : Document → List Wire
wires_of d = map (wire_from (first_named name_of_actor d.actors)) d.wires

abbrev pub links_of : Document → List Link
links_of d = map (link_from (first_named name_of_actor d.actors)) d.links

-- the graph with these numbers and parts
unfoldable pub whole_graph : TopNumbers → List (List ℕ) → List Actor → List Wire → List Link → List PairError → Graph
whole_graph head platforms actors wires links pairs = record {
  until = unsigned_abs head.until;
  clock_error = unsigned_abs head.clock_error;
  claims = usual_claims;
  platforms = platforms;
  actors = actors;
  wires = wires;
  links = links;
  clock_errors = pairs;
}

-- the graph of these parts; hidden wires are last
abbrev pub graph_with : Document → List Actor → List Wire → List Link → Graph
graph_with d actors wires links = whole_graph d.head d.platforms actors (wires ++ hidden_wires 0 actors) links (map (pair_from d.platforms) d.pairs)

abbrev pub graph_from : List Named → Document → Graph
graph_from blocks d = graph_with d (actors_of blocks d) (wires_of d) (links_of d)

-- a kind without names and lists
abbrev pub is_number_kind : KindText → Bool
is_number_kind (text.Sensor file bound) = false
is_number_kind (text.Machine start outputs rows) = false
is_number_kind (text.Block block) = false
is_number_kind (text.Lanes cells) = false
is_number_kind _ = true
