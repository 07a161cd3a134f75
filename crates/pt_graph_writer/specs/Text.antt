-- The text of a graph: the compact JSON text of its file of version 2.
use Rattle.std.specs.Prelude.{ℕ, ℤ, pos, ◌^◌, ◌&&◌, Bool, true, List, [], ◌∷◌, map, codes, Option, Some, None, unwrap_or, int_lt}
use Rattle.std.specs.List.{filter, list_all}
use Rattle.serde_json.specs.Data.{unsigned, Data, null, number, string, array, object, Members, no_members, put}
use Rattle.serde_json.specs.Find.{of_integer}
use Rattle.serde_json.specs.View.{items_of}
use Rattle.serde_json.specs.Written.{compact_text}
use Rattle.pt_types.specs.declared.graph.Graph.{Graph}
use Rattle.pt_types.specs.declared.graph.Actor.{Actor}
use Rattle.pt_types.specs.declared.graph.Wire.{Wire}
use Rattle.pt_types.specs.declared.graph.Link.{Link}
use Rattle.pt_types.specs.declared.graph.PairError.{PairError}
use Rattle.pt_types.specs.declared.kind.Kind.{Kind}
use Rattle.pt_types.specs.declared.kind.Kind.TheVariants.{Sensor, Receive, Send, Actuator, Scale, Shift, Add, Sub, Above, Merge, Delay, Count, Sum, Latch, Machine, Every, Block, Lanes}
use Rattle.pt_types.specs.declared.kind.Law.{Law}
use Rattle.pt_types.specs.declared.kind.MachineRow.{MachineRow}
use Rattle.pt_types.specs.Ends.{ends_fit}
use Rattle.pt_blocks.specs.declared.blocks.Named.{Named}
use Rattle.pt_blocks.specs.Blocks.{name_at}
use Rattle.pt_types.specs.Lookups.{actor_name, platform_name}

-- an object with these members; its text has them in byte order of their keys
abbrev pub members : List (List ℕ × Data) → Members
members [] = no_members
members (m ∷ ms) = put m.0 m.1 (members ms)

-- the JSON value of an object with these members
abbrev pub fields : List (List ℕ × Data) → Data
fields ms = object (members ms)

-- an array of these entries
abbrev pub entries : {A : Type 0} → (A → Data) → List A → Data
entries f xs = array (items_of (map f xs))

-- a number that is not negative, and one that may be
abbrev pub natural : ℕ → Data
natural n = number (unsigned n)

abbrev pub whole_number : ℤ → Data
whole_number z = number (of_integer z)

-- the name of the block with this number
abbrev pub block_name : List Named → ℕ → List ℕ
block_name blocks n = unwrap_or (name_at blocks n) []

-- the member `emit` of a row: an output and its value, or `null`
abbrev pub emit_data : Option (ℕ × ℤ) → Data
emit_data None = null
emit_data (Some emit) = array (items_of (natural emit.0 ∷ whole_number emit.1 ∷ []))

-- the member `guard` of a row, if it has a guard
abbrev pub guard_fields : List Named → Option (ℕ × Law) → List (List ℕ × Data)
guard_fields blocks None = []
guard_fields blocks (Some guard) = (codes "guard", string (block_name blocks guard.0)) ∷ []

-- a row of a machine
abbrev pub row_fields : List Named → MachineRow → List (List ℕ × Data)
row_fields blocks r =
    (codes "state", whole_number r.state)
    ∷ (codes "low", whole_number r.low)
    ∷ (codes "high", whole_number r.high)
    ∷ (codes "next", whole_number r.next)
    ∷ (codes "emit", emit_data r.emit)
    ∷ guard_fields blocks r.guard

abbrev pub row_data : List Named → MachineRow → Data
row_data blocks r = fields (row_fields blocks r)

-- the word for a kind
abbrev pub kind_word : Kind → List ℕ
kind_word (Sensor file bound) = codes "sensor"
kind_word Receive = codes "receive"
kind_word (Send slack) = codes "send"
kind_word (Actuator slack) = codes "actuator"
kind_word (Scale num den) = codes "scale"
kind_word (Shift by) = codes "shift"
kind_word Add = codes "add"
kind_word Sub = codes "sub"
kind_word (Above limit) = codes "above"
kind_word (Merge n) = codes "merge"
kind_word (Delay d) = codes "delay"
kind_word Count = codes "count"
kind_word Sum = codes "sum"
kind_word Latch = codes "latch"
kind_word (Machine start outputs rows) = codes "machine"
kind_word (Every start period) = codes "every"
kind_word (Block block law) = codes "block"
kind_word (Lanes cells) = codes "lanes"

-- the members that are particular to a kind
abbrev pub kind_fields : List Named → Kind → List (List ℕ × Data)
kind_fields blocks (Sensor file bound) = (codes "file", string file) ∷ (codes "bound", natural bound) ∷ []
kind_fields blocks (Send slack) = (codes "slack", natural slack) ∷ []
kind_fields blocks (Actuator slack) = (codes "slack", natural slack) ∷ []
kind_fields blocks (Scale num den) = (codes "num", whole_number num) ∷ (codes "den", whole_number den) ∷ []
kind_fields blocks (Shift by) = (codes "by", whole_number by) ∷ []
kind_fields blocks (Above limit) = (codes "limit", whole_number limit) ∷ []
kind_fields blocks (Merge n) = (codes "n", natural n) ∷ []
kind_fields blocks (Delay d) = (codes "d", natural d) ∷ []
kind_fields blocks (Machine start outputs rows) = (codes "start", whole_number start) ∷ (codes "outputs", natural outputs) ∷ (codes "rows", entries (row_data blocks) rows) ∷ []
kind_fields blocks (Every start period) = (codes "start", natural start) ∷ (codes "period", natural period) ∷ []
kind_fields blocks (Block block law) = (codes "block", string (block_name blocks block)) ∷ []
kind_fields blocks (Lanes cells) = (codes "cells", entries natural cells) ∷ []
kind_fields blocks _ = []

-- the number is below 2 ^ 63, as in a file that is read
abbrev pub fits : ℤ → Bool
fits z = int_lt z (pos (2 ^ 63))

-- the value that a row gives fits
abbrev pub emit_fits : Option (ℕ × ℤ) → Bool
emit_fits None = true
emit_fits (Some emit) = fits emit.1

-- the numbers of a row fit
abbrev pub row_numbers_fit : MachineRow → Bool
row_numbers_fit r = fits r.state && fits r.low && fits r.high && fits r.next && emit_fits r.emit

-- the numbers of a kind that have no range of their own fit
abbrev pub kind_fits : Kind → Bool
kind_fits (Shift by) = fits by
kind_fits (Above limit) = fits limit
kind_fits (Machine start outputs rows) = fits start && list_all row_numbers_fit rows
kind_fits _ = true

-- an actor has its name, the name of its platform, the word for its kind, and the members of the kind
abbrev pub actor_members : Graph → List Named → Actor → List (List ℕ × Data)
actor_members g blocks a =
    (codes "name", string a.name)
    ∷ (codes "platform", string (platform_name g a.platform))
    ∷ (codes "kind", string (kind_word a.kind))
    ∷ kind_fields blocks a.kind

abbrev pub actor_data : Graph → List Named → Actor → Data
actor_data g blocks a = fields (actor_members g blocks a)

-- a wire: the names of its actors, each followed by the number of the port
abbrev pub wire_data : Graph → Wire → Data
wire_data g w = array (items_of (string (actor_name g w.from) ∷ natural w.output ∷ string (actor_name g w.to) ∷ natural w.input ∷ []))

-- a link: the names of its sender and its receiver, and its delay
abbrev pub link_members : Graph → Link → List (List ℕ × Data)
link_members g l = (codes "from", string (actor_name g l.from)) ∷ (codes "to", string (actor_name g l.to)) ∷ (codes "delay", natural l.delay) ∷ []

abbrev pub link_data : Graph → Link → Data
link_data g l = fields (link_members g l)

-- a pair: the names of its platforms, and their clock error
abbrev pub pair_data : Graph → PairError → Data
pair_data g p = array (items_of (string (platform_name g p.a) ∷ string (platform_name g p.b) ∷ natural p.error ∷ []))

-- the wires of the file: those whose ends are visible ports
abbrev pub visible_wires : Graph → List Wire
visible_wires g = filter (ends_fit g.actors) g.wires

-- the members of a file of version 2; all entries are in the order of the graph
abbrev pub graph_members : Graph → List Named → List (List ℕ × Data)
graph_members g blocks =
    (codes "ptides", natural 2)
    ∷ (codes "until", natural g.until)
    ∷ (codes "clock_error", natural g.clock_error)
    ∷ (codes "platforms", entries string g.platforms)
    ∷ (codes "actors", entries (actor_data g blocks) g.actors)
    ∷ (codes "wires", entries (wire_data g) (visible_wires g))
    ∷ (codes "links", entries (link_data g) g.links)
    ∷ (codes "clock_errors", entries (pair_data g) g.clock_errors)
    ∷ []

unfoldable pub graph_data : Graph → List Named → Data
graph_data g blocks = fields (graph_members g blocks)

-- the text of the file, without spaces
abbrev pub graph_text : Graph → List Named → List ℕ
graph_text g blocks = compact_text (graph_data g blocks)
