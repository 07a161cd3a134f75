-- The actors, wires and links of a document that passed its checks are lawful.
use Rattle.std.proofs.Common.{◌≡◌, ℕ, ◌≤◌, true, false, ◌&&◌, List, [], ◌∷◌, length, map, refl, nat_lt, nat_le, ◌==◌, pos, ℤ, is_some, arith}
use Rattle.std.specs.List.{list_all, list_any}
use Rattle.std.proofs.lemmas.Bool.{and_parts, and_from, or_parts, eq-eqb, lt-ltb, leb-true}
use Rattle.pt_types.specs.declared.graph.Actor.{Actor}
use Rattle.pt_types.specs.Names.{is_name}
use Rattle.pt_types.specs.Kinds as kinds
use Rattle.pt_types.specs.Kinds.{is_between, law_in_range, kind_is_lawful, visible_inputs, visible_outputs}
use Rattle.pt_types.specs.Groups.{held}
use Rattle.pt_types.specs.Lawful as lawful
use Rattle.pt_types.specs.Lawful.{actor_is_lawful, wire_is_lawful, link_is_lawful}
use Rattle.pt_blocks.specs.declared.blocks.Named.{Named}
use Rattle.pt_graph_text.specs.declared.document.ActorText.{ActorText}
use Rattle.pt_graph_text.specs.declared.document.WireText.{WireText}
use Rattle.pt_graph_text.specs.declared.document.LinkText.{LinkText}
use Rattle.pt_graph_text.specs.declared.kinds.KindText.{KindText}
use Rattle.pt_graph_text.specs.declared.kinds.KindText.TheVariants as text
use Rattle.pt_graph.specs.Limits.{machine_row_count, lane_cell_count}
use Rattle.pt_graph.specs.Ranges.{is_time_number, kind_in_range, wire_in_range}
use Rattle.pt_graph.specs.Naming.{actor_is_named, kind_is_named}
use Rattle.pt_graph.specs.Known.{first_named, itself, name_of_actor, is_platform, is_known}
use Rattle.pt_graph.specs.Graphs.{small, number_or_0, platform_number, kind_from, actor_from, wire_from, link_from}
use Rattle.pt_graph.proofs.InRange.{held_small, small_among, time_of, length_map}
use Rattle.pt_graph.proofs.KindsInRange.{kind_lawful}
use Rattle.pt_types.proofs.SmallKinds.{few_inputs, few_outputs}
use Rattle.pt_graph.proofs.Numbered.{number_below}

same_ports : (n : ℕ) → n ≤ 8 → (held n == n) ≡ true
same_ports n h = eq-eqb (held n) n (held_small n (omega arith))

actor_lawful : (blocks : List Named) (ns : List (List ℕ)) (a : ActorText) → length ns ≤ 1024 → list_all (λ (b : Named). law_in_range b.law) blocks ≡ true
    → kind_in_range a.kind ≡ true → actor_is_named a ≡ true → nat_lt 64 (machine_row_count a.kind) ≡ false → is_platform ns a.platform ≡ true → actor_is_lawful (length ns) (actor_from blocks ns a) ≡ true
actor_lawful blocks ns a few laws range names rows known =
    let names = and_parts (is_name a.name && is_name a.platform) (kind_is_named a.kind) names in
    let k = kind_from blocks a.kind in
    let p = platform_number ns a.platform in
    let lawful_kind = kind_lawful blocks a.kind laws range names.1 rows in
    and_from (is_name a.name && nat_lt p (length ns) && kind_is_lawful k && held (visible_inputs k) == visible_inputs k) (held (visible_outputs k) == visible_outputs k)
    (and_from (is_name a.name && nat_lt p (length ns) && kind_is_lawful k) (held (visible_inputs k) == visible_inputs k)
    (and_from (is_name a.name && nat_lt p (length ns)) (kind_is_lawful k)
    (and_from (is_name a.name) (nat_lt p (length ns)) (and_parts (is_name a.name) (is_name a.platform) names.0).0 (number_below itself ns a.platform few known))
    lawful_kind)
    (same_ports (visible_inputs k) (few_inputs k lawful_kind)))
    (same_ports (visible_outputs k) (few_outputs k lawful_kind))

pub actors_lawful : (blocks : List Named) (ns : List (List ℕ)) (actors : List ActorText) → length ns ≤ 1024 → list_all (λ (b : Named). law_in_range b.law) blocks ≡ true
    → list_all (λ (a : ActorText). kind_in_range a.kind) actors ≡ true → list_all actor_is_named actors ≡ true → list_any (λ (a : ActorText). nat_lt 64 (machine_row_count a.kind)) actors ≡ false
    → list_all (λ (a : ActorText). is_platform ns a.platform) actors ≡ true → list_all (actor_is_lawful (length ns)) (map (actor_from blocks ns) actors) ≡ true
actors_lawful blocks ns [] few laws range names rows known = refl
actors_lawful blocks ns (a ∷ actors) few laws range names rows known =
    let ranges = and_parts (kind_in_range a.kind) (list_all (λ (x : ActorText). kind_in_range x.kind) actors) range in
    let named = and_parts (actor_is_named a) (list_all actor_is_named actors) names in
    let fewer = or_parts (nat_lt 64 (machine_row_count a.kind)) (list_any (λ (x : ActorText). nat_lt 64 (machine_row_count x.kind)) actors) rows in
    let knowns = and_parts (is_platform ns a.platform) (list_all (λ (x : ActorText). is_platform ns x.platform) actors) known in
    and_from (actor_is_lawful (length ns) (actor_from blocks ns a)) (list_all (actor_is_lawful (length ns)) (map (actor_from blocks ns) actors))
    (actor_lawful blocks ns a few laws ranges.0 named.0 fewer.0 knowns.0)
    (actors_lawful blocks ns actors few laws ranges.1 named.1 fewer.1 knowns.1)

port_below : (z : ℤ) → is_between (pos 0) (pos 7) z ≡ true → nat_lt (small z) 8 ≡ true
port_below z h =
    let most = leb-true (small z) 7 (and_parts (nat_le 0 (small z)) (nat_le (small z) 7) (small_among 0 7 z (omega arith) h)).1 in
    lt-ltb (small z) 8 (omega arith)

wire_lawful : (actors : List ActorText) (w : WireText) → length actors ≤ 1024 → wire_in_range w ≡ true → is_known (first_named name_of_actor actors) w.from w.to ≡ true → wire_is_lawful (length actors) (wire_from (first_named name_of_actor actors) w) ≡ true
wire_lawful actors w few range known =
    let ends = and_parts (is_some (first_named name_of_actor actors w.from)) (is_some (first_named name_of_actor actors w.to)) known in
    let ports = and_parts (is_between (pos 0) (pos 7) w.output) (is_between (pos 0) (pos 7) w.input) range in
    let from = nat_lt (number_or_0 (first_named name_of_actor actors w.from)) (length actors) in
    let to = nat_lt (number_or_0 (first_named name_of_actor actors w.to)) (length actors) in
    and_from (from && to && nat_lt (small w.output) 8) (nat_lt (small w.input) 8)
    (and_from (from && to) (nat_lt (small w.output) 8)
    (and_from from to (number_below name_of_actor actors w.from few ends.0) (number_below name_of_actor actors w.to few ends.1))
    (port_below w.output ports.0))
    (port_below w.input ports.1)

pub wires_lawful : (actors : List ActorText) (ws : List WireText) → length actors ≤ 1024 → list_all wire_in_range ws ≡ true → list_all (λ (w : WireText). is_known (first_named name_of_actor actors) w.from w.to) ws ≡ true
    → list_all (wire_is_lawful (length actors)) (map (wire_from (first_named name_of_actor actors)) ws) ≡ true
wires_lawful actors [] few range known = refl
wires_lawful actors (w ∷ ws) few range known =
    let ranges = and_parts (wire_in_range w) (list_all wire_in_range ws) range in
    let knowns = and_parts (is_known (first_named name_of_actor actors) w.from w.to) (list_all (λ (x : WireText). is_known (first_named name_of_actor actors) x.from x.to) ws) known in
    and_from (wire_is_lawful (length actors) (wire_from (first_named name_of_actor actors) w)) (list_all (wire_is_lawful (length actors)) (map (wire_from (first_named name_of_actor actors)) ws))
    (wire_lawful actors w few ranges.0 knowns.0) (wires_lawful actors ws few ranges.1 knowns.1)

link_lawful : (actors : List ActorText) (l : LinkText) → length actors ≤ 1024 → is_time_number l.delay ≡ true → is_known (first_named name_of_actor actors) l.from l.to ≡ true → link_is_lawful (length actors) (link_from (first_named name_of_actor actors) l) ≡ true
link_lawful actors l few range known =
    let ends = and_parts (is_some (first_named name_of_actor actors l.from)) (is_some (first_named name_of_actor actors l.to)) known in
    let from = nat_lt (number_or_0 (first_named name_of_actor actors l.from)) (length actors) in
    let to = nat_lt (number_or_0 (first_named name_of_actor actors l.to)) (length actors) in
    and_from (from && to) (kinds.is_time (link_from (first_named name_of_actor actors) l).delay)
    (and_from from to (number_below name_of_actor actors l.from few ends.0) (number_below name_of_actor actors l.to few ends.1))
    (time_of l.delay range)

pub links_lawful : (actors : List ActorText) (ls : List LinkText) → length actors ≤ 1024 → list_all (λ (l : LinkText). is_time_number l.delay) ls ≡ true → list_all (λ (l : LinkText). is_known (first_named name_of_actor actors) l.from l.to) ls ≡ true
    → list_all (link_is_lawful (length actors)) (map (link_from (first_named name_of_actor actors)) ls) ≡ true
links_lawful actors [] few range known = refl
links_lawful actors (l ∷ ls) few range known =
    let ranges = and_parts (is_time_number l.delay) (list_all (λ (x : LinkText). is_time_number x.delay) ls) range in
    let knowns = and_parts (is_known (first_named name_of_actor actors) l.from l.to) (list_all (λ (x : LinkText). is_known (first_named name_of_actor actors) x.from x.to) ls) known in
    and_from (link_is_lawful (length actors) (link_from (first_named name_of_actor actors) l)) (list_all (link_is_lawful (length actors)) (map (link_from (first_named name_of_actor actors)) ls))
    (link_lawful actors l few ranges.0 knowns.0) (links_lawful actors ls few ranges.1 knowns.1)

cells_same : (blocks : List Named) (k : KindText) → lawful.cell_count (kind_from blocks k) ≡ lane_cell_count k
cells_same blocks (text.Lanes cells) = length_map small cells
cells_same blocks _ = refl

pub cells_of_all : (blocks : List Named) (ns : List (List ℕ)) (actors : List ActorText) → map (λ (a : Actor). lawful.cell_count a.kind) (map (actor_from blocks ns) actors) ≡ map (λ (a : ActorText). lane_cell_count a.kind) actors
cells_of_all blocks ns [] = refl
cells_of_all blocks ns (a ∷ actors) =
    let one = cells_same blocks a.kind in
    let rest = cells_of_all blocks ns actors in
    cc
