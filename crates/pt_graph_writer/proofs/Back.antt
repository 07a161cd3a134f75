-- The text of a graph that was read gives the graph.
use Rattle.std.proofs.Common.{◌≡◌, ℕ, ◌≤◌, pos, Bool, true, false, cond, not, ◌&&◌, List, ◌++◌, map, length, nat_lt, Some, Result, Ok, Err, refl, sym, ap, subst, ◌∙◌, arith, unsigned_abs, IsUtf8, ◌==◌}
use Rattle.std.specs.Prelude.{⊤, option_map, position}
use Rattle.std.specs.List.{list_all}
use Rattle.std.proofs.lemmas.Bool.{and_parts, ltb-false, le-ltb}
use Rattle.std.proofs.lemmas.Option.{slice_get-get_or}
use Rattle.serde_json.specs.Data.{string}
use Rattle.serde_json.specs.Find.{as_str}
use Rattle.serde_json.specs.Read.{read}
use Rattle.serde_json.specs.View.{items_of}
use Rattle.pt_types.specs.declared.graph.Graph.{Graph}
use Rattle.pt_types.specs.declared.graph.Actor.{Actor}
use Rattle.pt_types.specs.Kinds.{is_between, visible_outputs}
use Rattle.pt_types.specs.Groups.{held, actor_at, no_actor}
use Rattle.pt_types.specs.Ends.{hidden_wires}
use Rattle.pt_blocks.specs.declared.blocks.Named.{Named}
use Rattle.pt_graph_text.specs.declared.version.Version.{Version}
use Rattle.pt_graph_text.specs.declared.version.Version.TheVariants.{First, Second}
use Rattle.pt_graph_text.specs.declared.document.Document.{Document}
use Rattle.pt_graph_text.specs.declared.document.ActorText.{ActorText}
use Rattle.pt_graph_text.specs.declared.fault.GraphFault.{GraphFault}
use Rattle.pt_graph_text.specs.declared.fault.GraphFault.TheVariants as fault
use Rattle.pt_graph_text.specs.declared.fault.Part.TheVariants as part
use Rattle.pt_graph_text.specs.Decoding.{whole, each_from}
use Rattle.pt_graph_text.specs.Documents.{actor_of, wire_of, link_of, pair_of}
use Rattle.pt_graph_text.specs.Whole.{document_of, document_in, head_of}
use Rattle.pt_graph_text.specs.Faults.{◌>>=◌, or_fault, at}
use Rattle.pt_graph.specs.Chains.{refused}
use Rattle.pt_graph.specs.Limits.{most_actors}
use Rattle.pt_graph.specs.Ranges.{is_time_number, head_in_range}
use Rattle.pt_graph.specs.Known.{first_named, name_of_actor as text_name}
use Rattle.pt_graph.specs.EndFaults.{checked_ends, has_blocks, block_place}
use Rattle.pt_graph.specs.Graphs.{actor_from, wire_from, link_from, pair_from, actors_of, wires_of, links_of, graph_from}
use Rattle.pt_graph.specs.Graphs as graphs
use Rattle.pt_graph.specs.GraphOf.{graph_of, graph_in, checked, built, json_of}
use Rattle.pt_graph.proofs.Checked.{NoneFound, none_found, has_limits, has_ranges, all_known}
use Rattle.pt_graph.proofs.InRange.{length_map}
use Rattle.pt_graph.proofs.Joins.{Joins, joins, both_ok, none_refused, none_mapped, all_pass}
use Rattle.pt_types.proofs.Distinct.{mapped_at}
use Rattle.pt_graph.proofs.Texts.{json_of-text}
use Rattle.pt_graph_writer.specs.Text.{natural, actor_data, wire_data, link_data, pair_data, visible_wires, graph_data, kind_fits}
use Rattle.pt_graph_writer.proofs.Wholes.{whole_time, each_back, each_turned}
use Rattle.pt_graph_writer.proofs.NamesBack.{blocks_back}
use Rattle.pt_graph_writer.proofs.PartsBack.{Has, actors_back, wires_back, links_back, pairs_back, names_back}
use Rattle.pt_graph_writer.proofs.WiresBack.{HasOutputs, visible_only}
use Rattle.pt_graph_writer.proofs.Second.{second, second_checked, second_built}
use Rattle.pt_types.specs.Limits.{most_graph_bytes}

-- a document that gave a graph
record Source (blocks : List Named) (g : Graph) : Type 0 where
  document : Document
  checks : NoneFound document
  joins : Joins (actors_of blocks document) (wires_of document) (links_of document)
  blocks_known : list_all (λ (a : ActorText). has_blocks blocks a.kind) document.actors ≡ true
  gives : built blocks document ≡ Ok g
  graph : g ≡ graph_from blocks document

not_long : {A B : Type 0} (b : Bool) (e : B) (r : Result A B) (y : A) → cond b (Err e) r ≡ Ok y → r ≡ Ok y
not_long true e r y h = cc
not_long false e r y h = h

record BuiltFrom (blocks : List Named) (d : Document) (g : Graph) : Type 0 where
  joins : Joins (actors_of blocks d) (wires_of d) (links_of d)
  blocks_known : list_all (λ (a : ActorText). has_blocks blocks a.kind) d.actors ≡ true
  graph : g ≡ graph_from blocks d

same_graph : (g h : Graph) → ◌≡◌ {A = Result Graph GraphFault} (Ok h) (Ok g) → g ≡ h
same_graph g h e = cc

built_from : (blocks : List Named) (d : Document) (g : Graph) → built blocks d ≡ Ok g → BuiltFrom blocks d g
unfolding built
built_from blocks d g h =
    let a = both_ok (checked_ends (actors_of blocks d) (wires_of d) (links_of d)) (λ done. refused (option_map fault.Block (block_place blocks d)) >>= (λ done. Ok (graph_from blocks d))) g h in
    let b = both_ok (refused (option_map fault.Block (block_place blocks d))) (λ done. Ok (graph_from blocks d)) g a.2 in
    let none = none_mapped fault.Block (block_place blocks d) (none_refused (option_map fault.Block (block_place blocks d)) b.0 b.1) in
    let lost = position (λ (a : ActorText). not (has_blocks blocks a.kind)) d.actors in
    record {
      joins = joins (actors_of blocks d) (wires_of d) (links_of d) a.0 a.1;
      blocks_known = all_pass (λ (a : ActorText). has_blocks blocks a.kind) d.actors (none_mapped (at part.Actor) lost none);
      graph = same_graph g (graph_from blocks d) b.2;
    }

checks_of : (d : Document) (x : ⊤) → checked d ≡ Ok x → NoneFound d
checks_of d x h = none_found d h

source_of : (blocks : List Named) (bytes : List ℕ) (g : Graph) → graph_of blocks bytes ≡ Ok g → Source blocks g
unfolding graph_of graph_in
source_of blocks bytes g h =
    let inside = not_long (nat_lt most_graph_bytes (length bytes)) fault.TooLong (graph_in blocks bytes) g h in
    let a = both_ok (or_fault fault.NotJson (json_of bytes)) (λ value. document_of value >>= (λ d. checked d >>= (λ done. built blocks d))) g inside in
    let b = both_ok (document_of a.0) (λ d. checked d >>= (λ done. built blocks d)) g a.2 in
    let c = both_ok (checked b.0) (λ done. built blocks b.0) g b.2 in
    let d = built_from blocks b.0 g c.2 in
    record { document = b.0; checks = checks_of b.0 c.0 c.1; joins = d.joins; blocks_known = d.blocks_known; gives = c.2; graph = d.graph }

-- the parts of the graph of a document
record IsFrom (g : Graph) (blocks : List Named) (d : Document) : Type 0 where
  until : g.until ≡ unsigned_abs d.head.until
  clock_error : g.clock_error ≡ unsigned_abs d.head.clock_error
  platforms : g.platforms ≡ d.platforms
  actors : g.actors ≡ map (actor_from blocks d.platforms) d.actors
  wires : g.wires ≡ wires_of d ++ hidden_wires 0 (actors_of blocks d)
  links : g.links ≡ links_of d
  pairs : g.clock_errors ≡ map (pair_from d.platforms) d.pairs

is_from : (blocks : List Named) (d : Document) → IsFrom (graph_from blocks d) blocks d
unfolding graphs.whole_graph
is_from blocks d = record { until = refl; clock_error = refl; platforms = refl; actors = refl; wires = refl; links = refl; pairs = refl }

-- the written value has these parts
read_parts : (g : Graph) (blocks : List Named) (d : Document) → whole (natural g.until) ≡ Some d.head.until → whole (natural g.clock_error) ≡ Some d.head.clock_error
    → each_from as_str 0 (items_of (map string g.platforms)) ≡ Ok d.platforms
    → each_from (actor_of Second) 0 (items_of (map (actor_data g blocks) g.actors)) ≡ Ok d.actors
    → each_from (wire_of Second) 0 (items_of (map (wire_data g) (visible_wires g))) ≡ Ok d.wires
    → each_from (link_of Second) 0 (items_of (map (link_data g) g.links)) ≡ Ok d.links
    → each_from (pair_of Second) 0 (items_of (map (pair_data g) g.clock_errors)) ≡ Ok d.pairs
    → document_of (graph_data g blocks) ≡ Ok (second d)
unfolding graph_data document_in head_of
read_parts g blocks d until clock_error platforms actors wires links pairs = rw (until, clock_error, platforms, actors, wires, links, pairs) refl

has_outputs : (blocks : List Named) (platforms : List (List ℕ)) (actors : List ActorText) → HasOutputs (map (actor_from blocks platforms) actors)
has_outputs blocks platforms actors i less =
    let turned = map (actor_from blocks platforms) actors in
    let it = mapped_at (actor_from blocks platforms) actors i (actor_at turned i) (slice_get-get_or turned i no_actor less) in
    subst (λ (a : Actor). a.outputs ≡ held (visible_outputs a.kind)) it.2 refl

head_times : (d : Document) → (head_in_range d.head && not (length d.platforms == 0)) ≡ true → (is_time_number d.head.until ≡ true) × (is_time_number d.head.clock_error ≡ true)
head_times d h =
    let parts = and_parts (head_in_range d.head) (not (length d.platforms == 0)) h in
    let two = and_parts (is_between (pos 1) (pos 2) d.head.version && is_time_number d.head.until) (is_time_number d.head.clock_error) parts.0 in
    let one = and_parts (is_between (pos 1) (pos 2) d.head.version) (is_time_number d.head.until) two.0 in
    (one.1, two.1)

most_actors_are : (v : Version) (n : ℕ) → nat_lt (most_actors v) n ≡ false → n ≤ 1024
most_actors_are First n h = omega (arith, ltb-false 256 n h)
most_actors_are Second n h = ltb-false 1024 n h

document_back : (blocks : List Named) (g : Graph) (source : Source blocks g) → length blocks ≤ 64 → list_all (λ (a : Actor). kind_fits a.kind) g.actors ≡ true → document_of (graph_data g blocks) ≡ Ok (second source.document)
document_back blocks g source few fit =
    let d = source.document in
    let parts : IsFrom g blocks d = subst (λ (x : Graph). IsFrom x blocks d) (sym source.graph) (is_from blocks d) in
    let limits = has_limits d source.checks.many in
    let ranges = has_ranges d source.checks.range in
    let known = all_known d source.checks.unknown in
    let times = head_times d ranges.head in
    let few_actors : length d.actors ≤ 1024 = most_actors_are d.version (length d.actors) limits.actors in
    let few_platforms : length d.platforms ≤ 1024 = omega (arith, ltb-false 16 (length d.platforms) limits.platforms) in
    let few_turned : length (actors_of blocks d) ≤ 1024 = omega (arith, length_map (actor_from blocks d.platforms) d.actors) in
    let has : Has g blocks d.platforms d.actors = record { platforms_are = parts.platforms; actors_are = parts.actors; few_platforms = few_platforms; few_actors = few_actors } in
    let wires : visible_wires g ≡ wires_of d = rw (parts.actors, parts.wires) (visible_only (actors_of blocks d) (wires_of d) few_turned (has_outputs blocks d.platforms d.actors) source.joins.ends) in
    let numbers = first_named text_name d.actors in
    let fits_turned : list_all (λ (a : Actor). kind_fits a.kind) (map (actor_from blocks d.platforms) d.actors) ≡ true = rw parts.actors at fit in
    let actors = each_turned (actor_of Second) (actor_data g blocks) (actor_from blocks d.platforms) d.actors (actors_back g blocks d.platforms d.actors has (blocks_back blocks few) d.actors ranges.actors fits_turned source.blocks_known known.actors) in
    let wires_read = each_turned (wire_of Second) (wire_data g) (wire_from numbers) d.wires (wires_back g blocks d.platforms d.actors has d.wires ranges.wires known.wires) in
    let links_read = each_turned (link_of Second) (link_data g) (link_from numbers) d.links (links_back g blocks d.platforms d.actors has d.links ranges.links known.links) in
    let pairs_read = each_turned (pair_of Second) (pair_data g) (pair_from d.platforms) d.pairs (pairs_back g blocks d.platforms d.actors has d.pairs ranges.pairs known.pairs) in
    read_parts g blocks d
    (ap (λ n. whole (natural n)) parts.until ∙ whole_time d.head.until times.0)
    (ap (λ n. whole (natural n)) parts.clock_error ∙ whole_time d.head.clock_error times.1)
    (ap (λ xs. each_from as_str 0 (items_of (map string xs))) parts.platforms ∙ each_back as_str string 0 d.platforms (names_back d.platforms))
    (ap (λ xs. each_from (actor_of Second) 0 (items_of (map (actor_data g blocks) xs))) parts.actors ∙ actors)
    (ap (λ xs. each_from (wire_of Second) 0 (items_of (map (wire_data g) xs))) wires ∙ wires_read)
    (ap (λ xs. each_from (link_of Second) 0 (items_of (map (link_data g) xs))) parts.links ∙ links_read)
    (ap (λ xs. each_from (pair_of Second) 0 (items_of (map (pair_data g) xs))) parts.pairs ∙ pairs_read)

-- a text that has the written value gives the graph
pub reads_back : (blocks : List Named) (g : Graph) (bytes text : List ℕ) → length blocks ≤ 64 → list_all (λ (a : Actor). kind_fits a.kind) g.actors ≡ true → graph_of blocks bytes ≡ Ok g
    → IsUtf8 text → read text ≡ Some (graph_data g blocks) → length text ≤ most_graph_bytes → graph_of blocks text ≡ Ok g
unfolding graph_of graph_in
reads_back blocks g bytes text few fit given utf8 value short =
    let source = source_of blocks bytes g given in
    let json = json_of-text text (graph_data g blocks) (utf8, value) in
    let document = document_back blocks g source few fit in
    rw (le-ltb most_graph_bytes (length text) short, json, document, second_checked source.document source.checks, second_built blocks source.document, source.gives) refl
