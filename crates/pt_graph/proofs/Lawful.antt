-- Each graph that the definition gives is lawful.
use Rattle.std.proofs.Common.{◌≡◌, ℕ, pos, ◌≤◌, true, not, ◌&&◌, List, [], length, map, refl, subst, sym, ◌==◌, Result, Ok, Err, IfOk, arith}
use Rattle.std.specs.Prelude.{sum}
use Rattle.std.specs.List.{list_all}
use Rattle.std.proofs.lemmas.Bool.{and_parts, ltb-false}
use Rattle.std.proofs.lemmas.Bool.Decides.{nat_tests}
use Rattle.pt_types.specs.declared.graph.Graph.{Graph}
use Rattle.pt_types.specs.declared.graph.Actor.{Actor}
use Rattle.pt_types.specs.Kinds.{is_between, law_in_range}
use Rattle.pt_types.specs.Lawful.{IsLawful, wire_is_lawful, link_is_lawful}
use Rattle.pt_blocks.specs.declared.blocks.Named.{Named}
use Rattle.pt_blocks.specs.Blocks.{AreBlocks}
use Rattle.pt_graph_text.specs.declared.document.Document.{Document}
use Rattle.pt_graph_text.specs.declared.document.ActorText.{ActorText}
use Rattle.pt_graph_text.specs.declared.version.Version.{Version}
use Rattle.pt_graph_text.specs.declared.version.Version.TheVariants.{First, Second}
use Rattle.pt_graph_text.specs.declared.fault.GraphFault.{GraphFault}
use Rattle.pt_graph_text.specs.Faults.{Gives}
use Rattle.pt_graph.specs.Limits.{most_actors, most_wires, lane_cell_count}
use Rattle.pt_graph.specs.Ranges.{is_time_number, head_in_range}
use Rattle.pt_graph.specs.Ranges as ranges
use Rattle.pt_graph.specs.Known.{first_named, name_of_actor}
use Rattle.pt_graph.specs.Graphs.{actor_from, wire_from, link_from, pair_from, actors_of, wires_of, links_of, graph_from, whole_graph}
use Rattle.pt_graph.specs.GraphOf.{graph_in, graph_of}
use Rattle.pt_graph.proofs.Checked.{NoneFound, none_found, has_limits, has_ranges, has_names, has_none_twice, all_known}
use Rattle.pt_graph.proofs.InRange.{time_of, length_map}
use Rattle.pt_graph.proofs.Numbered.{repeated_map}
use Rattle.pt_graph.proofs.Converted.{actors_lawful, wires_lawful, links_lawful, cells_of_all}
use Rattle.pt_graph.proofs.Pairs.{pairs_lawful, no_pair_again}
use Rattle.pt_graph.proofs.Joins.{Joins, Given, graph_in-given, graph_of-given}

fewest_actors : (v : Version) → most_actors v ≤ 1024
fewest_actors First = omega arith
fewest_actors Second = omega arith

fewest_wires : (v : Version) → most_wires v ≤ 4096
fewest_wires First = omega arith
fewest_wires Second = omega arith

head_parts : (d : Document) → (head_in_range d.head && not (length d.platforms == 0)) ≡ true → (ranges.is_time_number d.head.until ≡ true) × (ranges.is_time_number d.head.clock_error ≡ true) × (1 ≤ length d.platforms)
head_parts d h =
    let parts = and_parts (head_in_range d.head) (not (length d.platforms == 0)) h in
    let two = and_parts (is_between (pos 1) (pos 2) d.head.version && ranges.is_time_number d.head.until) (ranges.is_time_number d.head.clock_error) parts.0 in
    let one = and_parts (is_between (pos 1) (pos 2) d.head.version) (ranges.is_time_number d.head.until) two.0 in
    (one.1, two.1, some_length (length d.platforms) parts.1)
  where
    some_length : (n : ℕ) → not (n == 0) ≡ true → 1 ≤ n
    some_length n e = grind (arith, nat_tests)

-- the graph of a document that passed all its checks
graph_lawful : (blocks : List Named) (d : Document) → list_all (λ (b : Named). law_in_range b.law) blocks ≡ true → NoneFound d → Joins (actors_of blocks d) (wires_of d) (links_of d) → IsLawful (graph_from blocks d)
unfolding whole_graph
graph_lawful blocks d laws checks ends =
    let limits = has_limits d checks.many in
    let in_range = has_ranges d checks.range in
    let names = has_names d checks.name in
    let none_twice = has_none_twice d checks.repeated in
    let known = all_known d checks.unknown in
    let head = head_parts d in_range.head in
    let few_platforms : length d.platforms ≤ 16 = ltb-false 16 (length d.platforms) limits.platforms in
    let few_names : length d.platforms ≤ 1024 = omega arith in
    let few_actors : length d.actors ≤ 1024 = omega (arith, ltb-false (most_actors d.version) (length d.actors) limits.actors, fewest_actors d.version) in
    let few_wires : length d.wires ≤ 4096 = omega (arith, ltb-false (most_wires d.version) (length d.wires) limits.wires, fewest_wires d.version) in
    let actor_count : length (actors_of blocks d) ≡ length d.actors = length_map (actor_from blocks d.platforms) d.actors in
    record {
      until = time_of d.head.until head.0;
      clock_error = time_of d.head.clock_error head.1;
      few_claims = omega arith;
      some_platform = head.2;
      few_platforms = few_platforms;
      few_actors = omega arith;
      few_links = omega (arith, ltb-false 64 (length d.links) limits.links, length_map (link_from (first_named name_of_actor d.actors)) d.links);
      few_pairs = omega (arith, ltb-false 120 (length d.pairs) limits.pairs, length_map (pair_from d.platforms) d.pairs);
      few_cells = subst (λ ns. sum ns ≤ 1024) (sym (cells_of_all blocks d.platforms d.actors)) (ltb-false 1024 (sum (map (λ (a : ActorText). lane_cell_count a.kind) d.actors)) limits.cells);
      visible = wires_of d;
      few_wires = omega (arith, length_map (wire_from (first_named name_of_actor d.actors)) d.wires);
      wires = refl;
      platforms = names.platforms;
      actors = actors_lawful blocks d.platforms d.actors few_names laws in_range.actors names.actors limits.rows known.actors;
      ports = subst (λ n. list_all (wire_is_lawful n) (wires_of d) ≡ true) (sym actor_count) (wires_lawful d.actors d.wires few_actors in_range.wires known.wires);
      links = subst (λ n. list_all (link_is_lawful n) (links_of d) ≡ true) (sym actor_count) (links_lawful d.actors d.links few_actors in_range.links known.links);
      pairs = pairs_lawful d.platforms d.pairs few_names in_range.pairs known.pairs;
      other_platforms = none_twice.platforms;
      other_actors = repeated_map (actor_from blocks d.platforms) (λ (a : Actor). a.name) [] 0 d.actors none_twice.actors;
      other_pairs = no_pair_again d.platforms [] 0 d.pairs few_names refl known.pairs none_twice.pairs;
      ends = ends.ends;
      home = ends.home;
      fed_once = ends.fed_once;
      fed = ends.fed;
      linked = ends.linked;
      one_link = ends.one_link;
    }

given_lawful : (blocks : List Named) (g : Graph) → AreBlocks blocks → Given blocks g → IsLawful g
given_lawful blocks g are_blocks given = subst IsLawful (sym given.graph) (graph_lawful blocks given.document are_blocks.1 (none_found given.document given.checks.1) given.joined)

-- where blocks have laws in their ranges, the graph of a text is lawful
pub lawful_of : (blocks : List Named) (bytes : List ℕ) (g : Graph) → AreBlocks blocks → graph_of blocks bytes ≡ Ok g → IsLawful g
lawful_of blocks bytes g are_blocks h = given_lawful blocks g are_blocks (graph_of-given blocks bytes g h)

-- what reads a text that is not too long gives a lawful graph, or none
pub lawful_result : (blocks : List Named) (bytes : List ℕ) (result : Result Graph GraphFault) → AreBlocks blocks → Gives (graph_in blocks bytes) result → IfOk result IsLawful
lawful_result blocks bytes (Ok g) are_blocks h = given_lawful blocks g are_blocks (graph_in-given blocks bytes g h)
lawful_result blocks bytes (Err e) are_blocks h = tt
