-- Actors, wires, links and pairs are read back from what is written for them.
use Rattle.std.proofs.Common.{◌≡◌, ℕ, ◌≤◌, ℤ, pos, true, ◌&&◌, List, [], ◌∷◌, map, length, Some, refl, ap, ◌∙◌, arith}
use Rattle.std.specs.Prelude.{is_some, not, bytes_eq}
use Rattle.serde_json.specs.Data.{string}
use Rattle.serde_json.specs.Find.{as_str}
use Rattle.std.specs.List.{list_all}
use Rattle.std.proofs.lemmas.Bool.{and_parts}
use Rattle.pt_types.specs.declared.graph.Graph.{Graph}
use Rattle.pt_types.specs.declared.graph.Actor.{Actor}
use Rattle.pt_types.specs.Kinds.{is_between}
use Rattle.pt_blocks.specs.declared.blocks.Named.{Named}
use Rattle.pt_graph_text.specs.declared.version.Version.TheVariants.{Second}
use Rattle.pt_graph_text.specs.declared.document.ActorText.{ActorText}
use Rattle.pt_graph_text.specs.declared.document.WireText.{WireText}
use Rattle.pt_graph_text.specs.declared.document.LinkText.{LinkText}
use Rattle.pt_graph_text.specs.declared.document.PairText.{PairText}
use Rattle.pt_graph_text.specs.Documents.{actor_of, wire_of, link_of, pair_of}
use Rattle.pt_graph.specs.Ranges.{is_time_number, kind_in_range, wire_in_range, pair_in_range}
use Rattle.pt_graph.specs.Known.{first_named, is_platform, is_known, name_of_actor as text_name}
use Rattle.pt_graph.specs.EndFaults.{has_blocks}
use Rattle.pt_graph.specs.Graphs.{platform_number, kind_from, actor_from, wire_from, link_from, pair_from}
use Rattle.pt_graph_writer.specs.Text.{actor_data, wire_data, link_data, pair_data, kind_fits}
use Rattle.pt_types.specs.Lookups.{platform_name}
use Rattle.pt_graph_writer.proofs.Wholes.{whole_small, whole_time, AllBack}
use Rattle.pt_graph_writer.proofs.KindsBack.{NamesBlocks, IsGood, kind_data, kind_back}
use Rattle.pt_graph_writer.proofs.NamesBack.{platform_back, actor_back}

-- a graph has these platforms and the actors of these texts
pub record Has (g : Graph) (blocks : List Named) (platforms : List (List ℕ)) (actors : List ActorText) : Type 0 where
  pub platforms_are : g.platforms ≡ platforms
  pub actors_are : g.actors ≡ map (actor_from blocks platforms) actors
  pub few_platforms : length platforms ≤ 1024
  pub few_actors : length actors ≤ 1024

platform_is : (g : Graph) (blocks : List Named) (platforms : List (List ℕ)) (actors : List ActorText) (n : List ℕ) → Has g blocks platforms actors → is_platform platforms n ≡ true → platform_name g (platform_number platforms n) ≡ n
platform_is g blocks platforms actors n has known =
    rw (← has.platforms_are) (platform_back g n (rw has.platforms_are has.few_platforms) (rw has.platforms_are known))

one_actor : (g : Graph) (blocks : List Named) (platforms : List (List ℕ)) (actors : List ActorText) (a : ActorText) → Has g blocks platforms actors → NamesBlocks blocks
    → IsGood blocks a.kind → is_platform platforms a.platform ≡ true → actor_of Second (actor_data g blocks (actor_from blocks platforms a)) ≡ Some a
one_actor g blocks platforms actors a has names good known =
    ap (λ platform. actor_of Second (kind_data blocks a.name platform a.kind)) (platform_is g blocks platforms actors a.platform has known) ∙ kind_back blocks a.kind names good a.name a.platform

pub actors_back : (g : Graph) (blocks : List Named) (platforms : List (List ℕ)) (all : List ActorText) → Has g blocks platforms all → NamesBlocks blocks → (actors : List ActorText)
    → list_all (λ (a : ActorText). kind_in_range a.kind) actors ≡ true → list_all (λ (a : Actor). kind_fits a.kind) (map (actor_from blocks platforms) actors) ≡ true
    → list_all (λ (a : ActorText). has_blocks blocks a.kind) actors ≡ true → list_all (λ (a : ActorText). is_platform platforms a.platform) actors ≡ true
    → AllBack (actor_of Second) (λ a. actor_data g blocks (actor_from blocks platforms a)) actors
actors_back g blocks platforms all has names [] range fit block known = tt
actors_back g blocks platforms all has names (a ∷ actors) range fit block known =
    let ranges = and_parts (kind_in_range a.kind) (list_all (λ (x : ActorText). kind_in_range x.kind) actors) range in
    let fitting = and_parts (kind_fits (kind_from blocks a.kind)) (list_all (λ (x : Actor). kind_fits x.kind) (map (actor_from blocks platforms) actors)) fit in
    let with_blocks = and_parts (has_blocks blocks a.kind) (list_all (λ (x : ActorText). has_blocks blocks x.kind) actors) block in
    let knowing = and_parts (is_platform platforms a.platform) (list_all (λ (x : ActorText). is_platform platforms x.platform) actors) known in
    let good : IsGood blocks a.kind = record { range = ranges.0; fit = fitting.0; known = with_blocks.0 } in
    (one_actor g blocks platforms all a has names good knowing.0, actors_back g blocks platforms all has names actors ranges.1 fitting.1 with_blocks.1 knowing.1)

one_wire : (g : Graph) (blocks : List Named) (platforms : List (List ℕ)) (actors : List ActorText) (from to : List ℕ) (output input : ℤ) → Has g blocks platforms actors
    → is_between (pos 0) (pos 7) output ≡ true → is_between (pos 0) (pos 7) input ≡ true → is_some (first_named text_name actors from) ≡ true → is_some (first_named text_name actors to) ≡ true
    → wire_of Second (wire_data g (wire_from (first_named text_name actors) (record { from = from; output = output; to = to; input = input }))) ≡ Some (record { from = from; output = output; to = to; input = input })
unfolding wire_of
one_wire g blocks platforms actors from to output input has out_range in_range from_known to_known =
    rw (actor_back blocks platforms actors g from has.actors_are has.few_actors from_known, whole_small 0 7 output (omega arith) out_range, actor_back blocks platforms actors g to has.actors_are has.few_actors to_known, whole_small 0 7 input (omega arith) in_range) refl

pub wires_back : (g : Graph) (blocks : List Named) (platforms : List (List ℕ)) (actors : List ActorText) → Has g blocks platforms actors → (wires : List WireText)
    → list_all wire_in_range wires ≡ true → list_all (λ (w : WireText). is_known (first_named text_name actors) w.from w.to) wires ≡ true
    → AllBack (wire_of Second) (λ w. wire_data g (wire_from (first_named text_name actors) w)) wires
wires_back g blocks platforms actors has [] range known = tt
wires_back g blocks platforms actors has (w ∷ wires) range known =
    let ranges = and_parts (wire_in_range w) (list_all wire_in_range wires) range in
    let ports = and_parts (is_between (pos 0) (pos 7) w.output) (is_between (pos 0) (pos 7) w.input) ranges.0 in
    let knowing = and_parts (is_known (first_named text_name actors) w.from w.to) (list_all (λ (x : WireText). is_known (first_named text_name actors) x.from x.to) wires) known in
    let ends = and_parts (is_some (first_named text_name actors w.from)) (is_some (first_named text_name actors w.to)) knowing.0 in
    (one_wire g blocks platforms actors w.from w.to w.output w.input has ports.0 ports.1 ends.0 ends.1, wires_back g blocks platforms actors has wires ranges.1 knowing.1)

one_link : (g : Graph) (blocks : List Named) (platforms : List (List ℕ)) (actors : List ActorText) (from to : List ℕ) (delay : ℤ) → Has g blocks platforms actors
    → is_time_number delay ≡ true → is_some (first_named text_name actors from) ≡ true → is_some (first_named text_name actors to) ≡ true
    → link_of Second (link_data g (link_from (first_named text_name actors) (record { from = from; to = to; delay = delay }))) ≡ Some (record { from = from; to = to; delay = delay })
unfolding link_of
one_link g blocks platforms actors from to delay has range from_known to_known =
    rw (actor_back blocks platforms actors g from has.actors_are has.few_actors from_known, actor_back blocks platforms actors g to has.actors_are has.few_actors to_known, whole_time delay range) refl

pub links_back : (g : Graph) (blocks : List Named) (platforms : List (List ℕ)) (actors : List ActorText) → Has g blocks platforms actors → (links : List LinkText)
    → list_all (λ (l : LinkText). is_time_number l.delay) links ≡ true → list_all (λ (l : LinkText). is_known (first_named text_name actors) l.from l.to) links ≡ true
    → AllBack (link_of Second) (λ l. link_data g (link_from (first_named text_name actors) l)) links
links_back g blocks platforms actors has [] range known = tt
links_back g blocks platforms actors has (l ∷ links) range known =
    let ranges = and_parts (is_time_number l.delay) (list_all (λ (x : LinkText). is_time_number x.delay) links) range in
    let knowing = and_parts (is_known (first_named text_name actors) l.from l.to) (list_all (λ (x : LinkText). is_known (first_named text_name actors) x.from x.to) links) known in
    let ends = and_parts (is_some (first_named text_name actors l.from)) (is_some (first_named text_name actors l.to)) knowing.0 in
    (one_link g blocks platforms actors l.from l.to l.delay has ranges.0 ends.0 ends.1, links_back g blocks platforms actors has links ranges.1 knowing.1)

one_pair : (g : Graph) (blocks : List Named) (platforms : List (List ℕ)) (actors : List ActorText) (a b : List ℕ) (error : ℤ) → Has g blocks platforms actors
    → is_time_number error ≡ true → is_platform platforms a ≡ true → is_platform platforms b ≡ true
    → pair_of Second (pair_data g (pair_from platforms (record { a = a; b = b; error = error }))) ≡ Some (record { a = a; b = b; error = error })
unfolding pair_of
one_pair g blocks platforms actors a b error has range a_known b_known =
    rw (platform_is g blocks platforms actors a has a_known, platform_is g blocks platforms actors b has b_known, whole_time error range) refl

pub pairs_back : (g : Graph) (blocks : List Named) (platforms : List (List ℕ)) (actors : List ActorText) → Has g blocks platforms actors → (pairs : List PairText)
    → list_all pair_in_range pairs ≡ true → list_all (λ (p : PairText). is_platform platforms p.a && is_platform platforms p.b) pairs ≡ true
    → AllBack (pair_of Second) (λ p. pair_data g (pair_from platforms p)) pairs
pairs_back g blocks platforms actors has [] range known = tt
pairs_back g blocks platforms actors has (p ∷ pairs) range known =
    let ranges = and_parts (pair_in_range p) (list_all pair_in_range pairs) range in
    let knowing = and_parts (is_platform platforms p.a && is_platform platforms p.b) (list_all (λ (x : PairText). is_platform platforms x.a && is_platform platforms x.b) pairs) known in
    let ends = and_parts (is_platform platforms p.a) (is_platform platforms p.b) knowing.0 in
    let time = and_parts (is_time_number p.error) (not (bytes_eq p.a p.b)) ranges.0 in
    (one_pair g blocks platforms actors p.a p.b p.error has time.0 ends.0 ends.1, pairs_back g blocks platforms actors has pairs ranges.1 knowing.1)

pub names_back : (names : List (List ℕ)) → AllBack as_str string names
names_back [] = tt
names_back (n ∷ names) = (refl, names_back names)
