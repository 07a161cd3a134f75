-- What a document has that passed its checks.
use Rattle.std.proofs.Common.{◌≡◌, Bool, true, false, not, ◌&&◌, List, [], length, map, nat_lt, None, Ok, option_map, ◌==◌}
use Rattle.std.specs.Prelude.{sum, position}
use Rattle.std.specs.List.{list_all, list_any}
use Rattle.pt_graph_text.specs.declared.document.Document.{Document}
use Rattle.pt_graph_text.specs.declared.document.LinkText.{LinkText}
use Rattle.pt_graph_text.specs.declared.document.WireText.{WireText}
use Rattle.pt_graph_text.specs.declared.document.PairText.{PairText}
use Rattle.pt_graph_text.specs.declared.document.ActorText.{ActorText}
use Rattle.pt_graph_text.specs.declared.fault.Part.{Part}
use Rattle.pt_graph_text.specs.declared.fault.Part.TheVariants as part
use Rattle.pt_graph_text.specs.declared.fault.What.TheVariants as what
use Rattle.pt_graph_text.specs.declared.fault.GraphFault.TheVariants as fault
use Rattle.pt_graph_text.specs.Faults.{at, top}
use Rattle.pt_types.specs.Names.{is_name}
use Rattle.pt_types.specs.Lawful.{repeated_from}
use Rattle.pt_graph.specs.Chains.{◌<|>◌, found, first_index}
use Rattle.pt_graph.specs.Limits.{too_many, most_actors, most_wires, machine_row_count, lane_cell_count}
use Rattle.pt_graph.specs.Ranges.{is_time_number, kind_in_range, wire_in_range, pair_in_range, head_in_range, top_range, range_place}
use Rattle.pt_graph.specs.Naming.{actor_is_named, name_place}
use Rattle.pt_graph.specs.Known.{first_named, itself, name_of_actor, pair_again_from, is_platform, is_known, repeated_place, unknown_by, unknown_place}
use Rattle.pt_graph.specs.GraphOf.{checked}
use Rattle.pt_graph.proofs.Passing.{check_before}
use Rattle.pt_types.proofs.Conditions.{none_if, none_unless}
use Rattle.pt_graph.proofs.Joins.{none_first, none_mapped, none_refused, all_pass, all_from}

-- no check of a document found a fault
pub record NoneFound (d : Document) : Type 0 where
  pub many : too_many d ≡ None
  pub range : range_place d ≡ None
  pub name : name_place d ≡ None
  pub repeated : repeated_place d ≡ None
  pub unknown : unknown_place d ≡ None

pub none_found : (d : Document) → checked d ≡ Ok tt → NoneFound d
unfolding checked
none_found d h =
    let many = check_before (too_many d) _ tt h in
    let range = check_before (option_map fault.Range (range_place d)) _ tt many.1 in
    let name = check_before (option_map fault.Name (name_place d)) _ tt range.1 in
    let repeated = check_before (option_map fault.Repeated (repeated_place d)) _ tt name.1 in
    record {
      many = many.0;
      range = none_mapped fault.Range (range_place d) range.0;
      name = none_mapped fault.Name (name_place d) name.0;
      repeated = none_mapped fault.Repeated (repeated_place d) repeated.0;
      unknown = none_mapped fault.Unknown (unknown_place d) (none_refused (option_map fault.Unknown (unknown_place d)) tt repeated.1);
    }

pub record HasLimits (d : Document) : Type 0 where
  pub platforms : nat_lt 16 (length d.platforms) ≡ false
  pub actors : nat_lt (most_actors d.version) (length d.actors) ≡ false
  pub wires : nat_lt (most_wires d.version) (length d.wires) ≡ false
  pub links : nat_lt 64 (length d.links) ≡ false
  pub pairs : nat_lt 120 (length d.pairs) ≡ false
  pub rows : list_any (λ (a : ActorText). nat_lt 64 (machine_row_count a.kind)) d.actors ≡ false
  pub cells : nat_lt 1024 (sum (map (λ (a : ActorText). lane_cell_count a.kind) d.actors)) ≡ false

pub has_limits : (d : Document) → too_many d ≡ None → HasLimits d
unfolding too_many
has_limits d h =
    let platforms = none_if (nat_lt 16 (length d.platforms)) (fault.TooMany what.Platforms) _ h in
    let actors = none_if (nat_lt (most_actors d.version) (length d.actors)) (fault.TooMany what.Actors) _ platforms.1 in
    let wires = none_if (nat_lt (most_wires d.version) (length d.wires)) (fault.TooMany what.Wires) _ actors.1 in
    let links = none_if (nat_lt 64 (length d.links)) (fault.TooMany what.Links) _ wires.1 in
    let pairs = none_if (nat_lt 120 (length d.pairs)) (fault.TooMany what.Pairs) _ links.1 in
    let rows = none_if (list_any (λ (a : ActorText). nat_lt 64 (machine_row_count a.kind)) d.actors) (fault.TooMany what.Rows) _ pairs.1 in
    let cells = none_if (nat_lt 1024 (sum (map (λ (a : ActorText). lane_cell_count a.kind) d.actors))) (fault.TooMany what.Cells) _ rows.1 in
    record { platforms = platforms.0; actors = actors.0; wires = wires.0; links = links.0; pairs = pairs.0; rows = rows.0; cells = cells.0 }

-- none of these fails the test
none_at : {X : Type 0} (p : Part) (test : X → Bool) (xs : List X) → found p (position (λ x. not (test x)) xs) ≡ None → list_all test xs ≡ true
none_at p test xs h = all_pass test xs (none_mapped (at p) (position (λ x. not (test x)) xs) h)

none_from : {X : Type 0} (p : Part) (test : X → Bool) (xs : List X) → found p (first_index (λ x. not (test x)) xs) ≡ None → list_all test xs ≡ true
none_from p test xs h = all_from test 0 xs (none_mapped (at p) (first_index (λ x. not (test x)) xs) h)

pub record HasRanges (d : Document) : Type 0 where
  pub head : (head_in_range d.head && not (length d.platforms == 0)) ≡ true
  pub actors : list_all (λ (a : ActorText). kind_in_range a.kind) d.actors ≡ true
  pub wires : list_all wire_in_range d.wires ≡ true
  pub links : list_all (λ (l : LinkText). is_time_number l.delay) d.links ≡ true
  pub pairs : list_all pair_in_range d.pairs ≡ true

pub has_ranges : (d : Document) → range_place d ≡ None → HasRanges d
unfolding range_place
has_ranges d h =
    let pairs = none_first (top_range d <|> found part.Actor (position (λ (a : ActorText). not (kind_in_range a.kind)) d.actors) <|> found part.Wire (position (λ w. not (wire_in_range w)) d.wires) <|> found part.Link (position (λ (l : LinkText). not (is_time_number l.delay)) d.links)) (found part.Pair (position (λ p. not (pair_in_range p)) d.pairs)) h in
    let links = none_first (top_range d <|> found part.Actor (position (λ (a : ActorText). not (kind_in_range a.kind)) d.actors) <|> found part.Wire (position (λ w. not (wire_in_range w)) d.wires)) (found part.Link (position (λ (l : LinkText). not (is_time_number l.delay)) d.links)) pairs.0 in
    let wires = none_first (top_range d <|> found part.Actor (position (λ (a : ActorText). not (kind_in_range a.kind)) d.actors)) (found part.Wire (position (λ w. not (wire_in_range w)) d.wires)) links.0 in
    let actors = none_first (top_range d) (found part.Actor (position (λ (a : ActorText). not (kind_in_range a.kind)) d.actors)) wires.0 in
    record {
      head = none_unless (head_in_range d.head && not (length d.platforms == 0)) top actors.0;
      actors = none_at part.Actor (λ (a : ActorText). kind_in_range a.kind) d.actors actors.1;
      wires = none_at part.Wire wire_in_range d.wires wires.1;
      links = none_at part.Link (λ (l : LinkText). is_time_number l.delay) d.links links.1;
      pairs = none_at part.Pair pair_in_range d.pairs pairs.1;
    }

pub record HasNames (d : Document) : Type 0 where
  pub platforms : list_all is_name d.platforms ≡ true
  pub actors : list_all actor_is_named d.actors ≡ true

pub has_names : (d : Document) → name_place d ≡ None → HasNames d
unfolding name_place
has_names d h =
    let pairs = none_first _ (found part.Pair (position (λ (p : PairText). not (is_name p.a && is_name p.b)) d.pairs)) h in
    let links = none_first _ (found part.Link (position (λ (l : LinkText). not (is_name l.from && is_name l.to)) d.links)) pairs.0 in
    let wires = none_first _ (found part.Wire (position (λ (w : WireText). not (is_name w.from && is_name w.to)) d.wires)) links.0 in
    let actors = none_first (found part.Platform (position (λ n. not (is_name n)) d.platforms)) (found part.Actor (position (λ a. not (actor_is_named a)) d.actors)) wires.0 in
    record { platforms = none_at part.Platform is_name d.platforms actors.0; actors = none_at part.Actor actor_is_named d.actors actors.1 }

pub record HasNoneTwice (d : Document) : Type 0 where
  pub platforms : repeated_from itself [] 0 d.platforms ≡ None
  pub actors : repeated_from name_of_actor [] 0 d.actors ≡ None
  pub pairs : pair_again_from [] 0 d.pairs ≡ None

pub has_none_twice : (d : Document) → repeated_place d ≡ None → HasNoneTwice d
unfolding repeated_place
has_none_twice d h =
    let pairs = none_first (found part.Platform (repeated_from itself [] 0 d.platforms) <|> found part.Actor (repeated_from name_of_actor [] 0 d.actors)) (found part.Pair (pair_again_from [] 0 d.pairs)) h in
    let actors = none_first (found part.Platform (repeated_from itself [] 0 d.platforms)) (found part.Actor (repeated_from name_of_actor [] 0 d.actors)) pairs.0 in
    record {
      platforms = none_mapped (at part.Platform) (repeated_from itself [] 0 d.platforms) actors.0;
      actors = none_mapped (at part.Actor) (repeated_from name_of_actor [] 0 d.actors) actors.1;
      pairs = none_mapped (at part.Pair) (pair_again_from [] 0 d.pairs) pairs.1;
    }

pub record IsKnown (d : Document) : Type 0 where
  pub actors : list_all (λ (a : ActorText). is_platform d.platforms a.platform) d.actors ≡ true
  pub wires : list_all (λ (w : WireText). is_known (first_named name_of_actor d.actors) w.from w.to) d.wires ≡ true
  pub links : list_all (λ (l : LinkText). is_known (first_named name_of_actor d.actors) l.from l.to) d.links ≡ true
  pub pairs : list_all (λ (p : PairText). is_platform d.platforms p.a && is_platform d.platforms p.b) d.pairs ≡ true

pub all_known : (d : Document) → unknown_place d ≡ None → IsKnown d
unfolding unknown_by
all_known d h =
    let actor_place = found part.Actor (position (λ (a : ActorText). not (is_platform d.platforms a.platform)) d.actors) in
    let wire_place = found part.Wire (first_index (λ (w : WireText). not (is_known (first_named name_of_actor d.actors) w.from w.to)) d.wires) in
    let link_place = found part.Link (first_index (λ (l : LinkText). not (is_known (first_named name_of_actor d.actors) l.from l.to)) d.links) in
    let pairs = none_first (actor_place <|> wire_place <|> link_place) (found part.Pair (position (λ (p : PairText). not (is_platform d.platforms p.a && is_platform d.platforms p.b)) d.pairs)) h in
    let links = none_first (actor_place <|> wire_place) link_place pairs.0 in
    let wires = none_first actor_place wire_place links.0 in
    record {
      actors = none_at part.Actor (λ (a : ActorText). is_platform d.platforms a.platform) d.actors wires.0;
      wires = none_from part.Wire (λ (w : WireText). is_known (first_named name_of_actor d.actors) w.from w.to) d.wires wires.1;
      links = none_from part.Link (λ (l : LinkText). is_known (first_named name_of_actor d.actors) l.from l.to) d.links links.1;
      pairs = none_at part.Pair (λ (p : PairText). is_platform d.platforms p.a && is_platform d.platforms p.b) d.pairs pairs.1;
    }
