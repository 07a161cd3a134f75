-- A document that passed its checks passes them as one of version 2, and gives the same graph.
use Rattle.std.proofs.Common.{◌≡◌, ℕ, pos, false, not, ◌&&◌, List, length, nat_lt, Option, None, Ok, ◌==◌, refl, sym, subst, ◌∙◌, arith}
use Rattle.std.specs.Prelude.{position}
use Rattle.std.proofs.lemmas.Bool.{and_parts, ltb-false, le-ltb}
use Rattle.pt_blocks.specs.declared.blocks.Named.{Named}
use Rattle.pt_types.specs.Kinds.{is_between}
use Rattle.pt_graph_text.specs.declared.version.Version.{Version}
use Rattle.pt_graph_text.specs.declared.version.Version.TheVariants.{First, Second}
use Rattle.pt_graph_text.specs.declared.document.Document.{Document}
use Rattle.pt_graph_text.specs.declared.document.LinkText.{LinkText}
use Rattle.pt_graph_text.specs.declared.document.ActorText.{ActorText}
use Rattle.pt_graph_text.specs.declared.fault.Place.{Place}
use Rattle.pt_graph_text.specs.declared.fault.Part.TheVariants as part
use Rattle.pt_graph.specs.Chains.{◌<|>◌, found}
use Rattle.pt_graph.specs.Limits.{too_many, most_actors, most_wires}
use Rattle.pt_graph.specs.Ranges.{is_time_number, head_in_range, kind_in_range, wire_in_range, pair_in_range, top_range, range_place}
use Rattle.pt_graph.specs.Naming.{name_place}
use Rattle.pt_graph.specs.Known.{repeated_place, unknown_by}
use Rattle.pt_graph.specs.Graphs.{whole_graph}
use Rattle.pt_graph.specs.GraphOf.{checked, built}
use Rattle.pt_graph.proofs.Checked.{NoneFound, has_limits, HasRanges, has_ranges}

-- the document as one of version 2
abbrev pub second : Document → Document
second d = record {
  version = Second;
  head = record { version = pos 2; until = d.head.until; clock_error = d.head.clock_error };
  platforms = d.platforms;
  actors = d.actors;
  wires = d.wires;
  links = d.links;
  pairs = d.pairs;
}

few_actors : (v : Version) (n : ℕ) → nat_lt (most_actors v) n ≡ false → nat_lt 1024 n ≡ false
few_actors First n h = le-ltb 1024 n (omega (arith, ltb-false 256 n h))
few_actors Second n h = h

few_wires : (v : Version) (n : ℕ) → nat_lt (most_wires v) n ≡ false → nat_lt 4096 n ≡ false
few_wires First n h = le-ltb 4096 n (omega (arith, ltb-false 1024 n h))
few_wires Second n h = h

not_many : (d : Document) → too_many d ≡ None → too_many (second d) ≡ None
unfolding too_many
not_many d h =
    let limits = has_limits d h in
    rw (limits.platforms, few_actors d.version (length d.actors) limits.actors, few_wires d.version (length d.wires) limits.wires, limits.links, limits.pairs, limits.rows, limits.cells) refl

top_none : (d : Document) → HasRanges d → top_range (second d) ≡ None
top_none d ranges =
    let parts = and_parts (head_in_range d.head) (not (length d.platforms == 0)) ranges.head in
    let two = and_parts (is_between (pos 1) (pos 2) d.head.version && is_time_number d.head.until) (is_time_number d.head.clock_error) parts.0 in
    let one = and_parts (is_between (pos 1) (pos 2) d.head.version) (is_time_number d.head.until) two.0 in
    rw (one.1, two.1, parts.1) refl

top_first : (d : Document) → HasRanges d → top_range d ≡ None
top_first d ranges = rw ranges.head refl

abbrev other_places : Document → Option Place → Option Place
other_places d first =
    first
    <|> found part.Actor (position (λ (a : ActorText). not (kind_in_range a.kind)) d.actors)
    <|> found part.Wire (position (λ w. not (wire_in_range w)) d.wires)
    <|> found part.Link (position (λ (l : LinkText). not (is_time_number l.delay)) d.links)
    <|> found part.Pair (position (λ p. not (pair_in_range p)) d.pairs)

in_range : (d : Document) → range_place d ≡ None → range_place (second d) ≡ None
unfolding range_place
in_range d h =
    let ranges = has_ranges d h in
    subst (λ first. other_places d first ≡ None) (top_first d ranges ∙ sym (top_none d ranges)) h

pub second_checked : (d : Document) → NoneFound d → checked (second d) ≡ Ok tt
unfolding checked name_place repeated_place unknown_by
second_checked d none = rw (not_many d none.many, in_range d none.range, none.name, none.repeated, none.unknown) refl

pub second_built : (blocks : List Named) (d : Document) → built blocks (second d) ≡ built blocks d
unfolding built whole_graph
second_built blocks d = refl
