-- The value of a graph has no float and nests six deep.
use Rattle.std.proofs.Common.{◌≡◌, ℕ, suc, ◌≤◌, ℤ, pos, negsuc, List, [], ◌∷◌, map, Bool, true, false, ◌||◌, Option, Some, None, Ordering, Less, Equal, Greater, refl, arith}
use Rattle.std.specs.Prelude.{⊤}
use Rattle.std.specs.Ordering.{nat_cmp, match_ordering}
use Rattle.std.specs.Cmp.Lexicographic.{slice_cmp}
use Rattle.serde_json.specs.Data.{Data, string, Items, Members, no_members, member, put, depth, items_depth, members_depth}
use Rattle.serde_json.specs.View.{items_of}
use Rattle.serde_json.specs.Written.{has_float, items_have_float, members_have_float}
use Rattle.pt_types.specs.declared.graph.Graph.{Graph}
use Rattle.pt_types.specs.declared.graph.Actor.{Actor}
use Rattle.pt_types.specs.declared.graph.Wire.{Wire}
use Rattle.pt_types.specs.declared.graph.Link.{Link}
use Rattle.pt_types.specs.declared.graph.PairError.{PairError}
use Rattle.pt_types.specs.declared.kind.Kind.{Kind}
use Rattle.pt_types.specs.declared.kind.Kind.TheVariants.{Machine, Lanes}
use Rattle.pt_types.specs.declared.kind.Law.{Law}
use Rattle.pt_types.specs.declared.kind.MachineRow.{MachineRow}
use Rattle.pt_blocks.specs.declared.blocks.Named.{Named}
use Rattle.pt_graph_writer.specs.Text.{members, fields, entries, natural, whole_number, block_name, emit_data, guard_fields, row_data, kind_word, kind_fields, actor_data, row_fields, actor_members, link_members, graph_members, wire_data, link_data, pair_data, visible_wires, graph_data}
use Rattle.pt_types.specs.Lookups.{platform_name, actor_name}

-- no float, and no deeper than n
pub record IsPlain (n : ℕ) (d : Data) : Type 0 where
  pub whole : has_float d ≡ false
  pub shallow : depth d ≤ n

record ArePlain (n : ℕ) (ms : Members) : Type 0 where
  whole : members_have_float ms ≡ false
  shallow : members_depth ms ≤ n

record ItemsArePlain (n : ℕ) (ds : Items) : Type 0 where
  whole : items_have_float ds ≡ false
  shallow : items_depth ds ≤ n

or_false : (a b : Bool) → a ≡ false → b ≡ false → (a || b) ≡ false
or_false true b p q = p
or_false false b p q = q

left_false : (a b : Bool) → (a || b) ≡ false → a ≡ false
left_false true b h = h
left_false false b h = refl

right_false : (a b : Bool) → (a || b) ≡ false → b ≡ false
right_false true b h = absurd cc
right_false false b h = h

one_more : (n : ℕ) (k : List ℕ) (d : Data) (ms : Members) → IsPlain n d → ArePlain n ms → ArePlain n (member k d ms)
one_more n k d ms p ps = record { whole = or_false (has_float d) (members_have_float ms) p.whole ps.whole; shallow = omega (arith, p.shallow, ps.shallow) }

first_plain : (n : ℕ) (k : List ℕ) (d : Data) (ms : Members) → ArePlain n (member k d ms) → IsPlain n d
first_plain n k d ms ps = record { whole = left_false (has_float d) (members_have_float ms) ps.whole; shallow = omega (arith, ps.shallow) }

rest_plain : (n : ℕ) (k : List ℕ) (d : Data) (ms : Members) → ArePlain n (member k d ms) → ArePlain n ms
rest_plain n k d ms ps = record { whole = right_false (has_float d) (members_have_float ms) ps.whole; shallow = omega (arith, ps.shallow) }

by_order : (n : ℕ) (o : Ordering) (a b c : Members) → ArePlain n a → ArePlain n b → ArePlain n c → ArePlain n (match_ordering o a b c)
by_order n Less a b c p q r = p
by_order n Equal a b c p q r = q
by_order n Greater a b c p q r = r

put_plain : (n : ℕ) (k : List ℕ) (d : Data) (ms : Members) → IsPlain n d → ArePlain n ms → ArePlain n (put k d ms)
put_plain n k d no_members p ps = one_more n k d no_members p ps
put_plain n k d (member l e ms) p ps =
    let rest = rest_plain n l e ms ps in
    by_order n (slice_cmp nat_cmp k l) (member k d (member l e ms)) (member l d ms) (member l e (put k d ms))
    (one_more n k d (member l e ms) p ps) (one_more n l d ms p rest)
    (one_more n l e (put k d ms) (first_plain n l e ms ps) (put_plain n k d ms p rest))

abbrev AllPlain : ℕ → List (List ℕ × Data) → Type 0
AllPlain n [] = ⊤
AllPlain n (m ∷ ms) = IsPlain n m.1 × AllPlain n ms

members_plain : (n : ℕ) (ms : List (List ℕ × Data)) → AllPlain n ms → ArePlain n (members ms)
members_plain n [] all = record { whole = refl; shallow = omega arith }
members_plain n (m ∷ ms) all = put_plain n m.0 m.1 (members ms) all.0 (members_plain n ms all.1)

plain_object : (n : ℕ) (ms : List (List ℕ × Data)) → AllPlain n ms → IsPlain (suc n) (fields ms)
plain_object n ms all =
    let inside = members_plain n ms all in
    record { whole = inside.whole; shallow = omega (arith, inside.shallow) }

plain_items : {A : Type 0} (n : ℕ) (f : A → Data) → ((x : A) → IsPlain n (f x)) → (xs : List A) → ItemsArePlain n (items_of (map f xs))
plain_items n f each [] = record { whole = refl; shallow = omega arith }
plain_items n f each (x ∷ xs) =
    let one = each x in
    let rest = plain_items n f each xs in
    record { whole = or_false (has_float (f x)) (items_have_float (items_of (map f xs))) one.whole rest.whole; shallow = omega (arith, one.shallow, rest.shallow) }

plain_array : {A : Type 0} (n : ℕ) (f : A → Data) → ((x : A) → IsPlain n (f x)) → (xs : List A) → IsPlain (suc n) (entries f xs)
plain_array n f each xs =
    let inside = plain_items n f each xs in
    record { whole = inside.whole; shallow = omega (arith, inside.shallow) }

plain_natural : (n m : ℕ) → IsPlain n (natural m)
plain_natural n m = record { whole = refl; shallow = omega arith }

plain_whole : (n : ℕ) (z : ℤ) → IsPlain n (whole_number z)
plain_whole n (pos m) = record { whole = refl; shallow = omega arith }
plain_whole n (negsuc m) = record { whole = refl; shallow = omega arith }

plain_string : (n : ℕ) (s : List ℕ) → IsPlain n (string s)
plain_string n s = record { whole = refl; shallow = omega arith }

plain_emit : (emit : Option (ℕ × ℤ)) → IsPlain 1 (emit_data emit)
plain_emit None = record { whole = refl; shallow = omega arith }
plain_emit (Some emit) =
    let value = plain_whole 0 emit.1 in
    record { whole = or_false (has_float (whole_number emit.1)) false value.whole refl; shallow = omega (arith, value.shallow) }

plain_guard : (n : ℕ) (blocks : List Named) (guard : Option (ℕ × Law)) → AllPlain n (guard_fields blocks guard)
plain_guard n blocks None = tt
plain_guard n blocks (Some guard) = (plain_string n (block_name blocks guard.0), tt)

plain_row : (blocks : List Named) (r : MachineRow) → IsPlain 2 (row_data blocks r)
plain_row blocks r =
    let all : AllPlain 1 (row_fields blocks r) = (plain_whole 1 r.state, (plain_whole 1 r.low, (plain_whole 1 r.high, (plain_whole 1 r.next, (plain_emit r.emit, plain_guard 1 blocks r.guard))))) in
    plain_object 1 (row_fields blocks r) all

plain_kind : (blocks : List Named) (k : Kind) → AllPlain 3 (kind_fields blocks k)
plain_kind blocks (Machine start outputs rows) = (plain_whole 3 start, (plain_natural 3 outputs, (plain_array 2 (row_data blocks) (plain_row blocks) rows, tt)))
plain_kind blocks (Lanes cells) = (plain_array 2 natural (plain_natural 2) cells, tt)
plain_kind blocks _ = search (plain_natural, plain_whole, plain_string) parts 4

plain_actor : (g : Graph) (blocks : List Named) (a : Actor) → IsPlain 4 (actor_data g blocks a)
plain_actor g blocks a =
    let all : AllPlain 3 (actor_members g blocks a) = (plain_string 3 a.name, (plain_string 3 (platform_name g a.platform), (plain_string 3 (kind_word a.kind), plain_kind blocks a.kind))) in
    plain_object 3 (actor_members g blocks a) all

plain_wire : (g : Graph) (w : Wire) → IsPlain 1 (wire_data g w)
plain_wire g w = record { whole = refl; shallow = omega arith }

plain_link : (g : Graph) (l : Link) → IsPlain 1 (link_data g l)
plain_link g l =
    let all : AllPlain 0 (link_members g l) = (plain_string 0 (actor_name g l.from), (plain_string 0 (actor_name g l.to), (plain_natural 0 l.delay, tt))) in
    plain_object 0 (link_members g l) all

plain_pair : (g : Graph) (p : PairError) → IsPlain 1 (pair_data g p)
plain_pair g p = record { whole = refl; shallow = omega arith }

pub plain_graph : (g : Graph) (blocks : List Named) → IsPlain 6 (graph_data g blocks)
unfolding graph_data
plain_graph g blocks =
    let all : AllPlain 5 (graph_members g blocks) = (plain_natural 5 2, (plain_natural 5 g.until, (plain_natural 5 g.clock_error, (deeper 1 _ (plain_array 0 string (plain_string 0) g.platforms) (omega arith), (plain_array 4 (actor_data g blocks) (plain_actor g blocks) g.actors, (deeper 2 _ (plain_array 1 (wire_data g) (plain_wire g) (visible_wires g)) (omega arith), (deeper 2 _ (plain_array 1 (link_data g) (plain_link g) g.links) (omega arith), (deeper 2 _ (plain_array 1 (pair_data g) (plain_pair g) g.clock_errors) (omega arith), tt)))))))) in
    plain_object 5 (graph_members g blocks) all
  where
    deeper : (n : ℕ) (d : Data) → IsPlain n d → n ≤ 5 → IsPlain 5 d
    deeper n d p few = record { whole = p.whole; shallow = omega (arith, p.shallow) }
