-- A lawful graph can be run: its edges lead to its actors' ports, and add at most one step.
use Rattle.std.proofs.Common.{◌≡◌, ℕ, zero, suc, ◌+◌, ◌<◌, ◌≤◌, ◌==◌, ◌&&◌, ◌^◌, Bool, true, false, nat_lt, Some, None, Option, ℤ, List, [], ◌∷◌, ◌++◌, map, refl, sym, ap, subst, arith, length, slice_index_or, if◌then◌else◌}
use Rattle.std.specs.List.{list_all}
use Rattle.std.proofs.lemmas.Bool.{and_parts, and_from}
use Rattle.std.proofs.lemmas.Bool.Decides.{nat_tests}
use Rattle.std.proofs.lemmas.Grind.{common_steps}
use Rattle.pt_tags.specs.declared.tag.Delay.{Delay}
use Rattle.pt_tags.specs.Tags.{zero_delay}
use Rattle.pt_types.specs.declared.graph.Graph.{Graph}
use Rattle.pt_types.specs.declared.graph.Actor.{Actor}
use Rattle.pt_types.specs.declared.graph.Wire.{Wire}
use Rattle.pt_types.specs.declared.graph.Link.{Link}
use Rattle.pt_types.specs.declared.kind.Kind.{Kind}
use Rattle.pt_types.specs.declared.kind.Kind.TheVariants.{Every}
use Rattle.pt_types.specs.Kinds.{kind_is_lawful, visible_inputs, visible_outputs, is_time}
use Rattle.pt_types.specs.Names.{is_name}
use Rattle.pt_types.specs.Ends.{hidden_wire, hidden_wires, then_wires}
use Rattle.pt_types.specs.Groups.{held}
use Rattle.pt_types.specs.Lawful.{IsLawful, actor_is_lawful, wire_is_lawful, link_is_lawful}
use Rattle.pt_types.specs.Ports.{eight}
use Rattle.pt_semantics.specs.Lists.{Each}
use Rattle.pt_semantics.specs.Edges.{weight, of_wire, of_link, wires, links}
use Rattle.pt_types.specs.Lookups.{kind_of}
use Rattle.pt_semantics.specs.Firing.{any_present}
use Rattle.pt_meaning.specs.Emission.{IsUsable}
use Rattle.pt_meaning.specs.Running.{IsRunnable}

lawful_kind : (n : ℕ) (a : Actor) → actor_is_lawful n a ≡ true → kind_is_lawful a.kind ≡ true
lawful_kind n a h =
    let four = and_parts (is_name a.name && nat_lt a.platform n && kind_is_lawful a.kind && a.inputs == visible_inputs a.kind) (a.outputs == visible_outputs a.kind) h in
    let three = and_parts (is_name a.name && nat_lt a.platform n && kind_is_lawful a.kind) (a.inputs == visible_inputs a.kind) four.0 in
    let two = and_parts (is_name a.name && nat_lt a.platform n) (kind_is_lawful a.kind) three.0 in
    two.1

lawful_kinds : (n : ℕ) (actors : List Actor) → list_all (actor_is_lawful n) actors ≡ true → list_all (λ (a : Actor). kind_is_lawful a.kind) actors ≡ true
lawful_kinds n [] h = refl
lawful_kinds n (a ∷ actors) h =
    let parts = and_parts (actor_is_lawful n a) (list_all (actor_is_lawful n) actors) h in
    and_from (kind_is_lawful a.kind) (list_all (λ (x : Actor). kind_is_lawful x.kind) actors) (lawful_kind n a parts.0) (lawful_kinds n actors parts.1)

small : (b : Bool) (x y : Delay) → x.step ≤ 1 → y.step ≤ 1 → (if b then x else y).step ≤ 1
small true x y p q = p
small false x y p q = q

weight_step : (kind : Kind) (output : ℕ) → (weight kind output).step ≤ 1
weight_step (Kind.Delay d) output = small (d == 0) (record { time = 0; step = 1 }) (record { time = d; step = 0 }) (omega arith) (omega arith)
weight_step (Every start period) output = small (output == 1) (record { time = period; step = 0 }) zero_delay (omega arith) (omega arith)
weight_step _ output = omega arith

below : (m n : ℕ) → nat_lt m n ≡ true → m < n
below m n h = grind (arith, nat_tests)

usable_wire : (g : Graph) (n : ℕ) (w : Wire) → w.to < n → w.input < 8 → IsUsable n (of_wire g w)
usable_wire g n w to input = record { to = to; port = input; step = weight_step (kind_of g w.from) w.output }

visible_usable : (g : Graph) (n : ℕ) (ws : List Wire) → list_all (wire_is_lawful n) ws ≡ true → Each (IsUsable n) (map (of_wire g) ws)
visible_usable g n [] h = tt
visible_usable g n (w ∷ ws) h =
    let parts = and_parts (wire_is_lawful n w) (list_all (wire_is_lawful n) ws) h in
    let three = and_parts (nat_lt w.from n && nat_lt w.to n && nat_lt w.output 8) (nat_lt w.input 8) parts.0 in
    let two = and_parts (nat_lt w.from n && nat_lt w.to n) (nat_lt w.output 8) three.0 in
    let one = and_parts (nat_lt w.from n) (nat_lt w.to n) two.0 in
    (usable_wire g n w (below w.to n one.1) (below w.input 8 three.1), visible_usable g n ws parts.1)

each_append : {X : Type 0} (P : X → Type 0) (xs ys : List X) → Each P xs → Each P ys → Each P (xs ++ ys)
each_append P [] ys p q = q
each_append P (x ∷ xs) ys p q = (p.0, each_append P xs ys p.1 q)

map_append : {X Y : Type 0} (f : X → Y) (xs ys : List X) → map f (xs ++ ys) ≡ map f xs ++ map f ys
map_append f [] ys = refl
map_append f (x ∷ xs) ys = ap (λ zs. f x ∷ zs) (map_append f xs ys)

held_below : (i n : ℕ) → i < n → held i < n
held_below i n h = grind (arith, common_steps)

hidden_one : (g : Graph) (n i : ℕ) (kind : Kind) (ws : List Wire) → i < n → Each (IsUsable n) (map (of_wire g) ws) → Each (IsUsable n) (map (of_wire g) (then_wires (hidden_wire i kind) ws))
hidden_one g n i (Every start period) ws h rest = (usable_wire g n (record { from = held i; output = 1; to = held i; input = 0 }) (held_below i n h) (omega arith), rest)
hidden_one g n i _ ws h rest = rest

hidden_usable : (g : Graph) (n i : ℕ) (actors : List Actor) → i + length actors ≤ n → Each (IsUsable n) (map (of_wire g) (hidden_wires i actors))
hidden_usable g n i [] h = tt
hidden_usable g n i (a ∷ actors) h = hidden_one g n i a.kind (hidden_wires (i + 1) actors) (omega arith) (hidden_usable g n (i + 1) actors (omega arith))

links_usable : (n : ℕ) (ls : List Link) → list_all (link_is_lawful n) ls ≡ true → Each (IsUsable n) (map of_link ls)
links_usable n [] h = tt
links_usable n (l ∷ ls) h =
    let parts = and_parts (link_is_lawful n l) (list_all (link_is_lawful n) ls) h in
    let two = and_parts (nat_lt l.from n && nat_lt l.to n) (is_time l.delay) parts.0 in
    let one = and_parts (nat_lt l.from n) (nat_lt l.to n) two.0 in
    (record { to = below l.to n one.1; port = omega arith; step = omega arith }, links_usable n ls parts.1)

pub runnable : (g : Graph) → IsLawful g → IsRunnable g
runnable g lawful =
    let n = length g.actors in
    let few : length g.actors < 2 ^ 32 = omega (arith, lawful.few_actors) in
    let fed : Each (IsUsable n) (wires g) =
    subst (λ ws. Each (IsUsable n) (map (of_wire g) ws)) (sym lawful.wires)
    (subst (Each (IsUsable n)) (sym (map_append (of_wire g) lawful.visible (hidden_wires 0 g.actors)))
    (each_append (IsUsable n) (map (of_wire g) lawful.visible) (map (of_wire g) (hidden_wires 0 g.actors)) (visible_usable g n lawful.visible lawful.ports) (hidden_usable g n 0 g.actors (omega arith)))) in
    record {
      few = few;
      kinds = lawful_kinds (length g.platforms) g.actors lawful.actors;
      edges = each_append (IsUsable n) (wires g) (links g) fed (links_usable n g.links lawful.links);
    }

-- of values one of which is there, one is there
some_present : (xs : List (Option ℤ)) → any_present xs ≡ true → (i : ℕ) × (v : ℤ) × (slice_index_or xs i None ≡ Some v)
some_present [] h = absurd cc
some_present (None ∷ xs) h = let rest = some_present xs h in (suc rest.0, rest.1, rest.2)
some_present (Some v ∷ xs) h = (zero, v, refl)

pub present_at : (f : ℕ → Option ℤ) → any_present (eight f) ≡ true → (p : ℕ) × (v : ℤ) × (f p ≡ Some v)
present_at f h =
    let found = some_present (eight f) h in
    (found.0, found.1, by_port found.0 found.1 found.2)
  where
    by_port : (p : ℕ) (v : ℤ) → slice_index_or (eight f) p None ≡ Some v → f p ≡ Some v
    by_port zero v e = e
    by_port (suc zero) v e = e
    by_port (suc (suc zero)) v e = e
    by_port (suc (suc (suc zero))) v e = e
    by_port (suc (suc (suc (suc zero)))) v e = e
    by_port (suc (suc (suc (suc (suc zero))))) v e = e
    by_port (suc (suc (suc (suc (suc (suc zero)))))) v e = e
    by_port (suc (suc (suc (suc (suc (suc (suc zero))))))) v e = e
    by_port (suc (suc (suc (suc (suc (suc (suc (suc p)))))))) v e = absurd cc
