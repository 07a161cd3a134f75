-- The edges of a lawful graph.
use Rattle.std.proofs.Common.{◌≡◌, ℕ, zero, suc, ◌+◌, ◌-◌, ◌<◌, ◌≤◌, Bool, true, false, cond, nat_lt, List, [], ◌∷◌, length, slice_get, Some, None, refl, sym, ap, subst, ◌∙◌, arith, ◌⊎◌, inl, inr, ⊎_elim}
use Rattle.std.specs.Prelude.{sum}
use Rattle.std.proofs.lemmas.Bool.{ltb-false}
use Rattle.std.proofs.lemmas.List.Sums.{sum_by-cons}
use Rattle.pt_types.specs.declared.graph.Graph.{Graph}
use Rattle.pt_types.specs.declared.graph.Wire.{Wire}
use Rattle.pt_types.specs.declared.graph.Link.{Link}
use Rattle.pt_types.specs.declared.kind.Kind.{Kind}
use Rattle.pt_types.specs.declared.kind.Kind.TheVariants.{Sensor, Receive, Every, Lanes}
use Rattle.pt_types.specs.Kinds.{visible_inputs}
use Rattle.pt_types.specs.Groups.{actor_at}
use Rattle.pt_types.specs.Lawful.{IsLawful}
use Rattle.pt_semantics.specs.Lists.{IsIn}
use Rattle.pt_semantics.specs.Edges.{Edge, edges, wires, links, of_wire, of_link, weight}
use Rattle.pt_types.specs.Lookups.{kind_of}
use Rattle.pt_semantics.specs.Units.{groups}
use Rattle.pt_types.specs.Groups.{cell_of, input_group}
use Rattle.pt_semantics.specs.Bounds.{bound_of, bound_by}
use Rattle.pt_semantics.specs.Wired.{FedOnce, IsWired}
use Rattle.pt_types.proofs.SmallKinds.{few_inputs}
use Rattle.pt_types.proofs.Distinct.{once_append, once_map, in_either, mapped_at}
use Rattle.pt_types.proofs.LawfulWires.{IsOutward, IsOwn}
use Rattle.pt_types.proofs.LawfulEnds.{IsJoined, joined}

in_at : {X : Type 0} (x : X) (xs : List X) → IsIn x xs → (i : ℕ) × (slice_get xs i ≡ Some x)
in_at x [] h = absurd h
in_at x (y ∷ xs) h = ⊎_elim (λ (e : x ≡ y). (zero, ap Some (sym e))) (λ (e : IsIn x xs). let rest = in_at x xs e in (suc rest.0, rest.1)) h

-- a wire of the graph, and a link of the graph, as edges
record IsWire (g : Graph) (e : Edge) : Type 0 where
  index : ℕ
  wire : Wire
  there : slice_get g.wires index ≡ Some wire
  is : of_wire g wire ≡ e

record IsLinked (g : Graph) (e : Edge) : Type 0 where
  index : ℕ
  link : Link
  there : slice_get g.links index ≡ Some link
  is : of_link link ≡ e

wire_of : (g : Graph) (i : ℕ) (e : Edge) → slice_get (wires g) i ≡ Some e → IsWire g e
wire_of g i e h = let one = mapped_at (of_wire g) g.wires i e h in record { index = i; wire = one.0; there = one.1; is = one.2 }

link_of : (g : Graph) (i : ℕ) (e : Edge) → slice_get (links g) i ≡ Some e → IsLinked g e
link_of g i e h = let one = mapped_at of_link g.links i e h in record { index = i; link = one.0; there = one.1; is = one.2 }

a_wire : (g : Graph) (e : Edge) → IsIn e (wires g) → IsWire g e
a_wire g e h = let place = in_at e (wires g) h in wire_of g place.0 e place.1

wire_or_link : (g : Graph) (e : Edge) → IsIn e (edges g) → IsWire g e ⊎ IsLinked g e
wire_or_link g e h =
    let place = in_at e (edges g) h in
    ⊎_elim
    (λ (p : slice_get (wires g) place.0 ≡ Some e). inl (wire_of g place.0 e p))
    (λ (p : (k : ℕ) × (place.0 ≡ length (wires g) + k) × (slice_get (links g) k ≡ Some e)). inr (link_of g p.0 e p.2))
    (in_either (wires g) (links g) place.0 e place.1)

-- no visible input is that of an actor that has none
none_visible : (n : ℕ) (k j : Kind) → k ≡ j → visible_inputs j ≡ 0 → n < visible_inputs k → ⊥
none_visible n k j e none less =
    let same : visible_inputs k ≡ visible_inputs j = ap visible_inputs e in
    absurd (omega arith)

not_every : (start period : ℕ) → Receive ≡ Every start period → ⊥
not_every start period e = cc

to_receiver : (g : Graph) (w : Wire) → (IsOutward g w ⊎ IsOwn g w) → kind_of g w.to ≡ Receive → ⊥
to_receiver g w leads e = ⊎_elim
    (λ (v : IsOutward g w). none_visible w.input (kind_of g w.to) Receive e refl v)
    (λ (v : IsOwn g w). not_every v.start v.period (sym e ∙ v.kind))
    leads

all_once : (g : Graph) → IsJoined g → FedOnce (edges g)
all_once g j = once_append (λ (e : Edge). e.to) (λ (e : Edge). e.input) (wires g) (links g)
    (once_map (of_wire g) (λ (e : Edge). e.to) (λ (e : Edge). e.input) g.wires j.fed_once)
    (once_map of_link (λ (e : Edge). e.to) (λ (e : Edge). e.input) g.links (λ i k x y p q e d. j.one_link i k x y p q e))
    (λ i k x y p q e d.
    let wire = wire_of g i x p in
    let link = link_of g k y q in
    let same : wire.wire.to ≡ link.link.to = ap (λ (z : Edge). z.to) wire.is ∙ e ∙ sym (ap (λ (z : Edge). z.to) link.is) in
    to_receiver g wire.wire (j.leads wire.index wire.wire wire.there) (ap (kind_of g) same ∙ (j.linked link.index link.link link.there).receives))

edge_ends : (g : Graph) (e : Edge) → IsJoined g → IsWire g e ⊎ IsLinked g e → (e.from < length g.actors) × (e.to < length g.actors)
edge_ends g e j h = ⊎_elim
    (λ (w : IsWire g e). subst (λ (x : Edge). (x.from < length g.actors) × (x.to < length g.actors)) w.is (j.ends w.index w.wire w.there))
    (λ (l : IsLinked g e). let link = j.linked l.index l.link l.there in subst (λ (x : Edge). (x.from < length g.actors) × (x.to < length g.actors)) l.is (link.from, link.to))
    h

wire_port : (g : Graph) (w : Wire) → IsJoined g → (IsOutward g w ⊎ IsOwn g w) → w.input < 8
wire_port g w j leads = ⊎_elim
    (λ (v : IsOutward g w). let few = few_inputs (kind_of g w.to) (j.kinds w.to) in let less : w.input < visible_inputs (kind_of g w.to) = v in omega arith)
    (λ (v : IsOwn g w). let none = v.input in omega arith)
    leads

edge_port : (g : Graph) (e : Edge) → IsJoined g → IsWire g e ⊎ IsLinked g e → e.input < 8
edge_port g e j h = ⊎_elim
    (λ (w : IsWire g e). subst (λ (x : Edge). x.input < 8) w.is (wire_port g w.wire j (j.leads w.index w.wire w.there)))
    (λ (l : IsLinked g e). subst (λ (x : Edge). x.input < 8) l.is (omega arith))
    h

cell_step : (c n : ℕ) (cells : List ℕ) → n < c + sum cells → (n - c < sum cells → cell_of cells (n - c) < length cells) → (b : Bool) → nat_lt n c ≡ b → cond b 0 (suc (cell_of cells (n - c))) < suc (length cells)
cell_step c n cells h rest true e = omega arith
cell_step c n cells h rest false e =
    let past : c ≤ n = ltb-false n c e in
    let less : cell_of cells (n - c) < length cells = rest (omega arith) in
    omega arith

cell_below : (cells : List ℕ) (n : ℕ) → n < sum cells → cell_of cells n < length cells
cell_below [] n h = absurd (omega arith)
cell_below (c ∷ cells) n h =
    let all : sum (c ∷ cells) ≡ c + sum cells = sum_by-cons (λ x. x) c cells in
    cell_step c n cells (omega arith) (λ (k : n - c < sum cells). cell_below cells (n - c) k) (nat_lt n c) refl

group_below : (k : Kind) (n : ℕ) → n < visible_inputs k → input_group k n < groups k
group_below (Lanes cells) n h = cell_below cells n h
group_below _ n h = omega arith

wire_unit : (g : Graph) (w : Wire) → (IsOutward g w ⊎ IsOwn g w) → input_group (kind_of g w.to) w.input < groups (kind_of g w.to)
wire_unit g w leads = ⊎_elim
    (λ (v : IsOutward g w). group_below (kind_of g w.to) w.input v)
    (λ (v : IsOwn g w). subst (λ k. input_group k w.input < groups k) (sym v.kind) (omega arith))
    leads

edge_unit : (g : Graph) (e : Edge) → IsJoined g → IsWire g e ⊎ IsLinked g e → input_group (kind_of g e.to) e.input < groups (kind_of g e.to)
edge_unit g e j h = ⊎_elim
    (λ (w : IsWire g e). subst (λ (x : Edge). input_group (kind_of g x.to) x.input < groups (kind_of g x.to)) w.is (wire_unit g w.wire (j.leads w.index w.wire w.there)))
    (λ (l : IsLinked g e). subst (λ (x : Edge). input_group (kind_of g x.to) x.input < groups (kind_of g x.to)) l.is
    (subst (λ k. input_group k 0 < groups k) (sym (j.linked l.index l.link l.there).receives) (omega arith)))
    h

no_bound : (g : Graph) (a : ℕ) (k : Kind) (n : ℕ) → n < visible_inputs k → bound_by g a k ≡ None
no_bound g a (Sensor file bound) n h = absurd (omega arith)
no_bound g a Receive n h = absurd (omega arith)
no_bound g a _ n h = refl

wire_inner : (g : Graph) (w : Wire) → (IsOutward g w ⊎ IsOwn g w) → bound_of g w.to ≡ None
wire_inner g w leads = ⊎_elim
    (λ (v : IsOutward g w). no_bound g w.to (kind_of g w.to) w.input v)
    (λ (v : IsOwn g w). ap (bound_by g w.to) v.kind)
    leads

own_time : (g : Graph) (w : Wire) → IsOwn g w → 0 < (weight (kind_of g w.from) w.output).time
own_time g w v =
    let kind : kind_of g w.from ≡ Every v.start v.period = ap (kind_of g) v.from ∙ v.kind in
    let takes : 0 < v.period = v.takes_time in
    subst (λ k. 0 < (weight k w.output).time) (sym kind) (subst (λ n. 0 < (weight (Every v.start v.period) n).time) (sym v.output) takes)

wire_loop : (g : Graph) (w : Wire) (start period : ℕ) → (IsOutward g w ⊎ IsOwn g w) → kind_of g w.to ≡ Every start period → (w.from ≡ w.to) × (0 < (weight (kind_of g w.from) w.output).time)
wire_loop g w start period leads e = ⊎_elim
    (λ (v : IsOutward g w). absurd (none_visible w.input (kind_of g w.to) (Every start period) e refl v))
    (λ (v : IsOwn g w). (v.from, own_time g w v))
    leads

edge_loop : (g : Graph) (e : Edge) (start period : ℕ) → IsJoined g → IsWire g e ⊎ IsLinked g e → kind_of g e.to ≡ Every start period → (e.from ≡ e.to) × (0 < e.weight.time)
edge_loop g e start period j h kind = ⊎_elim
    (λ (w : IsWire g e). subst (λ (x : Edge). (x.from ≡ x.to) × (0 < x.weight.time)) w.is
    (wire_loop g w.wire start period (j.leads w.index w.wire w.there) (ap (λ (x : Edge). kind_of g x.to) w.is ∙ kind)))
    (λ (l : IsLinked g e). absurd (not_every start period (sym (j.linked l.index l.link l.there).receives ∙ ap (λ (x : Edge). kind_of g x.to) l.is ∙ kind)))
    h

pub wired : (g : Graph) → IsLawful g → IsWired g
wired g lawful =
    let j = joined g lawful in
    record {
      fed_once = all_once g j;
      ends = λ e h. edge_ends g e j (wire_or_link g e h);
      ports = λ e h. edge_port g e j (wire_or_link g e h);
      in_unit = λ e h. edge_unit g e j (wire_or_link g e h);
      at_home = λ e h. let w = a_wire g e h in subst (λ (x : Edge). (actor_at g.actors x.from).platform ≡ (actor_at g.actors x.to).platform) w.is (j.at_home w.index w.wire w.there);
      inner = λ e h. let w = a_wire g e h in subst (λ (x : Edge). bound_of g x.to ≡ None) w.is (wire_inner g w.wire (j.leads w.index w.wire w.there));
      sends = λ l link h. let one = j.linked l link h in (one.slack, one.sends);
      receives = λ l link h. (j.linked l link h).receives;
      one_link = λ l k link other p q e. j.one_link l k link other p q e;
      loops = λ e start period h kind. edge_loop g e start period j (wire_or_link g e h) kind;
      homes = λ a. j.homes a;
    }
