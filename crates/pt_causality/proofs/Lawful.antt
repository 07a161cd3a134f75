-- The wires of a lawful graph join its units, and add little.
use Rattle.std.proofs.Common.{◌≡◌, ℕ, suc, ◌+◌, ◌-◌, ◌<◌, ◌≤◌, ◌==◌, ◌&&◌, Bool, true, false, cond, nat_lt, nat_le, List, [], ◌∷◌, ◌++◌, map, length, slice_index_or, refl, sym, ap, subst, ◌∙◌, arith, ◌⊎◌, inl, inr, ⊎_elim, if◌then◌else◌}
use Rattle.std.specs.Prelude.{sum}
use Rattle.std.specs.List.{list_all}
use Rattle.std.proofs.lemmas.Bool.{and_parts, ltb-true, ltb-false, leb-true, eqb-true, cases_lt}
use Rattle.std.proofs.lemmas.List.{get_or_past}
use Rattle.std.proofs.lemmas.List.Sums.{sum_by-cons}
use Rattle.pt_tags.specs.declared.tag.Delay.{Delay}
use Rattle.pt_tags.specs.Tags.{zero_delay}
use Rattle.pt_types.specs.declared.graph.Graph.{Graph}
use Rattle.pt_types.specs.declared.graph.Actor.{Actor}
use Rattle.pt_types.specs.declared.graph.Wire.{Wire}
use Rattle.pt_types.specs.declared.kind.Kind.{Kind}
use Rattle.pt_types.specs.declared.kind.Kind.TheVariants.{Every, Lanes}
use Rattle.pt_types.specs.Kinds.{kind_is_lawful, is_time, is_among, visible_inputs, visible_outputs}
use Rattle.pt_types.specs.Names.{is_name}
use Rattle.pt_types.specs.Groups.{held, actor_at}
use Rattle.pt_types.specs.Ends.{ends_fit, hidden_wire, hidden_wires, then_wires}
use Rattle.pt_types.specs.Lawful.{IsLawful, actor_is_lawful, wire_is_lawful}
use Rattle.pt_semantics.specs.Lists.{IsIn}
use Rattle.pt_semantics.specs.Edges.{Edge, of_wire, weight, wires}
use Rattle.pt_types.specs.Groups.{no_actor}
use Rattle.pt_types.specs.Lookups.{kind_of}
use Rattle.pt_semantics.specs.Units.{groups, source, target}
use Rattle.pt_types.specs.Groups.{cell_of, input_group, output_group}
use Rattle.pt_causality.specs.Units.{IsUnit}
use Rattle.pt_causality.proofs.Members.{in_place}

-- the kind of an actor and its ports
record IsPorted (a : Actor) : Type 0 where
  kind : kind_is_lawful a.kind ≡ true
  inputs : a.inputs ≡ visible_inputs a.kind
  outputs : a.outputs ≡ visible_outputs a.kind

ported_one : (n : ℕ) (a : Actor) → actor_is_lawful n a ≡ true → IsPorted a
ported_one n a h =
    let four = and_parts (is_name a.name && nat_lt a.platform n && kind_is_lawful a.kind && a.inputs == visible_inputs a.kind) (a.outputs == visible_outputs a.kind) h in
    let three = and_parts (is_name a.name && nat_lt a.platform n && kind_is_lawful a.kind) (a.inputs == visible_inputs a.kind) four.0 in
    let two = and_parts (is_name a.name && nat_lt a.platform n) (kind_is_lawful a.kind) three.0 in
    record { kind = two.1; inputs = eqb-true a.inputs (visible_inputs a.kind) three.1; outputs = eqb-true a.outputs (visible_outputs a.kind) four.1 }

all_pass : {X : Type 0} (p : X → Bool) (xs : List X) → list_all p xs ≡ true → (x : X) → IsIn x xs → p x ≡ true
all_pass p [] h x there = absurd there
all_pass p (y ∷ xs) h x there =
    let parts = and_parts (p y) (list_all p xs) h in
    ⊎_elim (λ (e : x ≡ y). ap p e ∙ parts.0) (λ (e : IsIn x xs). all_pass p xs parts.1 x e) there

ported : (g : Graph) (a : ℕ) → IsLawful g → a < length g.actors → IsPorted (actor_at g.actors a)
ported g a lawful less = ported_one (length g.platforms) (actor_at g.actors a) (all_pass (actor_is_lawful (length g.platforms)) g.actors lawful.actors (actor_at g.actors a) (in_place g.actors a no_actor less))

lawful_kind : (g : Graph) (a : ℕ) → IsLawful g → kind_is_lawful (kind_of g a) ≡ true
lawful_kind g a lawful = ⊎_elim
    (λ (less : a < length g.actors). (ported g a lawful less).kind)
    (λ (past : length g.actors ≤ a). ap (λ (x : Actor). kind_is_lawful x.kind) (get_or_past g.actors a no_actor past))
    (cases_lt a (length g.actors))

-- a wire between units
record IsJoined (g : Graph) (w : Wire) : Type 0 where
  from : w.from < length g.actors
  to : w.to < length g.actors
  output : output_group (kind_of g w.from) w.output < groups (kind_of g w.from)
  input : input_group (kind_of g w.to) w.input < groups (kind_of g w.to)

cell_step : (c n : ℕ) (cells : List ℕ) → n < c + sum cells → (n - c < sum cells → cell_of cells (n - c) < length cells) → (b : Bool) → nat_lt n c ≡ b → cond b 0 (suc (cell_of cells (n - c))) < suc (length cells)
cell_step c n cells h rest true e = omega arith
cell_step c n cells h rest false e =
    let past : c ≤ n = ltb-false n c e in
    let less : cell_of cells (n - c) < length cells = rest (omega arith) in
    omega arith

cell_below : (cells : List ℕ) (n : ℕ) → n < sum cells → cell_of cells n < length cells
cell_below [] n h = absurd (omega arith)
cell_below (c ∷ cells) n h =
    let all : sum (c ∷ cells) ≡ c + sum cells = sum_by-cons (λ x. x) c cells in
    cell_step c n cells (omega arith) (λ (k : n - c < sum cells). cell_below cells (n - c) k) (nat_lt n c) refl

input_below : (k : Kind) (n : ℕ) → n < visible_inputs k → input_group k n < groups k
input_below (Lanes cells) n h = cell_below cells n h
input_below _ n h = omega arith

output_below : (k : Kind) (n : ℕ) → n < visible_outputs k → output_group k n < groups k
output_below (Lanes cells) n h = h
output_below _ n h = omega arith

visible_joined : (g : Graph) (lawful : IsLawful g) (w : Wire) → IsIn w lawful.visible → IsJoined g w
visible_joined g lawful w there =
    let n = length g.actors in
    let from_actor = actor_at g.actors w.from in
    let to_actor = actor_at g.actors w.to in
    let three = and_parts (nat_lt w.from n && nat_lt w.to n && nat_lt w.output 8) (nat_lt w.input 8) (all_pass (wire_is_lawful n) lawful.visible lawful.ports w there) in
    let two = and_parts (nat_lt w.from n && nat_lt w.to n) (nat_lt w.output 8) three.0 in
    let one = and_parts (nat_lt w.from n) (nat_lt w.to n) two.0 in
    let from : w.from < length g.actors = ltb-true w.from n one.0 in
    let to : w.to < length g.actors = ltb-true w.to n one.1 in
    let fits = and_parts (nat_lt w.output from_actor.outputs) (nat_lt w.input to_actor.inputs) (all_pass (ends_fit g.actors) lawful.visible lawful.ends w there) in
    record {
      from = from;
      to = to;
      output = output_below (kind_of g w.from) w.output (subst (λ k. w.output < k) (ported g w.from lawful from).outputs (ltb-true w.output from_actor.outputs fits.0));
      input = input_below (kind_of g w.to) w.input (subst (λ k. w.input < k) (ported g w.to lawful to).inputs (ltb-true w.input to_actor.inputs fits.1));
    }

-- the hidden wire of an actor that begins by itself
record IsHidden (g : Graph) (w : Wire) : Type 0 where
  index : ℕ
  below : index < length g.actors
  start : ℕ
  period : ℕ
  kind : kind_of g index ≡ Every start period
  is : w ≡ record { from = held index; output = 1; to = held index; input = 0 }

-- these actors stand in the graph from number i on
abbrev Stands : Graph → ℕ → List Actor → Type 0
Stands g i actors = (k : ℕ) → k < length actors → (slice_index_or actors k no_actor ≡ slice_index_or g.actors (i + k) no_actor) × (i + k < length g.actors)

stands_on : (g : Graph) (i : ℕ) (a : Actor) (actors : List Actor) → Stands g i (a ∷ actors) → Stands g (i + 1) actors
stands_on g i a actors h k less =
    let at = h (suc k) (omega arith) in
    let same : i + suc k ≡ (i + 1) + k = omega arith in
    (at.0 ∙ ap (λ n. slice_index_or g.actors n no_actor) same, subst (λ n. n < length g.actors) same at.1)

hidden_one : (g : Graph) (i : ℕ) (k : Kind) (w : Wire) (ws : List Wire) → i < length g.actors → kind_of g i ≡ k → IsIn w (then_wires (hidden_wire i k) ws) → IsHidden g w ⊎ IsIn w ws
hidden_one g i (Every start period) w ws less kind there = ⊎_elim
    (λ (e : w ≡ record { from = held i; output = 1; to = held i; input = 0 }). inl (record { index = i; below = less; start = start; period = period; kind = kind; is = e }))
    (λ (e : IsIn w ws). inr e)
    there
hidden_one g i _ w ws less kind there = inr there

hidden_in : (g : Graph) (i : ℕ) (actors : List Actor) (w : Wire) → Stands g i actors → IsIn w (hidden_wires i actors) → IsHidden g w
hidden_in g i [] w stands there = absurd there
hidden_in g i (a ∷ actors) w stands there =
    let at = stands 0 (omega arith) in
    let same : i + 0 ≡ i = omega arith in
    let kind : kind_of g i ≡ a.kind = sym (ap (λ (x : Actor). x.kind) (at.0 ∙ ap (λ n. slice_index_or g.actors n no_actor) same)) in
    ⊎_elim (λ (h : IsHidden g w). h) (λ (h : IsIn w (hidden_wires (i + 1) actors)). hidden_in g (i + 1) actors w (stands_on g i a actors stands) h)
    (hidden_one g i a.kind w (hidden_wires (i + 1) actors) (subst (λ n. n < length g.actors) same at.1) kind there)

hidden_joined : (g : Graph) (w : Wire) → IsLawful g → IsHidden g w → IsJoined g w
hidden_joined g w lawful h =
    let less = h.below in
    let few = lawful.few_actors in
    let number : held h.index ≡ h.index = omega arith in
    let from : w.from ≡ h.index = ap (λ (v : Wire). v.from) h.is ∙ number in
    let to : w.to ≡ h.index = ap (λ (v : Wire). v.to) h.is ∙ number in
    let own : kind_of g w.from ≡ Every h.start h.period = ap (kind_of g) from ∙ h.kind in
    let other : kind_of g w.to ≡ Every h.start h.period = ap (kind_of g) to ∙ h.kind in
    record {
      from = omega (arith, from, less);
      to = omega (arith, to, less);
      output = subst (λ k. output_group k w.output < groups k) (sym own) (omega arith);
      input = subst (λ k. input_group k w.input < groups k) (sym other) (omega arith);
    }

either_in : {X : Type 0} (x : X) (xs ys : List X) → IsIn x (xs ++ ys) → IsIn x xs ⊎ IsIn x ys
either_in x [] ys h = inr h
either_in x (y ∷ xs) ys h = ⊎_elim (λ (e : x ≡ y). inl (inl e)) (λ (e : IsIn x (xs ++ ys)). ⊎_elim (λ (z : IsIn x xs). inl (inr z)) (λ (z : IsIn x ys). inr z) (either_in x xs ys e)) h

wire_joined : (g : Graph) (w : Wire) → IsLawful g → IsIn w g.wires → IsJoined g w
wire_joined g w lawful there = ⊎_elim
    (λ (h : IsIn w lawful.visible). visible_joined g lawful w h)
    (λ (h : IsIn w (hidden_wires 0 g.actors)). hidden_joined g w lawful (hidden_in g 0 g.actors w whole h))
    (either_in w lawful.visible (hidden_wires 0 g.actors) (subst (IsIn w) lawful.wires there))
  where
    whole : Stands g 0 g.actors
    whole k less = let same : 0 + k ≡ k = omega arith in (ap (λ n. slice_index_or g.actors n no_actor) (sym same), omega arith)

mapped_in : {X Y : Type 0} (f : X → Y) (y : Y) (xs : List X) → IsIn y (map f xs) → (x : X) × IsIn x xs × (y ≡ f x)
mapped_in f y [] h = absurd h
mapped_in f y (x ∷ xs) h = ⊎_elim (λ (e : y ≡ f x). (x, inl refl, e)) (λ (e : IsIn y (map f xs)). let rest = mapped_in f y xs e in (rest.0, inr rest.1, rest.2)) h

-- the units that a wire leaves and enters are units of the graph
pub ends_are_units : (g : Graph) (e : Edge) → IsLawful g → IsIn e (wires g) → IsUnit g (source g e) × IsUnit g (target g e)
ends_are_units g e lawful there =
    let one = mapped_in (of_wire g) e g.wires there in
    let joined = wire_joined g one.0 lawful one.1 in
    subst (λ (d : Edge). IsUnit g (source g d) × IsUnit g (target g d)) (sym one.2) ((joined.from, joined.output), (joined.to, joined.input))

abbrev IsLight : Delay → Type 0
IsLight d = (d.time ≤ 1000000000000000) × (d.step ≤ 1)

light_if : (b : Bool) (x y : Delay) → IsLight x → IsLight y → IsLight (if b then x else y)
light_if true x y p q = p
light_if false x y p q = q

weight_light : (k : Kind) (output : ℕ) → kind_is_lawful k ≡ true → IsLight (weight k output)
weight_light (Kind.Delay d) output h =
    let time : d ≤ 1000000000000000 = leb-true d 1000000000000000 h in
    light_if (d == 0) (record { time = 0; step = 1 }) (record { time = d; step = 0 }) (omega arith) (omega arith)
weight_light (Every start period) output h =
    let parts = and_parts (is_time start) (is_among 1 1000000000000000 period) h in
    let long : period ≤ 1000000000000000 = leb-true period 1000000000000000 (and_parts (nat_le 1 period) (nat_le period 1000000000000000) parts.1).1 in
    light_if (output == 1) (record { time = period; step = 0 }) zero_delay (omega arith) (omega arith)
weight_light _ output h = omega arith

-- a wire adds little
pub wires_are_light : (g : Graph) (e : Edge) → IsLawful g → IsIn e (wires g) → (e.weight.time ≤ 1000000000000000) × (e.weight.step ≤ 1)
wires_are_light g e lawful there =
    let one = mapped_in (of_wire g) e g.wires there in
    subst (λ (d : Edge). IsLight d.weight) (sym one.2) (weight_light (kind_of g one.0.from) one.0.output (lawful_kind g one.0.from lawful))
