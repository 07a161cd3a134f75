-- Where the wires of a lawful graph lead.
use Rattle.std.proofs.Common.{◌≡◌, ℕ, zero, suc, ◌+◌, ◌<◌, ◌≤◌, true, ◌&&◌, ◌==◌, nat_lt, nat_le, List, [], ◌∷◌, ◌++◌, length, slice_get, Some, None, refl, sym, ap, subst, ◌∙◌, arith, ◌⊎◌, inl, inr, ⊎_elim}
use Rattle.std.proofs.lemmas.Bool.{and_parts, and_from, ltb-true, leb-true, eqb-true, eq-eqb, both_ways}
use Rattle.pt_types.specs.declared.graph.Graph.{Graph}
use Rattle.pt_types.specs.declared.graph.Wire.{Wire}
use Rattle.pt_types.specs.declared.kind.Kind.{Kind}
use Rattle.pt_types.specs.declared.kind.Kind.TheVariants.{Every}
use Rattle.pt_types.specs.Kinds.{kind_is_lawful, visible_inputs, is_time, is_among}
use Rattle.pt_types.specs.Groups.{held, actor_at}
use Rattle.pt_types.specs.Ends.{ends_fit, stays_home, goes_to, is_fed, fed_twice_from, hidden_wires}
use Rattle.pt_types.specs.Lawful.{IsLawful, wire_is_lawful}
use Rattle.pt_types.proofs.Conditions.{none_if}
use Rattle.pt_types.proofs.Distinct.{Once, once_cons, once_append, in_either, some_is, all_at, any_at}
use Rattle.pt_types.proofs.HiddenWires.{IsHidden, hidden_at, hidden_once}
use Rattle.pt_types.proofs.LawfulActors.{actor_of, any_kind}

-- a wire leads to a visible input
abbrev pub IsOutward : Graph → Wire → Type 0
IsOutward g w = w.input < visible_inputs (actor_at g.actors w.to).kind

-- a wire is the hidden one of an actor that begins by itself, which takes time
pub record IsOwn (g : Graph) (w : Wire) : Type 0 where
  pub start : ℕ
  pub period : ℕ
  pub kind : (actor_at g.actors w.to).kind ≡ Every start period
  pub from : w.from ≡ w.to
  pub output : w.output ≡ 1
  pub input : w.input ≡ 0
  pub takes_time : 1 ≤ period

-- a wire of the file
record IsVisible (g : Graph) (w : Wire) : Type 0 where
  from : w.from < length g.actors
  to : w.to < length g.actors
  input : w.input < visible_inputs (actor_at g.actors w.to).kind
  home : (actor_at g.actors w.from).platform ≡ (actor_at g.actors w.to).platform

visible_at : (g : Graph) (lawful : IsLawful g) (i : ℕ) (w : Wire) → slice_get lawful.visible i ≡ Some w → IsVisible g w
visible_at g lawful i w h =
    let n = length g.actors in
    let from_actor = actor_at g.actors w.from in
    let to_actor = actor_at g.actors w.to in
    let three = and_parts (nat_lt w.from n && nat_lt w.to n && nat_lt w.output 8) (nat_lt w.input 8) (all_at (wire_is_lawful n) lawful.visible i w lawful.ports h) in
    let two = and_parts (nat_lt w.from n && nat_lt w.to n) (nat_lt w.output 8) three.0 in
    let one = and_parts (nat_lt w.from n) (nat_lt w.to n) two.0 in
    let to : w.to < length g.actors = ltb-true w.to n one.1 in
    let fits = and_parts (nat_lt w.output from_actor.outputs) (nat_lt w.input to_actor.inputs) (all_at (ends_fit g.actors) lawful.visible i w lawful.ends h) in
    let home = all_at (stays_home g.actors) lawful.visible i w lawful.home h in
    record {
      from = ltb-true w.from n one.0;
      to = to;
      input = subst (λ k. w.input < k) (actor_of g w.to lawful to).inputs (ltb-true w.input to_actor.inputs fits.1);
      home = eqb-true from_actor.platform to_actor.platform home;
    }

visible_or_hidden : (g : Graph) (lawful : IsLawful g) (i : ℕ) (w : Wire) → slice_get g.wires i ≡ Some w → IsVisible g w ⊎ IsHidden 0 g.actors w
visible_or_hidden g lawful i w h = ⊎_elim
    (λ (e : slice_get lawful.visible i ≡ Some w). inl (visible_at g lawful i w e))
    (λ (e : (k : ℕ) × (i ≡ length lawful.visible + k) × (slice_get (hidden_wires 0 g.actors) k ≡ Some w)). inr (hidden_at 0 g.actors e.0 w e.2))
    (in_either lawful.visible (hidden_wires 0 g.actors) i w (subst (λ ws. slice_get ws i ≡ Some w) lawful.wires h))

number_of : (g : Graph) (w : Wire) → IsLawful g → (h : IsHidden 0 g.actors w) → (h.index ≡ w.from) × (h.index ≡ w.to)
number_of g w lawful h =
    let few = lawful.few_actors in
    let less = h.below in
    let from : held (0 + h.index) ≡ w.from = ap (λ (v : Wire). v.from) h.is in
    let to : held (0 + h.index) ≡ w.to = ap (λ (v : Wire). v.to) h.is in
    (omega arith, omega arith)

period_is_long : (start period : ℕ) → kind_is_lawful (Every start period) ≡ true → 1 ≤ period
period_is_long start period h =
    let parts = and_parts (is_time start) (is_among 1 1000000000000000 period) h in
    leb-true 1 period (and_parts (nat_le 1 period) (nat_le period 1000000000000000) parts.1).0

own_at : (g : Graph) (w : Wire) → IsLawful g → IsHidden 0 g.actors w → IsOwn g w
own_at g w lawful h =
    let number = number_of g w lawful h in
    let kind : (actor_at g.actors w.to).kind ≡ Every h.start h.period = subst (λ a. (actor_at g.actors a).kind ≡ Every h.start h.period) number.1 h.kind in
    record {
      start = h.start;
      period = h.period;
      kind = kind;
      from = sym number.0 ∙ number.1;
      output = sym (ap (λ (v : Wire). v.output) h.is);
      input = sym (ap (λ (v : Wire). v.input) h.is);
      takes_time = period_is_long h.start h.period (subst (λ k. kind_is_lawful k ≡ true) kind (any_kind g w.to lawful));
    }

pub wire_ends : (g : Graph) (i : ℕ) (w : Wire) → IsLawful g → slice_get g.wires i ≡ Some w → (w.from < length g.actors) × (w.to < length g.actors)
wire_ends g i w lawful h = ⊎_elim
    (λ (v : IsVisible g w). (v.from, v.to))
    (λ (v : IsHidden 0 g.actors w). let number = number_of g w lawful v in (subst (λ a. a < length g.actors) number.0 v.below, subst (λ a. a < length g.actors) number.1 v.below))
    (visible_or_hidden g lawful i w h)

pub wire_home : (g : Graph) (i : ℕ) (w : Wire) → IsLawful g → slice_get g.wires i ≡ Some w → (actor_at g.actors w.from).platform ≡ (actor_at g.actors w.to).platform
wire_home g i w lawful h = ⊎_elim
    (λ (v : IsVisible g w). v.home)
    (λ (v : IsHidden 0 g.actors w). let number = number_of g w lawful v in ap (λ a. (actor_at g.actors a).platform) (sym number.0 ∙ number.1))
    (visible_or_hidden g lawful i w h)

pub wire_leads : (g : Graph) (i : ℕ) (w : Wire) → IsLawful g → slice_get g.wires i ≡ Some w → IsOutward g w ⊎ IsOwn g w
wire_leads g i w lawful h = ⊎_elim (λ (v : IsVisible g w). inl v.input) (λ (v : IsHidden 0 g.actors w). inr (own_at g w lawful v)) (visible_or_hidden g lawful i w h)

-- no input of the wires seen is fed again
not_fed_again : (seen : List Wire) (i : ℕ) (ws : List Wire) → fed_twice_from seen i ws ≡ None → (j k : ℕ) (v w : Wire) → slice_get seen j ≡ Some v → slice_get ws k ≡ Some w → v.to ≡ w.to → v.input ≡ w.input → ⊥
not_fed_again seen i [] h j k v w p q e d = absurd cc
not_fed_again seen i (x ∷ ws) h j zero v w p q e d =
    let parts = none_if (is_fed seen x.to x.input) i (fed_twice_from (seen ++ x ∷ []) (i + 1) ws) h in
    let same = some_is x w q in
    let to : v.to ≡ x.to = e ∙ sym (ap (λ (y : Wire). y.to) same) in
    let input : v.input ≡ x.input = d ∙ sym (ap (λ (y : Wire). y.input) same) in
    both_ways (is_fed seen x.to x.input) parts.0 (any_at (goes_to x.to x.input) seen j v p (and_from (v.to == x.to) (v.input == x.input) (eq-eqb v.to x.to to) (eq-eqb v.input x.input input)))
not_fed_again seen i (x ∷ ws) h j (suc k) v w p q e d =
    let parts = none_if (is_fed seen x.to x.input) i (fed_twice_from (seen ++ x ∷ []) (i + 1) ws) h in
    not_fed_again (seen ++ x ∷ []) (i + 1) ws parts.1 j k v w (still_there seen (x ∷ []) j v p) q e d
  where
    still_there : (xs ys : List Wire) (n : ℕ) (y : Wire) → slice_get xs n ≡ Some y → slice_get (xs ++ ys) n ≡ Some y
    still_there [] ys n y r = absurd cc
    still_there (z ∷ xs) ys zero y r = r
    still_there (z ∷ xs) ys (suc n) y r = still_there xs ys n y r

last_there : (seen : List Wire) (x : Wire) → slice_get (seen ++ x ∷ []) (length seen) ≡ Some x
last_there [] x = refl
last_there (y ∷ seen) x = last_there seen x

visible_once : (seen : List Wire) (i : ℕ) (ws : List Wire) → fed_twice_from seen i ws ≡ None → Once (λ (w : Wire). w.to) (λ (w : Wire). w.input) ws
visible_once seen i [] h = λ j k x y p q e d. absurd (none_there j x p)
  where
    none_there : (j : ℕ) (w : Wire) → slice_get {X = Wire} [] j ≡ Some w → ⊥
    none_there j w p = absurd cc
visible_once seen i (x ∷ ws) h =
    let parts = none_if (is_fed seen x.to x.input) i (fed_twice_from (seen ++ x ∷ []) (i + 1) ws) h in
    once_cons (λ (w : Wire). w.to) (λ (w : Wire). w.input) x ws (visible_once (seen ++ x ∷ []) (i + 1) ws parts.1)
    (λ j y p e d. not_fed_again (seen ++ x ∷ []) (i + 1) ws parts.1 (length seen) j x y (last_there seen x) p e d)

no_inputs : (n : ℕ) (k : Kind) (start period : ℕ) → k ≡ Every start period → n < visible_inputs k → ⊥
no_inputs n k start period e less =
    let none : visible_inputs k ≡ 0 = ap visible_inputs e in
    absurd (omega arith)

pub wires_once : (g : Graph) → IsLawful g → Once (λ (w : Wire). w.to) (λ (w : Wire). w.input) g.wires
wires_once g lawful = subst (Once (λ (w : Wire). w.to) (λ (w : Wire). w.input)) (sym lawful.wires)
    (once_append (λ (w : Wire). w.to) (λ (w : Wire). w.input) lawful.visible (hidden_wires 0 g.actors)
    (visible_once [] 0 lawful.visible lawful.fed_once) (hidden_once 0 g.actors (omega (arith, lawful.few_actors)))
    (λ i j x y p q e d.
    let seen = visible_at g lawful i x p in
    let own = own_at g y lawful (hidden_at 0 g.actors j y q) in
    no_inputs x.input (actor_at g.actors x.to).kind own.start own.period (ap (λ a. (actor_at g.actors a).kind) e ∙ own.kind) seen.input))
