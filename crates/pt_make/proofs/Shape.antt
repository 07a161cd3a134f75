-- The shape of the made graph, which is the same for all numbers.
use Rattle.std.proofs.Common.{◌≡◌, ℕ, ◌+◌, ◌*◌, ◌<◌, ◌≤◌, ◌==◌, ◌&&◌, ◌||◌, zero, suc, Bool, true, false, List, [], ◌∷◌, Some, ℤ, pos, ◌-ℤ◌, ◌≤ℤ◌, nat_lt, nat_le, slice_index_or, if◌then◌else◌, arith, refl, sym, ap, subst, ◌∙◌, ⊎_elim}
use Rattle.std.specs.List.{list_all}
use Rattle.std.proofs.lemmas.Bool.{and_parts, false≢true}
use Rattle.std.proofs.lemmas.Bool.Decides.{nat_tests}
use Rattle.std.proofs.lemmas.Int.{ints}
use Rattle.pt_types.specs.declared.graph.Actor.{Actor}
use Rattle.pt_types.specs.declared.graph.Graph.{Graph}
use Rattle.pt_types.specs.declared.graph.Link.{Link}
use Rattle.pt_types.specs.declared.graph.Unit.{Unit}
use Rattle.pt_types.specs.declared.kind.Kind.{Kind}
use Rattle.pt_types.specs.declared.kind.Kind.TheVariants.{Sensor, Receive, Send, Actuator, Every}
use Rattle.pt_types.specs.Ends.{is_send}
use Rattle.pt_types.specs.Lawful.{IsLawful}
use Rattle.pt_types.specs.Ports.{when}
use Rattle.pt_semantics.specs.Lists.{IsIn}
use Rattle.pt_semantics.specs.Edges.{Edge, edges, wires}
use Rattle.pt_types.specs.Groups.{no_actor}
use Rattle.pt_types.specs.Lookups.{kind_of}
use Rattle.pt_semantics.specs.Units.{groups, at_output, target}
use Rattle.pt_semantics.specs.Bounds.{Feeds, bound_by, bound_of, link_bound}
use Rattle.pt_semantics.specs.Cycles.{NoFreeCycle}
use Rattle.pt_semantics.specs.Offsets.{HasOffset, IsFeasible}
use Rattle.pt_semantics.specs.Paths.{Goes}
use Rattle.pt_semantics.specs.Ranks.{sum_along}
use Rattle.pt_semantics.proofs.Longest.{no_free_cycle}
use Rattle.pt_semantics.proofs.Lookups.{none_some, same_some, first_of_found, when_found}
use Rattle.pt_make.specs.Input.{actors, made_graph, row_count}

-- what a test finds of each member
pub all_in : {X : Type 0} (f : X → Bool) (xs : List X) → list_all f xs ≡ true → (x : X) → IsIn x xs → f x ≡ true
all_in f [] h x mem = absurd mem
all_in f (y ∷ ys) h x mem =
    let both = and_parts (f y) (list_all f ys) h in
    ⊎_elim (λ (here : x ≡ y). ap f here ∙ both.0) (λ (there : IsIn x ys). all_in f ys both.1 x there) mem

lt_of : (a b : ℕ) → nat_lt a b ≡ true → a < b
lt_of a b h = grind (arith, nat_tests)

le_of : (a b : ℕ) → nat_le a b ≡ true → a ≤ b
le_of a b h = grind (arith, nat_tests)

-- what a test finds of each actor's kind
kind_in : (f : Kind → Bool) (xs : List Actor) → list_all (λ (x : Actor). f x.kind) xs ≡ true → f Receive ≡ true → (a : ℕ) → f ((slice_index_or xs a no_actor).kind) ≡ true
kind_in f [] h d a = d
kind_in f (x ∷ xs) h d zero = (and_parts (f x.kind) (list_all (λ (y : Actor). f y.kind) xs) h).0
kind_in f (x ∷ xs) h d (suc a) = kind_in f xs (and_parts (f x.kind) (list_all (λ (y : Actor). f y.kind) xs) h).1 d a

-- an actor of one unit that does not begin by itself
abbrev pub is_plain : Kind → Bool
is_plain (Every start period) = false
is_plain k = groups k == 1

module _ (n : ℕ) where
  abbrev g : Graph
  g = made_graph n

  kind_is : (f : Kind → Bool) → list_all (λ (x : Actor). f x.kind) actors ≡ true → f Receive ≡ true → (a : ℕ) → f (kind_of g a) ≡ true
  kind_is f h d a = kind_in f actors h d a

  -- each wire and link leads to an actor of a higher number
  pub leads_up : (e : Edge) → IsIn e (edges g) → e.from < e.to
  leads_up e mem = lt_of e.from e.to (all_in (λ (d : Edge). nat_lt d.from d.to) (edges g) refl e mem)

  pub no_cycle : NoFreeCycle g
  no_cycle = no_free_cycle g (λ a. a) (λ e mem free. leads_up e mem)

  -- and adds no step, and no time or 100 microseconds
  pub adds : (e : Edge) → IsIn e (edges g) → (e.weight.step ≡ 0) × ((k : ℕ) × (e.weight.time ≡ 100 * k))
  adds e mem =
      let both = and_parts (e.weight.step == 0) (e.weight.time == 0 || e.weight.time == 100) (all_in (λ (d : Edge). d.weight.step == 0 && (d.weight.time == 0 || d.weight.time == 100)) (edges g) refl e mem) in
      (zero_of e.weight.step both.0, some_of (e.weight.time == 0) refl both.1)
    where
      zero_of : (a : ℕ) → (a == 0) ≡ true → a ≡ 0
      zero_of a h = grind (arith, nat_tests)

      hundred_of : (a : ℕ) → (a == 100) ≡ true → a ≡ 100 * 1
      hundred_of a h = grind (arith, nat_tests)

      none_of : (a : ℕ) → (a == 0) ≡ true → a ≡ 100 * 0
      none_of a h = grind (arith, nat_tests)

      some_of : (b : Bool) → (e.weight.time == 0) ≡ b → (b || e.weight.time == 100) ≡ true → (k : ℕ) × (e.weight.time ≡ 100 * k)
      some_of true is h = (0, none_of e.weight.time is)
      some_of false is h = (1, hundred_of e.weight.time h)

  -- a wire to a sender adds 100 microseconds
  abbrev slow_to_send : Edge → Bool
  slow_to_send e = if is_send (kind_of g e.to) then e.weight.time == 100 else true

  slow : (path : List Edge) (x u : Unit) → Goes g x path u → is_send (kind_of g x.actor) ≡ false → is_send (kind_of g u.actor) ≡ true → 100 ≤ (sum_along path).time
  slow [] x u go other to = absurd (false≢true (sym other ∙ ap (λ (v : Unit). is_send (kind_of g v.actor)) go ∙ to))
  slow (e ∷ path) x u (mem, src, go) other to = by_test (is_send (kind_of g e.to)) refl (λ away. slow path (target g e) u go away to)
    where
      hundred : (b : Bool) (t : ℕ) → b ≡ true → (if b then t == 100 else true) ≡ true → t ≡ 100
      hundred true t to h = grind (arith, nat_tests)
      hundred false t to h = absurd (false≢true to)

      by_test : (b : Bool) → is_send (kind_of g e.to) ≡ b → (is_send (kind_of g e.to) ≡ false → 100 ≤ (sum_along path).time) → 100 ≤ (sum_along (e ∷ path)).time
      by_test true is on =
          let weighs : e.weight.time ≡ 100 = hundred (is_send (kind_of g e.to)) e.weight.time is (all_in slow_to_send (wires g) refl e mem) in
          omega (arith, weighs)
      by_test false is on =
          let rest : 100 ≤ (sum_along path).time = on is in
          omega (arith, rest)

  -- no bound is more than 45 microseconds, and a sender has none
  abbrev sees_soon : Kind → Bool
  sees_soon (Sensor file bound) = nat_le bound 45
  sees_soon _ = true

  bound_by_kind : (a b : ℕ) (k : Kind) → sees_soon k ≡ true → bound_by g a k ≡ Some b → (b ≤ 45) × (is_send k ≡ false)
  bound_by_kind a b (Sensor file bound) soon h = (subst (λ z. z ≤ 45) (same_some bound b h) (le_of bound 45 soon), refl)
  bound_by_kind a b Receive soon h =
      let f = first_of_found (λ (l : Link). when (l.to == a) (Some (link_bound g l))) g.links b h in
      let is : link_bound g f.0 ≡ b = same_some (link_bound g f.0) b (when_found (f.0.to == a) (Some (link_bound g f.0)) b f.2).1 in
      (subst (λ z. z ≤ 45) is (le_of (link_bound g f.0) 45 (all_in (λ (l : Link). nat_le (link_bound g l) 45) g.links refl f.0 f.1)), refl)
  bound_by_kind a b (Send slack) soon h = absurd (none_some b h)
  bound_by_kind a b _ soon h = absurd (none_some b h)

  pub bound_is : (a b : ℕ) → bound_of g a ≡ Some b → (b ≤ 45) × (is_send (kind_of g a) ≡ false)
  bound_is a b h = bound_by_kind a b (kind_of g a) (kind_is sees_soon refl refl a) h

  sends : (k : Kind) (slack : ℕ) → k ≡ Send slack → is_send k ≡ true
  sends k slack e = ap is_send e

  fed_slowly : (a slack s b : ℕ) (path : List Edge) → kind_of g a ≡ Send slack → Feeds g s b path (at_output g a 0) → (b ≤ 45) × (100 ≤ (sum_along path).time)
  fed_slowly a slack s b path is feeds =
      let source = bound_is s b feeds.bound in
      (source.0, slow path (at_output g s 0) (at_output g a 0) feeds.goes source.1 (sends (kind_of g a) slack is))

  pub feasible : IsFeasible g
  feasible a slack s b path is feeds = let h = fed_slowly a slack s b path is feeds in omega (arith, h.0, h.1)

  -- no offset is more than 45 microseconds
  pub offset_is : (u : Unit) (o : ℤ) → HasOffset g u (Some o) → o ≤ℤ pos 45
  offset_is u o h =
      let (s, b, path, feeds, is) = h.some in
      let le : b ≤ 45 = (bound_is s b feeds.bound).0 in
      at_most b (sum_along path).time o le is
    where
      at_most : (b t : ℕ) (o : ℤ) → b ≤ 45 → pos b -ℤ pos t ≡ o → o ≤ℤ pos 45
      at_most b t o le is = omega (arith, ints)

  -- each actor is so
  pub plain : (a : ℕ) → is_plain (kind_of g a) ≡ true
  plain a = kind_is is_plain refl refl a

  -- an actuator's slack is 50 microseconds at least
  abbrev is_patient : Kind → Bool
  is_patient (Actuator slack) = nat_le 50 slack
  is_patient _ = true

  pub patient : (a slack : ℕ) → kind_of g a ≡ Actuator slack → 50 ≤ slack
  patient a slack is = le_of 50 slack (sym (ap is_patient is) ∙ kind_is is_patient refl refl a)

-- the graph is one that the reader of graphs could give
pub lawful : (n : ℕ) → n ≤ 100 → IsLawful (made_graph n)
lawful n few = record {
  until = within (100 * row_count n + 400) (omega arith);
  clock_error = refl;
  few_claims = omega arith;
  some_platform = omega arith;
  few_platforms = omega arith;
  few_actors = omega arith;
  few_links = omega arith;
  few_pairs = omega arith;
  few_cells = omega arith;
  visible = (made_graph n).wires;
  few_wires = omega arith;
  wires = refl;
  platforms = refl;
  actors = refl;
  ports = refl;
  links = refl;
  pairs = refl;
  other_platforms = refl;
  other_actors = refl;
  other_pairs = refl;
  ends = refl;
  home = refl;
  fed_once = refl;
  fed = refl;
  linked = refl;
  one_link = refl;
}
  where
    within : (t : ℕ) → t ≤ 1000000000000000 → nat_le t 1000000000000000 ≡ true
    within t h = grind (arith, nat_tests)
