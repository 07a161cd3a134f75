-- What the tags by place say of the events.
use Rattle.std.proofs.Common.{◌≡◌, ℕ, ◌+◌, ◌*◌, ◌/◌, ◌<◌, ◌≤◌, ◌==◌, Bool, not, true, false, List, [], ◌∷◌, Option, Some, None, if◌then◌else◌, length, refl, sym, ap, subst, ◌∙◌, inl, ⊎_elim, ne_eqb, arith}
use Rattle.std.specs.Option.{is_some}
use Rattle.std.proofs.lemmas.Bool.{cases_Bool}
use Rattle.pt_tags.specs.declared.tag.Tag.{Tag}
use Rattle.pt_types.specs.declared.firing.Event.{Event}
use Rattle.pt_types.specs.declared.graph.Graph.{Graph}
use Rattle.pt_types.specs.declared.graph.Unit.{Unit}
use Rattle.pt_semantics.specs.Lists.{Each}
use Rattle.pt_semantics.specs.Units.{HasEvent, same_part}
use Rattle.pt_semantics.proofs.Lookups.{same_part-true}
use Rattle.pt_queue.specs.declared.groups.Groups.{Groups}
use Rattle.pt_queue.specs.declared.waiting.Waiting.{Waiting}
use Rattle.pt_queue.specs.Groups.{AreGroups, group_in}
use Rattle.pt_queue.specs.Events.{IsFirstWaiting, IsLeastTag, IsOnlyUnit, IsPlaced, unit_place, waiting_in}
use Rattle.pt_queue.specs.Tagged.{AreTags, FitsIn, IsFirstTag, IsOnlyTag, tag_in}
use Rattle.pt_queue.specs.Scans.{is_of, least_from, sooner, sooner_if, unit_in}
use Rattle.pt_queue.proofs.ByUnit.{has_place}
use Rattle.pt_queue.proofs.Found.{least_below, least_found, least_is}

-- the tags are those of the events of a graph's units
module _ (g : Graph) (table : List Groups) (events : List Event) (tags : List (Option Tag)) (groups : AreGroups g table) (placed : Each (IsPlaced table) events) (are : AreTags table events tags) where
  pub tag_is : (u : Unit) (o : Option Tag) → tag_in tags u ≡ o → IsLeastTag g (waiting_in events) u o
  tag_is u o e = subst (IsLeastTag g (waiting_in events) u) (sym (are.least u) ∙ e) (least_is g table events u groups placed)

  -- a unit with an event has a tag
  has_tag : (u : Unit) (t : Tag) → HasEvent g (waiting_in events) u t → (s : Tag) × (tag_in tags u ≡ Some s)
  has_tag u t event = by (tag_in tags u) refl
    where
      by : (o : Option Tag) → tag_in tags u ≡ o → (s : Tag) × (tag_in tags u ≡ Some s)
      by None e = absurd (tag_is u None e t event)
      by (Some s) e = (s, e)

  pub first_is : (n : ℕ) (o : Option Waiting) → IsFirstTag tags n o → IsFirstWaiting g (waiting_in events) n o
  first_is n None first = λ u t event. let tag = has_tag u t event in (has_place tags u tag.0 tag.1, first u tag.0 tag.1)
  first_is n (Some w) first = (tag_is w.unit (Some w.tag) first.0, first.1, λ u t event. let tag = has_tag u t event in (has_place tags u tag.0 tag.1, first.2 u tag.0 tag.1))

  -- no event of a word is before a time that no tag is before
  pub floor_is : (word time : ℕ) → ((u : Unit) (t : Tag) → tag_in tags u ≡ Some t → unit_place u / 64 ≡ word → time ≤ t.time) → (u : Unit) (t : Tag) → HasEvent g (waiting_in events) u t → unit_place u / 64 ≡ word → time ≤ t.time
  floor_is word time below u t event at =
      let tag = has_tag u t event in
      let first = (tag_is u (Some tag.0) tag.1).1 t event in
      omega (arith, below u tag.0 tag.1 at, first.0)

  pub only_is : (u : Unit) → IsOnlyTag tags u → IsOnlyUnit g (waiting_in events) u
  only_is u only x t event = let tag = has_tag x t event in only x tag.0 tag.1

-- the unit of an event has its place

pub unit_fits : (table : List Groups) (e : Event) (n : ℕ) → ((a p : ℕ) → p < 8 → group_in table a p < 8) → n ≡ 8 * length table → IsPlaced table e → FitsIn n (unit_in table e)
unit_fits table e n few room placed = let a : e.actor < length table = placed.actor in (few e.actor e.port placed.port, omega (arith, a, room))

-- the tags after the events changed

pub tags_more : (table : List Groups) (events new : List Event) (tags vs : List (Option Tag)) (e : Event) (unit : Unit) → AreTags table events tags → unit ≡ unit_in table e → ((x : Unit) → tag_in vs x ≡ (if same_part unit x then sooner (tag_in tags unit) e.tag else tag_in tags x)) → length vs ≡ length tags → ((u : Unit) → least_from table u None new ≡ sooner_if (is_of table u e) (least_from table u None events) e.tag) → AreTags table new vs
tags_more table events new tags vs e unit are is changed len least = record {
  room = len ∙ are.room;
  few = are.few;
  least = λ u. ⊎_elim
      (λ (y : same_part unit u ≡ true).
      changed u ∙ ap (λ b. if b then sooner (tag_in tags unit) e.tag else tag_in tags u) y
      ∙ ap (λ z. sooner (tag_in tags z) e.tag) (same_part-true unit u y)
      ∙ ap (λ o. sooner o e.tag) (are.least u)
      ∙ sym (least u ∙ ap (λ b. sooner_if b (least_from table u None events) e.tag) (ap (λ z. same_part z u) (sym is) ∙ y)))
      (λ (n : same_part unit u ≡ false).
      changed u ∙ ap (λ b. if b then sooner (tag_in tags unit) e.tag else tag_in tags u) n
      ∙ are.least u
      ∙ sym (least u ∙ ap (λ b. sooner_if b (least_from table u None events) e.tag) (ap (λ z. same_part z u) (sym is) ∙ n)))
      (cases_Bool (same_part unit u));
}

pub tags_less : (table : List Groups) (events new : List Event) (tags vs : List (Option Tag)) (unit : Unit) (o : Option Tag) → AreTags table events tags → o ≡ least_from table unit None new → ((x : Unit) → tag_in vs x ≡ (if same_part unit x then o else tag_in tags x)) → length vs ≡ length tags → ((u : Unit) → same_part unit u ≡ false → least_from table u None new ≡ least_from table u None events) → AreTags table new vs
tags_less table events new tags vs unit o are is changed len least = record {
  room = len ∙ are.room;
  few = are.few;
  least = λ u. ⊎_elim
      (λ (y : same_part unit u ≡ true).
      changed u ∙ ap (λ b. if b then o else tag_in tags u) y ∙ is ∙ ap (λ z. least_from table z None new) (same_part-true unit u y))
      (λ (n : same_part unit u ≡ false).
      changed u ∙ ap (λ b. if b then o else tag_in tags u) n ∙ are.least u ∙ sym (least u n))
      (cases_Bool (same_part unit u));
}

-- no unit has a tag where there are no events
none_tagged : (table : List Groups) (events : List Event) (tags : List (Option Tag)) (o : Option Waiting) → AreTags table events tags → IsFirstTag tags 0 o → not (is_some o) ≡ (length events == 0)
none_tagged table [] tags None are first = refl
none_tagged table (e ∷ es) tags None are first =
    let b = least_below table (e ∷ es) e (inl refl) in
    absurd (never (8 * (unit_in table e).actor + (unit_in table e).group) (first (unit_in table e) b.0 (are.least (unit_in table e) ∙ b.1)))
  where
    never : (n : ℕ) → n < 0 → ⊥
    never n l = omega (arith, l)
none_tagged table [] tags (Some w) are first = absurd (let e = least_found table [] w.unit w.tag (sym (are.least w.unit) ∙ first.0) in e.1)
none_tagged table (e ∷ es) tags (Some w) are first = sym (ne_eqb (length (e ∷ es)) 0 (λ z. some z))
  where
    some : length (e ∷ es) ≡ 0 → ⊥
    some z = omega (arith, z)

pub empty_exactly : (table : List Groups) (events : List Event) (tags : List (Option Tag)) (o : Option Waiting) (none : Bool) → is_some o ≡ not none → AreTags table events tags → IsFirstTag tags 0 o → none ≡ (length events == 0)
empty_exactly table events tags o none is are first = twice none ∙ ap not (sym is) ∙ none_tagged table events tags o are first
  where
    twice : (b : Bool) → b ≡ not (not b)
    twice true = refl
    twice false = refl
