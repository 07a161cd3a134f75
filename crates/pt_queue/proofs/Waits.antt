-- What waits after one event more, and after the events of a unit and a tag are taken.
use Rattle.std.proofs.Common.{◌≡◌, ℕ, ◌<◌, ◌==◌, ◌&&◌, not, Bool, true, false, cond, length, List, [], ◌∷◌, Some, None, ℤ, filter, refl, sym, ap, ap₂, ◌∙◌, ⊎_elim, eqb-true, arith}
use Rattle.std.proofs.lemmas.Bool.{cases_Bool, and_parts}
use Rattle.pt_tags.specs.declared.tag.Tag.{Tag}
use Rattle.pt_tags.specs.Tags.{same_tag}
use Rattle.pt_types.specs.declared.firing.Event.{Event}
use Rattle.pt_types.specs.declared.graph.Graph.{Graph}
use Rattle.pt_types.specs.declared.graph.Unit.{Unit}
use Rattle.pt_types.specs.Ports.{when}
use Rattle.pt_semantics.specs.Lists.{or_else, Each}
use Rattle.pt_semantics.specs.Units.{at_input, same_part}
use Rattle.pt_semantics.specs.Claiming.{without_unit}
use Rattle.pt_semantics.proofs.Tags.{same_tag-true}
use Rattle.pt_semantics.proofs.Lookups.{when_or_else, when_none}
use Rattle.pt_queue.specs.declared.groups.Groups.{Groups}
use Rattle.pt_queue.specs.Groups.{AreGroups}
use Rattle.pt_queue.specs.Events.{waiting_in, value_in, IsPlaced}
use Rattle.pt_queue.specs.Scans.{is_at, unit_in}

pub placed_actor : (g : Graph) (table : List Groups) (e : Event) → AreGroups g table → IsPlaced table e → e.actor < length g.actors
placed_actor g table e are placed = let l : length table ≡ length g.actors = are.len in let k : e.actor < length table = placed.actor in omega (arith, l, k)

-- the unit of an event, by the table and by the graph
pub unit_at : (g : Graph) (table : List Groups) (e : Event) → AreGroups g table → IsPlaced table e → at_input g e.actor e.port ≡ unit_in table e
unit_at g table e are placed = λ i. record { actor = e.actor; group = sym (are.inputs e.actor e.port placed.port) i }

-- the test that keeps a port's values, against the test that keeps an event
keeps : (g : Graph) (table : List Groups) (u : Unit) (t : Tag) (e : Event) (b p : ℕ) (w : Tag) → AreGroups g table → IsPlaced table e → when (not (same_part (at_input g b p) u && same_tag t w)) (value_in e b p w) ≡ when (not (is_at table u t e)) (value_in e b p w)
keeps g table u t e b p w are placed =
    ⊎_elim
    (λ (here : (e.actor == b && e.port == p && same_tag e.tag w) ≡ true).
    let two = and_parts (e.actor == b && e.port == p) (same_tag e.tag w) here in
    let ports = and_parts (e.actor == b) (e.port == p) two.0 in
    let actor : e.actor ≡ b = eqb-true e.actor b ports.0 in
    let port : e.port ≡ p = eqb-true e.port p ports.1 in
    let tag : e.tag ≡ w = same_tag-true e.tag w two.1 in
    let unit : at_input g b p ≡ unit_in table e = ap₂ (at_input g) (sym actor) (sym port) ∙ unit_at g table e are placed in
    ap (λ (c : Bool). when (not c) (value_in e b p w)) (ap₂ (λ x y. same_part x u && same_tag t y) unit (sym tag)))
    (λ (away : (e.actor == b && e.port == p && same_tag e.tag w) ≡ false).
    let none : value_in e b p w ≡ None = ap (λ c. when c (Some e.value)) away in
    ap (when (not (same_part (at_input g b p) u && same_tag t w))) none ∙ when_none ℤ (not (same_part (at_input g b p) u && same_tag t w)) ∙ sym (ap (when (not (is_at table u t e))) none ∙ when_none ℤ (not (is_at table u t e))))
    (cases_Bool (e.actor == b && e.port == p && same_tag e.tag w))

one : (e : Event) (ys : List Event) (c : Bool) (b p : ℕ) (w : Tag) → waiting_in (cond c (e ∷ ys) ys) b p w ≡ or_else (when c (value_in e b p w)) (waiting_in ys b p w)
one e ys true b p w = refl
one e ys false b p w = refl

at_drop : (g : Graph) (table : List Groups) (u : Unit) (t : Tag) (ys : List Event) (b p : ℕ) (w : Tag) → AreGroups g table → Each (IsPlaced table) ys → waiting_in (filter (λ (e : Event). not (is_at table u t e)) ys) b p w ≡ without_unit g (waiting_in ys) u t b p w
at_drop g table u t [] b p w are placed = sym (when_none ℤ (not (same_part (at_input g b p) u && same_tag t w)))
at_drop g table u t (e ∷ ys) b p w are placed =
    one e (filter (λ (y : Event). not (is_at table u t y)) ys) (not (is_at table u t e)) b p w
    ∙ ap₂ or_else (sym (keeps g table u t e b p w are placed.0)) (at_drop g table u t ys b p w are placed.1)
    ∙ sym (when_or_else (not (same_part (at_input g b p) u && same_tag t w)) (value_in e b p w) (waiting_in ys b p w))

pub waiting_drop : (g : Graph) (table : List Groups) (u : Unit) (t : Tag) (xs : List Event) → AreGroups g table → Each (IsPlaced table) xs → waiting_in (filter (λ (e : Event). not (is_at table u t e)) xs) ≡ without_unit g (waiting_in xs) u t
waiting_drop g table u t xs are placed = λ i b p w. at_drop g table u t xs b p w are placed i
