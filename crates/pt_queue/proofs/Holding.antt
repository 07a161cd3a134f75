-- Units with events that lead to another in time.
use Rattle.std.proofs.Common.{◌≡◌, ◌≢◌, ◌↔◌, ℕ, ◌+◌, ◌<◌, ◌≤◌, ◌==◌, ◌&&◌, ◌||◌, ◌⊎◌, not, nat_lt, Bool, true, false, List, Option, Some, None, length, refl, sym, ap, subst, ◌∙◌, ⊎_elim, arith, IsSome}
use Rattle.std.proofs.lemmas.Bool.{cases_Bool, and_parts, and_from, false≢true, ltb-true, lt-ltb}
use Rattle.pt_tags.specs.declared.tag.Tag.{Tag}
use Rattle.pt_tags.specs.declared.tag.Delay.{Delay}
use Rattle.pt_tags.specs.Tags.{AtMost, Before, UpTo, plus, tag_lt}
use Rattle.pt_types.specs.declared.firing.Event.{Event}
use Rattle.pt_types.specs.declared.graph.Graph.{Graph}
use Rattle.pt_types.specs.declared.graph.Unit.{Unit}
use Rattle.pt_types.specs.Lawful.{IsLawful}
use Rattle.pt_semantics.specs.Edges.{Edge}
use Rattle.pt_semantics.specs.Lists.{Each}
use Rattle.pt_semantics.specs.Paths.{Goes, IsLeast}
use Rattle.pt_semantics.specs.Ranks.{sum_along}
use Rattle.pt_semantics.specs.Meaning.{Values}
use Rattle.pt_semantics.specs.Units.{HasEvent, same_part}
use Rattle.pt_semantics.proofs.Lookups.{Each-in, same_part-refl, same_part_not}
use Rattle.pt_causality.specs.Delays.{AreLeast, HasLeast, IsUnit}
use Rattle.pt_queue.specs.declared.groups.Groups.{Groups}
use Rattle.pt_queue.specs.Groups.{AreGroups, groups_at}
use Rattle.pt_queue.specs.Events.{IsBlocked, IsClear, IsPlaced, waiting_in}
use Rattle.pt_queue.specs.Tagged.{AreTags, SomeHoldsUp, tag_holds_up, tag_in, unit_holds_up}
use Rattle.pt_queue.specs.Marks.{one_if}
use Rattle.pt_queue.specs.Scans.{reaches}
use Rattle.pt_queue.proofs.Found.{blocked_by, from_unit, least_found, not_both_ways}
use Rattle.pt_queue.proofs.Known.{tag_is}
use Rattle.pt_queue.proofs.Waits.{placed_actor}

not_false : (b : Bool) → not b ≡ true → b ≡ false
not_false true h = sym h
not_false false h = refl

other_unit : (x u : Unit) → same_part x u ≡ false → x ≢ u
other_unit x u h e = false≢true (sym h ∙ subst (λ z. same_part x z ≡ true) e (same_part-refl x))

-- what leads there from a later tag along a longer delay leads there
sooner_still : (d e : Delay) (v w t : Tag) → AtMost d e → UpTo v w → UpTo (plus w e) t → tag_lt t (plus v d) ≡ false
sooner_still d e v w t a u h = plain d.time d.step e.time e.step v.time v.step w.time w.step t.time t.step a u h
  where
    plain : (dt ds et es vt vs wt ws tt ts : ℕ) → (dt ≤ et) × (et ≤ dt → ds ≤ es) → (vt ≤ wt) × (wt ≤ vt → vs ≤ ws) → (wt + et ≤ tt) × (tt ≤ wt + et → ws + es ≤ ts) → (nat_lt tt (vt + dt) || ((tt == vt + dt) && nat_lt ts (vs + ds))) ≡ false
    plain dt ds et es vt vs wt ws tt ts a u h = grind arith

reaches_still : (g : Graph) (x u : Unit) (o : Option Delay) (d : Delay) (v w t : Tag) → HasLeast g x u o → IsLeast g x u d → UpTo v w → UpTo (plus w d) t → reaches o v t ≡ true
reaches_still g x u None d v w t has is up h = absurd (has is.along.0 is.along.1)
reaches_still g x u (Some e) d v w t has is up h =
    let less : AtMost e d = subst (AtMost e) is.along.2 (has.least is.along.0 is.along.1) in
    ap not (sooner_still e d v w t less up h)

either : (t w : Tag) → Before t w ⊎ UpTo w t
either t w = grind arith

-- a path from another unit that comes in time holds up
in_time : (g : Graph) (waits : Values) (x u : Unit) (t w : Tag) (path : List Edge) (o : Option Delay) → HasLeast g x u o → x ≢ u → HasEvent g waits x w → Goes g x path u → UpTo (plus w (sum_along path)) t → IsBlocked g waits u t
in_time g waits x u t w path None has ne ev go up = absurd (has path go)
in_time g waits x u t w path (Some d) has ne ev go up = record { unit = x; tag = w; delay = d; other = ne; event = ev; least = has; in_time = shorter d (sum_along path) w t (has.least path go) up }
  where
    shorter : (d e : Delay) (w t : Tag) → AtMost d e → UpTo (plus w e) t → UpTo (plus w d) t
    shorter d e w t a h = plain d.time d.step e.time e.step w.time w.step t.time t.step a h
      where
        plain : (dt ds et es wt ws tt ts : ℕ) → (dt ≤ et) × (et ≤ dt → ds ≤ es) → (wt + et ≤ tt) × (tt ≤ wt + et → ws + es ≤ ts) → (wt + dt ≤ tt) × (tt ≤ wt + dt → ws + ds ≤ ts)
        plain dt ds et es wt ws tt ts a h = grind arith

module _ (g : Graph) (table : List Groups) (least : Unit → Unit → Option Delay) (events : List Event) (tags : List (Option Tag)) (u : Unit) (t : Tag)
    (lawful : IsLawful g) (groups : AreGroups g table) (placed : Each (IsPlaced table) events) (are : AreTags table events tags) (is : AreLeast g least) (unit : IsUnit g u) where
  is_unit : (x : Unit) (w : Tag) → tag_in tags x ≡ Some w → nat_lt x.group (groups_at table x.actor).count ≡ true → IsUnit g x
  is_unit x w m h =
      let e = least_found table events x w (sym (are.least x) ∙ m) in (
        subst (λ (z : Unit). z.actor < length g.actors) e.2 (placed_actor g table e.0 groups (Each-in (IsPlaced table) events placed e.0 e.1)),
        subst (λ n. x.group < n) (groups.counts x.actor) (ltb-true x.group (groups_at table x.actor).count h),
      )

  held_by : (x : Unit) (o : Option Tag) → tag_in tags x ≡ o → tag_holds_up table least u t x o ≡ true → IsBlocked g (waiting_in events) u t
  held_by x None e h = absurd (false≢true h)
  held_by x (Some w) e h =
      let one = and_parts (not (same_part x u)) (reaches (least x u) w t && nat_lt x.group (groups_at table x.actor).count) h in
      let two = and_parts (reaches (least x u) w t) (nat_lt x.group (groups_at table x.actor).count) one.1 in
      blocked_by g (waiting_in events) x u t w (least x u) (is x u (is_unit x w e two.1) unit) two.0 (other_unit x u (not_false (same_part x u) one.0)) (tag_is g table events tags groups placed are x (Some w) e).0

  held : SomeHoldsUp table least u t tags → IsBlocked g (waiting_in events) u t
  held some = held_by some.0 (tag_in tags some.0) refl some.1

  holding : IsBlocked g (waiting_in events) u t → SomeHoldsUp table least u t tags
  holding k = (k.unit, by (tag_in tags k.unit) refl)
    where
      by : (o : Option Tag) → tag_in tags k.unit ≡ o → tag_holds_up table least u t k.unit o ≡ true
      by None e = absurd (tag_is g table events tags groups placed are k.unit None e k.tag k.event)
      by (Some w) e =
          let own : IsUnit g k.unit = from_unit g k.unit u k.least.along.0 lawful k.other k.least.along.1 in
          let up : UpTo w k.tag = (tag_is g table events tags groups placed are k.unit (Some w) e).1 k.tag k.event in
          let away : same_part k.unit u ≡ false = same_part_not k.unit u k.other in
          let reach : reaches (least k.unit u) w t ≡ true = reaches_still g k.unit u (least k.unit u) k.delay w k.tag t (is k.unit u own unit) k.least up k.in_time in
          let few : nat_lt k.unit.group (groups_at table k.unit.actor).count ≡ true = lt-ltb k.unit.group (groups_at table k.unit.actor).count (subst (λ n. k.unit.group < n) (sym (groups.counts k.unit.actor)) own.1) in
          and_from (not (same_part k.unit u)) (reaches (least k.unit u) w t && nat_lt k.unit.group (groups_at table k.unit.actor).count) (ap not away) (and_from (reaches (least k.unit u) w t) (nat_lt k.unit.group (groups_at table k.unit.actor).count) reach few)

  pub held_is : (b : Bool) → (b ≡ true → SomeHoldsUp table least u t tags) → (b ≡ false → (x : Unit) → unit_holds_up table least u t tags x ≡ false) → (b ≡ true) ↔ IsBlocked g (waiting_in events) u t
  held_is true some none = (λ h. held (some refl), λ k. refl)
  held_is false some none = (λ h. absurd (false≢true h), λ k. let s = holding k in absurd (false≢true (sym (none refl s.0) ∙ s.1)))

  pub free_is : (b : Bool) → (b ≡ true → SomeHoldsUp table least u t tags) → (b ≡ false → (x : Unit) → unit_holds_up table least u t tags x ≡ false) → (b ≡ false) ↔ IsClear g (waiting_in events) u t
  free_is b some none = (
    (λ h x w path ne ev go. ⊎_elim
        (λ (before : Before t (plus w (sum_along path))). before)
        (λ (up : UpTo (plus w (sum_along path)) t).
        let s = holding (in_time g (waiting_in events) x u t w path (least x u) (is x u (from_unit g x u path lawful ne go) unit) ne ev go up) in
        absurd (false≢true (sym (none h s.0) ∙ s.1)))
        (either t (plus w (sum_along path)))),
    (λ clear. ⊎_elim
        (λ (y : b ≡ true).
        let k = held (some y) in
        let before : Before t (plus k.tag k.delay) = subst (λ z. Before t (plus k.tag z)) k.least.along.2 (clear k.unit k.tag k.least.along.0 k.other k.event k.least.along.1) in
        absurd (not_both_ways t (plus k.tag k.delay) before k.in_time))
        (λ (n : b ≡ false). n)
        (cases_Bool b)),
  )

reaches_some : (d : Option Delay) (w t : Tag) → reaches d w t ≡ true → IsSome d
reaches_some None w t h = absurd (false≢true h)
reaches_some (Some d) w t h = refl

-- a unit that holds up another has a tag, and a path leads from it
pub holder_has : (table : List Groups) (least : Unit → Unit → Option Delay) (u : Unit) (t : Tag) (x : Unit) (o : Option Tag) → tag_holds_up table least u t x o ≡ true → (one_if o ≡ 1) × IsSome (least x u)
holder_has table least u t x None h = absurd (false≢true h)
holder_has table least u t x (Some w) h =
    let one = and_parts (not (same_part x u)) (reaches (least x u) w t && nat_lt x.group (groups_at table x.actor).count) h in
    let two = and_parts (reaches (least x u) w t) (nat_lt x.group (groups_at table x.actor).count) one.1 in
    (refl, reaches_some (least x u) w t two.0)
