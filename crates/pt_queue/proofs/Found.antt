-- Events of units, the least tag, and what blocks.
use Rattle.std.proofs.Common.{◌≡◌, ℕ, ◌==◌, ◌&&◌, ◌⊎◌, ◌≢◌, ◌↔◌, not, Bool, true, false, List, [], ◌∷◌, Option, Some, None, ℤ, if◌then◌else◌, refl, sym, ap, ap₂, subst, ◌∙◌, inl, inr, ⊎_elim, eqb-true, eq-eqb, ne_eqb, length, arith}
use Rattle.std.proofs.lemmas.Bool.{and_parts, and_from, false≢true}
use Rattle.pt_tags.specs.declared.tag.Tag.{Tag}
use Rattle.pt_tags.specs.declared.tag.Delay.{Delay}
use Rattle.pt_tags.specs.Tags.{same_tag, UpTo, Before, tag_lt, plus}
use Rattle.pt_types.specs.declared.firing.Event.{Event}
use Rattle.pt_types.specs.declared.graph.Graph.{Graph}
use Rattle.pt_types.specs.declared.graph.Unit.{Unit}
use Rattle.pt_types.specs.Lawful.{IsLawful}
use Rattle.pt_semantics.specs.Lists.{first_of, IsIn, Each, or_else}
use Rattle.pt_semantics.specs.Edges.{Edge}
use Rattle.pt_semantics.specs.Paths.{Goes}
use Rattle.pt_semantics.specs.Ranks.{sum_along}
use Rattle.pt_semantics.specs.Meaning.{Values}
use Rattle.pt_semantics.specs.Units.{HasEvent, at_input, same_part}
use Rattle.pt_semantics.proofs.Tags.{same_tag-true, same_tag-refl, tag_lt-true, tag_lt-from}
use Rattle.pt_semantics.proofs.Words.{when-true}
use Rattle.pt_semantics.proofs.Lookups.{first_of_found, when_found, same_some, none_some, Each-in, same_part-true, same_part-refl}
use Rattle.pt_semantics.proofs.Claiming.{event_found, has_event}
use Rattle.pt_semantics.proofs.Least.{past_least}
use Rattle.pt_causality.specs.Delays.{HasLeast, IsUnit}
use Rattle.pt_causality.proofs.Lawful.{ends_are_units}
use Rattle.pt_queue.specs.declared.groups.Groups.{Groups}
use Rattle.pt_queue.specs.Groups.{AreGroups}
use Rattle.pt_queue.specs.Events.{waiting_in, value_in, IsPlaced, IsLeastTag, IsBlocked}
use Rattle.pt_queue.specs.Scans.{is_of, unit_in, least_from, sooner_if, sooner, reaches}
use Rattle.pt_queue.proofs.Waits.{unit_at}

-- an event of a unit at a tag, in the list
pub record Has (table : List Groups) (xs : List Event) (u : Unit) (t : Tag) : Type 0 where
  pub event : Event
  pub in_list : IsIn event xs
  pub unit : unit_in table event ≡ u
  pub tag : event.tag ≡ t

pub event_of : (g : Graph) (table : List Groups) (xs : List Event) (u : Unit) (t : Tag) → AreGroups g table → Each (IsPlaced table) xs → HasEvent g (waiting_in xs) u t → Has table xs u t
event_of g table xs u t are placed h =
    let a = event_found g (waiting_in xs) u t h in
    let f = first_of_found (λ (e : Event). value_in e u.actor a.port t) xs a.value a.waits_there in
    let w = when_found (f.0.actor == u.actor && f.0.port == a.port && same_tag f.0.tag t) (Some f.0.value) a.value f.2 in
    let two = and_parts (f.0.actor == u.actor && f.0.port == a.port) (same_tag f.0.tag t) w.0 in
    let ports = and_parts (f.0.actor == u.actor) (f.0.port == a.port) two.0 in
    let actor : f.0.actor ≡ u.actor = eqb-true f.0.actor u.actor ports.0 in
    let port : f.0.port ≡ a.port = eqb-true f.0.port a.port ports.1 in
    record {
      event = f.0;
      in_list = f.1;
      unit = sym (unit_at g table f.0 are (Each-in (IsPlaced table) xs placed f.0 f.1)) ∙ ap₂ (at_input g) actor port ∙ a.unit;
      tag = same_tag-true f.0.tag t two.1;
    }

or_some : (x y : Option ℤ) (v : ℤ) → y ≡ Some v → (w : ℤ) × (or_else x y ≡ Some w)
or_some None y v h = (v, h)
or_some (Some x) y v h = (x, refl)

some_of : (h : Event → Option ℤ) (xs : List Event) (e : Event) (v : ℤ) → IsIn e xs → h e ≡ Some v → (w : ℤ) × (first_of h xs ≡ Some w)
some_of h [] e v mem f = absurd mem
some_of h (x ∷ xs) e v mem f =
    ⊎_elim
    (λ (same : e ≡ x). (v, ap (λ o. or_else o (first_of h xs)) (ap h (sym same) ∙ f)))
    (λ (rest : IsIn e xs). let r = some_of h xs e v rest f in or_some (h x) (first_of h xs) r.0 r.1)
    mem

here : (e : Event) → (e.actor == e.actor && e.port == e.port && same_tag e.tag e.tag) ≡ true
here e = and_from (e.actor == e.actor && e.port == e.port) (same_tag e.tag e.tag) (and_from (e.actor == e.actor) (e.port == e.port) (grind arith) (grind arith)) (same_tag-refl e.tag)

pub has_of : (g : Graph) (table : List Groups) (xs : List Event) (e : Event) → AreGroups g table → Each (IsPlaced table) xs → IsIn e xs → HasEvent g (waiting_in xs) (unit_in table e) e.tag
has_of g table xs e are placed mem =
    let p : IsPlaced table e = Each-in (IsPlaced table) xs placed e mem in
    let w = some_of (λ (y : Event). value_in y e.actor e.port e.tag) xs e e.value mem (when-true (e.actor == e.actor && e.port == e.port && same_tag e.tag e.tag) (Some e.value) (here e)) in
    subst (λ z. HasEvent g (waiting_in xs) z e.tag) (unit_at g table e are p) (has_event g (waiting_in xs) e.actor e.port e.tag w.0 p.port w.1)

-- the least tag so far, over a list

pub record Over (table : List Groups) (u : Unit) (best : Option Tag) (es : List Event) (t : Tag) : Type 0 where
  pub found : (best ≡ Some t) ⊎ ((e : Event) × IsIn e es × (is_of table u e ≡ true) × (e.tag ≡ t))
  pub below : (b : Tag) → best ≡ Some b → UpTo t b
  pub all : (e : Event) → IsIn e es → is_of table u e ≡ true → UpTo t e.tag

abbrev OverAll : List Groups → Unit → Option Tag → List Event → Option Tag → Type 0
OverAll table u best es None = (best ≡ None) × ((e : Event) → IsIn e es → is_of table u e ≡ false)
OverAll table u best es (Some t) = Over table u best es t

up_refl : (t : Tag) → UpTo t t
up_refl t = omega arith

up_trans : (t u v : Tag) → UpTo t u → UpTo u v → UpTo t v
up_trans t u v a b = grind arith

up_from : (t u : Tag) → tag_lt u t ≡ false → UpTo t u
up_from t u h = ⊎_elim (λ (b : Before u t). absurd (false≢true (sym h ∙ tag_lt-from u t b))) (λ k. k) (either t u)
  where
    either : (t u : Tag) → Before u t ⊎ UpTo t u
    either t u = grind arith

skip : (table : List Groups) (u : Unit) (best : Option Tag) (e : Event) (es : List Event) (r : Option Tag) → is_of table u e ≡ false → OverAll table u best es r → OverAll table u best (e ∷ es) r
skip table u best e es None h k = (k.0, λ x m. ⊎_elim (λ (same : x ≡ e). subst (λ z. is_of table u z ≡ false) (sym same) h) (λ (rest : IsIn x es). k.1 x rest) m)
skip table u best e es (Some t) h k = record {
  found = ⊎_elim (λ (b : best ≡ Some t). inl b) (λ (w : (x : Event) × IsIn x es × (is_of table u x ≡ true) × (x.tag ≡ t)). inr (w.0, inr w.1, w.2, w.3)) k.found;
  below = k.below;
  all = λ x m y. ⊎_elim (λ (same : x ≡ e). absurd (false≢true (sym h ∙ ap (is_of table u) (sym same) ∙ y))) (λ (rest : IsIn x es). k.all x rest y) m;
}

-- one event more of the unit, where the new best b is at most both
take_one : (table : List Groups) (u : Unit) (best : Option Tag) (e : Event) (es : List Event) (r : Option Tag) (b : Tag) → is_of table u e ≡ true → UpTo b e.tag → ((c : Tag) → best ≡ Some c → UpTo b c) → ((best ≡ Some b) ⊎ (e.tag ≡ b)) → OverAll table u (Some b) es r → OverAll table u best (e ∷ es) r
take_one table u best e es None b h up old is k = absurd (none_some b (sym k.0))
take_one table u best e es (Some t) b h up old is k = let tb : UpTo t b = k.below b refl in record {
  found = ⊎_elim
      (λ (s : Some b ≡ Some t). ⊎_elim (λ (o : best ≡ Some b). inl (o ∙ s)) (λ (o : e.tag ≡ b). inr (e, inl refl, h, o ∙ same_some b t s)) is)
      (λ (w : (x : Event) × IsIn x es × (is_of table u x ≡ true) × (x.tag ≡ t)). inr (w.0, inr w.1, w.2, w.3)) k.found;
  below = λ c o. up_trans t b c tb (old c o);
  all = λ x m y. ⊎_elim (λ (same : x ≡ e). subst (λ (z : Event). UpTo t z.tag) (sym same) (up_trans t b e.tag tb up)) (λ (rest : IsIn x es). k.all x rest y) m;
}

take_two : (table : List Groups) (u : Unit) (c : Tag) (e : Event) (es : List Event) (r : Option Tag) (b : Bool) → is_of table u e ≡ true → tag_lt e.tag c ≡ b → OverAll table u (if b then Some e.tag else Some c) es r → OverAll table u (Some c) (e ∷ es) r
take_two table u c e es r true h lt k = take_one table u (Some c) e es r e.tag h (up_refl e.tag) (λ d s. let l : Before e.tag c = tag_lt-true e.tag c lt in subst (λ z. UpTo e.tag z) (same_some c d s) (weak e.tag c l)) (inr refl) k
  where
    weak : (s t : Tag) → Before s t → UpTo s t
    weak s t l = grind arith
take_two table u c e es r false h lt k = take_one table u (Some c) e es r c h (up_from c e.tag lt) (λ d s. subst (λ z. UpTo c z) (same_some c d s) (up_refl c)) (inl refl) k

taking : (table : List Groups) (u : Unit) (best : Option Tag) (e : Event) (es : List Event) (r : Option Tag) → is_of table u e ≡ true → OverAll table u (sooner best e.tag) es r → OverAll table u best (e ∷ es) r
taking table u None e es r h k = take_one table u None e es r e.tag h (up_refl e.tag) (λ c s. absurd (none_some c s)) (inr refl) k
taking table u (Some c) e es r h k = take_two table u c e es r (tag_lt e.tag c) h refl k

stepping : (table : List Groups) (u : Unit) (best : Option Tag) (e : Event) (es : List Event) (r : Option Tag) (b : Bool) → is_of table u e ≡ b → OverAll table u (sooner_if b best e.tag) es r → OverAll table u best (e ∷ es) r
stepping table u best e es r true h k = taking table u best e es r h k
stepping table u best e es r false h k = skip table u best e es r h k

least_over : (table : List Groups) (u : Unit) (best : Option Tag) (es : List Event) → OverAll table u best es (least_from table u best es)
least_over table u None [] = (refl, λ e m. absurd m)
least_over table u (Some b) [] = record { found = inl refl; below = λ c s. subst (λ z. UpTo b z) (same_some b c s) (up_refl b); all = λ e m. absurd m }
least_over table u best (e ∷ es) = stepping table u best e es (least_from table u best (e ∷ es)) (is_of table u e) refl (least_over table u (sooner_if (is_of table u e) best e.tag) es)

of_unit : (table : List Groups) (u : Unit) (e : Event) → unit_in table e ≡ u → is_of table u e ≡ true
of_unit table u e h = subst (λ z. same_part (unit_in table e) z ≡ true) h (same_part-refl (unit_in table e))

-- an event has the least tag, and no event of its unit a lesser one
pub least_found : (table : List Groups) (xs : List Event) (u : Unit) (t : Tag) → least_from table u None xs ≡ Some t → (e : Event) × IsIn e xs × (unit_in table e ≡ u) × (e.tag ≡ t)
least_found table xs u t h = ⊎_elim
    (λ (s : None ≡ Some t). absurd (none_some t s))
    (λ (w : (x : Event) × IsIn x xs × (is_of table u x ≡ true) × (x.tag ≡ t)). (w.0, w.1, same_part-true (unit_in table w.0) u w.2, w.3))
    (subst (OverAll table u None xs) h (least_over table u None xs)).found

pub least_below : (table : List Groups) (xs : List Event) (e : Event) → IsIn e xs → (t : Tag) × (least_from table (unit_in table e) None xs ≡ Some t) × UpTo t e.tag
least_below table xs e m = by (least_from table (unit_in table e) None xs) refl
  where
    by : (o : Option Tag) → least_from table (unit_in table e) None xs ≡ o → (t : Tag) × (least_from table (unit_in table e) None xs ≡ Some t) × UpTo t e.tag
    by None h = absurd (false≢true (sym ((subst (OverAll table (unit_in table e) None xs) h (least_over table (unit_in table e) None xs)).1 e m) ∙ of_unit table (unit_in table e) e refl))
    by (Some t) h = (t, h, (subst (OverAll table (unit_in table e) None xs) h (least_over table (unit_in table e) None xs)).all e m (of_unit table (unit_in table e) e refl))

from_over : (g : Graph) (table : List Groups) (xs : List Event) (u : Unit) (r : Option Tag) → AreGroups g table → Each (IsPlaced table) xs → OverAll table u None xs r → IsLeastTag g (waiting_in xs) u r
from_over g table xs u None are placed k = λ t h. let f = event_of g table xs u t are placed h in false≢true (sym (k.1 f.event f.in_list) ∙ of_unit table u f.event f.unit)
from_over g table xs u (Some t) are placed k = (
  ⊎_elim (λ (s : None ≡ Some t). absurd (none_some t s))
      (λ (w : (x : Event) × IsIn x xs × (is_of table u x ≡ true) × (x.tag ≡ t)).
      subst (λ z. HasEvent g (waiting_in xs) u z) w.3 (subst (λ z. HasEvent g (waiting_in xs) z w.0.tag) (same_part-true (unit_in table w.0) u w.2) (has_of g table xs w.0 are placed w.1))) k.found,
  λ w h. let f = event_of g table xs u w are placed h in subst (λ z. UpTo t z) f.tag (k.all f.event f.in_list (of_unit table u f.event f.unit)),
)

pub least_is : (g : Graph) (table : List Groups) (xs : List Event) (u : Unit) → AreGroups g table → Each (IsPlaced table) xs → IsLeastTag g (waiting_in xs) u (least_from table u None xs)
least_is g table xs u are placed = from_over g table xs u (least_from table u None xs) are placed (least_over table u None xs)

-- what blocks

not_false : (b : Bool) → not b ≡ true → b ≡ false
not_false true h = sym h
not_false false h = refl

-- every path from there leads past a tag exactly where the least delay does
not_true : (b : Bool) → not b ≡ false → b ≡ true
not_true true h = refl
not_true false h = absurd (false≢true (sym h))

pub reach_past : (g : Graph) (x u : Unit) (d : Option Delay) (t w : Tag) → HasLeast g x u d → reaches d w t ≡ false → (path : List Edge) → Goes g x path u → Before t (plus w (sum_along path))
reach_past g x u None t w is h path go = absurd (is path go)
reach_past g x u (Some d) t w is h path go = (past_least g x u d t w is).0 (tag_lt-true t (plus w d) (not_true (tag_lt t (plus w d)) h)) path go

pub past_reach : (g : Graph) (x u : Unit) (d : Option Delay) (t w : Tag) → HasLeast g x u d → ((path : List Edge) → Goes g x path u → Before t (plus w (sum_along path))) → reaches d w t ≡ false
past_reach g x u None t w is h = refl
past_reach g x u (Some d) t w is h = ap not (tag_lt-from t (plus w d) ((past_least g x u d t w is).1 h))

-- a path leads from another unit alone
pub from_unit : (g : Graph) (x u : Unit) (path : List Edge) → IsLawful g → x ≢ u → Goes g x path u → IsUnit g x
from_unit g x u [] lawful ne go = absurd (ne go)
from_unit g x u (e ∷ path) lawful ne go = subst (IsUnit g) go.1 (ends_are_units g e lawful go.0).0

pub blocked_by : (g : Graph) (waits : Values) (x u : Unit) (t w : Tag) (o : Option Delay) → HasLeast g x u o → reaches o w t ≡ true → x ≢ u → HasEvent g waits x w → IsBlocked g waits u t
blocked_by g waits x u t w None is r ne ev = absurd (false≢true r)
blocked_by g waits x u t w (Some d) is r ne ev = record { unit = x; tag = w; delay = d; other = ne; event = ev; least = is; in_time = up_from (plus w d) t (not_false (tag_lt t (plus w d)) r) }

pub not_both_ways : (t w : Tag) → Before t w → UpTo w t → ⊥
not_both_ways t w b up = let less = b.1 up.0 in let most = up.1 b.0 in omega (arith, less, most)

-- nothing waits exactly where the list is empty
pub empty_waits : (xs : List Event) (n : ℕ) (b : Bool) → n ≡ length xs → b ≡ (n == 0) → (b ≡ true) ↔ ((a p : ℕ) (t : Tag) → waiting_in xs a p t ≡ None)
empty_waits [] n b len is = (λ e a p t. refl, λ h. is ∙ eq-eqb n 0 len)
empty_waits (e ∷ es) n b len is = (
  λ y. absurd (false≢true (sym (is ∙ ne_eqb n 0 (λ z. absurd (omega arith))) ∙ y)),
  λ h. let w = some_of (λ (y : Event). value_in y e.actor e.port e.tag) (e ∷ es) e e.value (inl refl) (when-true (e.actor == e.actor && e.port == e.port && same_tag e.tag e.tag) (Some e.value) (here e)) in
      absurd (none_some w.0 (sym (h e.actor e.port e.tag) ∙ w.1)),
)
