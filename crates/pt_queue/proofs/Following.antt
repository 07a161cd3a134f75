-- How the least tags of units follow the events.
use Rattle.std.proofs.Common.{◌≡◌, ℕ, zero, suc, ◌<◌, ◌⊎◌, not, cond, Bool, true, false, if◌then◌else◌, List, [], ◌∷◌, ◌++◌, Option, Some, None, length, map, filter, slice_set, refl, sym, ap, subst, ◌∙◌, ⊎_elim, arith}
use Rattle.std.proofs.lemmas.Bool.{cases_Bool, and_parts}
use Rattle.std.proofs.lemmas.List.{append-nil}
use Rattle.pt_tags.specs.declared.tag.Tag.{Tag}
use Rattle.pt_tags.specs.Tags.{same_tag, tag_lt, Before}
use Rattle.pt_types.specs.declared.firing.Event.{Event}
use Rattle.pt_types.specs.declared.graph.Unit.{Unit}
use Rattle.pt_semantics.specs.Lists.{Each}
use Rattle.pt_semantics.specs.Units.{same_part}
use Rattle.pt_semantics.proofs.Lookups.{Each-from, Each-in, same_part-true}
use Rattle.pt_semantics.proofs.Tags.{cases_tags, tag_lt-from}
use Rattle.pt_queue.specs.declared.groups.Groups.{Groups}
use Rattle.pt_queue.specs.Events.{IsPlaced}
use Rattle.pt_queue.specs.Lines.{AreKept, all_of, joined_by, line_at, line_of_event, with_events}
use Rattle.pt_queue.specs.Scans.{is_at, is_of, least_from, sooner, sooner_if, unit_in}
use Rattle.pt_queue.proofs.Flat.{has_line, joined_length, settled_kept, settled_push}
use Rattle.pt_queue.proofs.Removing.{filtered_kept, parts_filtered}
use Rattle.pt_queue.proofs.Soonest.{least_append}

-- the order of two tags doesn't matter

not_after : (s t : Tag) → Before s t → tag_lt t s ≡ false
not_after s t h = grind arith

two : (s t : Tag) → sooner (Some t) s ≡ sooner (Some s) t
two s t = ⊎_elim
    (λ (e : s ≡ t). subst (λ (z : Tag). sooner (Some z) s ≡ sooner (Some s) z) e refl)
    (λ (h : Before s t ⊎ Before t s). ⊎_elim
    (λ (b : Before s t). ap (λ c. if c then Some s else Some t) (tag_lt-from s t b) ∙ sym (ap (λ c. if c then Some t else Some s) (not_after s t b)))
    (λ (b : Before t s). ap (λ c. if c then Some s else Some t) (not_after t s b) ∙ sym (ap (λ c. if c then Some t else Some s) (tag_lt-from t s b)))
    h)
    (cases_tags s t)

three : (b t s : Tag) (x y : Bool) → tag_lt t b ≡ x → tag_lt s b ≡ y → sooner (if x then Some t else Some b) s ≡ sooner (if y then Some s else Some b) t
three b t s true true h k = two s t
three b t s true false h k = ap (λ c. if c then Some s else Some t) (later b t s h k) ∙ sym (ap (λ c. if c then Some t else Some b) h)
  where
    later : (b t s : Tag) → tag_lt t b ≡ true → tag_lt s b ≡ false → tag_lt s t ≡ false
    later b t s h k = grind arith
three b t s false true h k = ap (λ c. if c then Some s else Some b) k ∙ sym (ap (λ c. if c then Some t else Some s) (later b s t k h))
  where
    later : (b t s : Tag) → tag_lt t b ≡ true → tag_lt s b ≡ false → tag_lt s t ≡ false
    later b t s h k = grind arith
three b t s false false h k = ap (λ c. if c then Some s else Some b) k ∙ sym (ap (λ c. if c then Some t else Some b) h)

swap_two : (best : Option Tag) (s t : Tag) → sooner (sooner best t) s ≡ sooner (sooner best s) t
swap_two None s t = two s t
swap_two (Some b) s t = three b t s (tag_lt t b) (tag_lt s b) refl refl

swap_ifs : (b c : Bool) (best : Option Tag) (s t : Tag) → sooner_if b (sooner_if c best t) s ≡ sooner_if c (sooner_if b best s) t
swap_ifs true true best s t = swap_two best s t
swap_ifs true false best s t = refl
swap_ifs false c best s t = refl

-- an event counts the same before others and after them
pub least_pushed : (table : List Groups) (u : Unit) (best : Option Tag) (e : Event) (xs : List Event) → least_from table u (sooner_if (is_of table u e) best e.tag) xs ≡ sooner_if (is_of table u e) (least_from table u best xs) e.tag
least_pushed table u best e [] = refl
least_pushed table u best e (x ∷ xs) =
    ap (λ o. least_from table u o xs) (swap_ifs (is_of table u x) (is_of table u e) best x.tag e.tag)
    ∙ least_pushed table u (sooner_if (is_of table u x) best x.tag) e xs

least_joined_at : (table : List Groups) (u : Unit) (best : Option Tag) (lines : List (List Event)) (n : ℕ) (e : Event) → n < length lines → least_from table u best (all_of (slice_set lines n (line_at lines n ++ e ∷ []))) ≡ sooner_if (is_of table u e) (least_from table u best (all_of lines)) e.tag
least_joined_at table u best [] n e l = absurd (omega (arith, l))
least_joined_at table u best (line ∷ lines) zero e l =
    least_append table u best (line ++ e ∷ []) (all_of lines)
    ∙ ap (λ o. least_from table u o (all_of lines)) (least_append table u best line (e ∷ []))
    ∙ least_pushed table u (least_from table u best line) e (all_of lines)
    ∙ ap (λ o. sooner_if (is_of table u e) o e.tag) (sym (least_append table u best line (all_of lines)))
least_joined_at table u best (line ∷ lines) (suc n) e l =
    least_append table u best line (all_of (slice_set lines n (line_at lines n ++ e ∷ [])))
    ∙ least_joined_at table u (least_from table u best line) lines n e (omega (arith, l))
    ∙ ap (λ o. sooner_if (is_of table u e) o e.tag) (sym (least_append table u best line (all_of lines)))

pub least_settled : (table : List Groups) (u : Unit) (best : Option Tag) (lines : List (List Event)) (loose : List Event) → Each (λ (e : Event). line_of_event e < length lines) loose → least_from table u best (all_of (with_events lines loose)) ≡ least_from table u best (all_of lines ++ loose)
least_settled table u best lines [] h = ap (least_from table u best) (sym (append-nil (all_of lines)))
least_settled table u best lines (e ∷ es) h =
    least_settled table u best (joined_by lines e) es (joined_length lines e es h.1)
    ∙ least_append table u best (all_of (joined_by lines e)) es
    ∙ ap (λ o. least_from table u o es) (least_joined_at table u best lines (line_of_event e) e h.0)
    ∙ sym (least_append table u best (all_of lines) (e ∷ es))

pub have_lines : (table : List Groups) (lines : List (List Event)) (loose : List Event) → AreKept table lines loose → Each (λ (e : Event). line_of_event e < length lines) loose
have_lines table lines loose k = Each-from (λ (e : Event). line_of_event e < length lines) loose (λ e m. has_line table lines e k.count (Each-in (IsPlaced table) loose k.placed e m))

-- the least tags of a queue's events
pub least_kept : (table : List Groups) (u : Unit) (lines : List (List Event)) (loose : List Event) → AreKept table lines loose → least_from table u None (all_of (with_events lines loose)) ≡ least_from table u None (all_of lines ++ loose)
least_kept table u lines loose k = least_settled table u None lines loose (have_lines table lines loose k)

-- after one event more
pub least_joined : (table : List Groups) (lines : List (List Event)) (loose : List Event) (e : Event) → AreKept table lines loose → IsPlaced table e → AreKept table (joined_by lines e) loose → (u : Unit) → least_from table u None (all_of (with_events (joined_by lines e) loose)) ≡ sooner_if (is_of table u e) (least_from table u None (all_of (with_events lines loose))) e.tag
least_joined table lines loose e k placed new u =
    least_kept table u (joined_by lines e) loose new
    ∙ least_append table u None (all_of (joined_by lines e)) loose
    ∙ ap (λ o. least_from table u o loose) (least_joined_at table u None lines (line_of_event e) e (has_line table lines e k.count placed))
    ∙ least_pushed table u (least_from table u None (all_of lines)) e loose
    ∙ ap (λ o. sooner_if (is_of table u e) o e.tag) (sym (least_kept table u lines loose k ∙ least_append table u None (all_of lines) loose))

pub least_loose : (table : List Groups) (lines : List (List Event)) (loose : List Event) (e : Event) → AreKept table lines loose → IsPlaced table e → (u : Unit) → least_from table u None (all_of (with_events lines (loose ++ e ∷ []))) ≡ sooner_if (is_of table u e) (least_from table u None (all_of (with_events lines loose))) e.tag
least_loose table lines loose e k placed u =
    ap (λ ls. least_from table u None (all_of ls)) (settled_push lines loose e)
    ∙ least_joined_at table u None (with_events lines loose) (line_of_event e) e (has_line table (with_events lines loose) e (settled_kept table lines loose k).count placed)

-- after those of another unit were removed
least_left : (table : List Groups) (v u : Unit) (t : Tag) (best : Option Tag) (xs : List Event) → same_part v u ≡ false → least_from table u best (filter (λ (e : Event). not (is_at table v t e)) xs) ≡ least_from table u best xs
least_left table v u t best [] h = refl
least_left table v u t best (x ∷ xs) h = ⊎_elim
    (λ (gone : is_at table v t x ≡ true).
    ap (λ b. least_from table u best (cond (not b) (x ∷ filter (λ (e : Event). not (is_at table v t e)) xs) (filter (λ (e : Event). not (is_at table v t e)) xs))) gone
    ∙ least_left table v u t best xs h
    ∙ sym (ap (λ b. least_from table u (sooner_if b best x.tag) xs) (other gone)))
    (λ (left : is_at table v t x ≡ false).
    ap (λ b. least_from table u best (cond (not b) (x ∷ filter (λ (e : Event). not (is_at table v t e)) xs) (filter (λ (e : Event). not (is_at table v t e)) xs))) left
    ∙ least_left table v u t (sooner_if (is_of table u x) best x.tag) xs h)
    (cases_Bool (is_at table v t x))
  where
    other : is_at table v t x ≡ true → is_of table u x ≡ false
    other gone = subst (λ z. same_part z u ≡ false) (sym (same_part-true (unit_in table x) v (and_parts (is_of table v x) (same_tag t x.tag) gone).0)) h

pub least_after : (table : List Groups) (v : Unit) (t : Tag) (lines : List (List Event)) (loose : List Event) → AreKept table lines loose → (u : Unit) → same_part v u ≡ false →
    least_from table u None (all_of (with_events (map (filter (λ (e : Event). not (is_at table v t e))) lines) (filter (λ (e : Event). not (is_at table v t e)) loose))) ≡ least_from table u None (all_of (with_events lines loose))
least_after table v t lines loose k u ne =
    least_kept table u (map (filter (λ (e : Event). not (is_at table v t e))) lines) (filter (λ (e : Event). not (is_at table v t e)) loose) (filtered_kept table (λ (e : Event). not (is_at table v t e)) lines loose k)
    ∙ ap (least_from table u None) (parts_filtered (λ (e : Event). not (is_at table v t e)) lines loose)
    ∙ least_left table v u t None (all_of lines ++ loose) ne
    ∙ sym (least_kept table u lines loose k)
