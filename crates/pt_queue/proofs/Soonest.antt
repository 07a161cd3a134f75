-- The least tag of a unit's lines is that of their first events.
use Rattle.std.proofs.Common.{◌≡◌, ℕ, zero, suc, ◌+◌, ◌*◌, ◌<◌, ◌≤◌, ◌==◌, ◌&&◌, ◌⊎◌, Bool, true, false, if◌then◌else◌, List, [], ◌∷◌, ◌++◌, Option, Some, None, length, take, refl, sym, ap, ap₂, ◌∙◌, inl, inr, ⊎_elim, eqb-true, append_assoc, arith}
use Rattle.std.proofs.lemmas.Bool.{cases_Bool, and_parts}
use Rattle.std.proofs.lemmas.List.{append-nil, take_all}
use Rattle.pt_tags.specs.declared.tag.Tag.{Tag}
use Rattle.pt_tags.specs.Tags.{same_tag, tag_lt, Before, UpTo}
use Rattle.pt_types.specs.declared.firing.Event.{Event}
use Rattle.pt_types.specs.declared.graph.Unit.{Unit}
use Rattle.pt_types.specs.Ports.{when}
use Rattle.pt_semantics.specs.Lists.{Each, or_else}
use Rattle.pt_semantics.specs.Units.{same_part}
use Rattle.pt_queue.specs.declared.groups.Groups.{Groups}
use Rattle.pt_queue.specs.Groups.{group_in}
use Rattle.pt_queue.specs.Events.{waiting_in}
use Rattle.pt_queue.specs.Lines.{AreInLines, TagsRise, IsInLine, all_of, first, line_at, value_on}
use Rattle.pt_queue.specs.Scans.{is_of, least_from, sooner, sooner_first, sooner_if, unit_in}

-- an event in the line of an input waits there
pub at_input_of : (table : List Groups) (a p : ℕ) (e : Event) → p < 8 → IsInLine table (8 * a + p) e → (e.actor ≡ a) × (e.port ≡ p)
at_input_of table a p e l h = let line : 8 * e.actor + e.port ≡ 8 * a + p = h.line in let few : e.port < 8 = h.placed.port in (omega (arith, line, few, l), omega (arith, line, few, l))

pub unit_of_line : (table : List Groups) (a p : ℕ) (e : Event) → p < 8 → IsInLine table (8 * a + p) e → unit_in table e ≡ record { actor = a; group = group_in table a p }
unit_of_line table a p e l h = let at = at_input_of table a p e l h in λ i. record { actor = at.0 i; group = group_in table (at.0 i) (at.1 i) }

pub of_line : (table : List Groups) (u : Unit) (p : ℕ) (e : Event) → p < 8 → IsInLine table (8 * u.actor + p) e → is_of table u e ≡ (group_in table u.actor p == u.group)
of_line table u p e l h = ap (λ (x : Unit). same_part x u) (unit_of_line table u.actor p e l h) ∙ own u (group_in table u.actor p)
  where
    own : (u : Unit) (g : ℕ) → (u.actor == u.actor && g == u.group) ≡ (g == u.group)
    own u g = ap (λ b. b && g == u.group) (itself u.actor)
      where
        itself : (n : ℕ) → (n == n) ≡ true
        itself n = grind arith

pub least_append : (table : List Groups) (u : Unit) (best : Option Tag) (xs ys : List Event) → least_from table u best (xs ++ ys) ≡ least_from table u (least_from table u best xs) ys
least_append table u best [] ys = refl
least_append table u best (x ∷ xs) ys = least_append table u (sooner_if (is_of table u x) best x.tag) xs ys

pub least_none : (table : List Groups) (u : Unit) (best : Option Tag) (xs : List Event) → Each (λ (e : Event). is_of table u e ≡ false) xs → least_from table u best xs ≡ best
least_none table u best [] h = refl
least_none table u best (x ∷ xs) h = ap (λ b. least_from table u (sooner_if b best x.tag) xs) h.0 ∙ least_none table u best xs h.1

stays : (b t : Tag) → UpTo b t → tag_lt t b ≡ false
stays b t h = grind arith

-- no later tag is sooner
least_later : (table : List Groups) (u : Unit) (b : Tag) (xs : List Event) → Each (λ (e : Event). UpTo b e.tag) xs → least_from table u (Some b) xs ≡ Some b
least_later table u b [] h = refl
least_later table u b (x ∷ xs) h = ap (λ best. least_from table u best xs) (one (is_of table u x) x.tag h.0) ∙ least_later table u b xs h.1
  where
    one : (c : Bool) (t : Tag) → UpTo b t → sooner_if c (Some b) t ≡ Some b
    one true t up = ap (λ d. if d then Some t else Some b) (stays b t up)
    one false t up = refl

up_to : (b t u : Tag) → UpTo b t → Before t u → UpTo b u
up_to b t u h k = grind arith

each_up : (b t : Tag) (xs : List Event) → UpTo b t → Each (λ (e : Event). Before t e.tag) xs → Each (λ (e : Event). UpTo b e.tag) xs
each_up b t [] up h = tt
each_up b t (x ∷ xs) up h = (up_to b t x.tag up h.0, each_up b t xs up h.1)

-- the first event has the least tag of its line
least_first : (table : List Groups) (u : Unit) (best : Option Tag) (e : Event) (es : List Event) → TagsRise (e ∷ es) → least_from table u (sooner best e.tag) es ≡ sooner best e.tag
least_first table u None e es h = least_later table u e.tag es (each_up e.tag e.tag es (omega arith) h.0)
least_first table u (Some b) e es h = by (tag_lt e.tag b) refl
  where
    not_less : (t u : Tag) → tag_lt u t ≡ false → UpTo t u
    not_less t u h = grind arith

    by : (c : Bool) → tag_lt e.tag b ≡ c → least_from table u (if c then Some e.tag else Some b) es ≡ (if c then Some e.tag else Some b)
    by true k = least_later table u e.tag es (each_up e.tag e.tag es (omega arith) h.0)
    by false k = least_later table u b es (each_up b e.tag es (not_less b e.tag k) h.0)

each_map : (P Q : Event → Type 0) (xs : List Event) → ((e : Event) → P e → Q e) → Each P xs → Each Q xs
each_map P Q [] f h = tt
each_map P Q (x ∷ xs) f h = (f x h.0, each_map P Q xs f h.1)

-- a line of another unit
pub least_other : (table : List Groups) (u : Unit) (p : ℕ) (best : Option Tag) (line : List Event) → p < 8 → Each (IsInLine table (8 * u.actor + p)) line → (group_in table u.actor p == u.group) ≡ false → best ≡ least_from table u best line
least_other table u p best line l h ne = sym (least_none table u best line (each_map (IsInLine table (8 * u.actor + p)) (λ (e : Event). is_of table u e ≡ false) line (λ e k. of_line table u p e l k ∙ ne) h))

-- the lesser of the least tag so far and that of the first event is the least of all
pub least_of_line : (table : List Groups) (u : Unit) (p : ℕ) (best : Option Tag) (line : List Event) → p < 8 → Each (IsInLine table (8 * u.actor + p)) line → TagsRise line → (group_in table u.actor p == u.group) ≡ true → sooner_first best (first line) ≡ least_from table u best line
least_of_line table u p best [] l h order eq = refl
least_of_line table u p best (x ∷ line) l h order eq =
    sym (ap (λ c. least_from table u (sooner_if c best x.tag) line) (of_line table u p x l h.0 ∙ eq) ∙ least_first table u best x line order)

-- the lines one after another
pub all_more : (lines : List (List Event)) (n : ℕ) → all_of (take (suc n) lines) ≡ all_of (take n lines) ++ line_at lines n
all_more [] zero = refl
all_more [] (suc n) = refl
all_more (line ∷ lines) zero = append-nil line
all_more (line ∷ lines) (suc n) = ap (λ es. line ++ es) (all_more lines n) ∙ sym (append_assoc line (all_of (take n lines)) (line_at lines n))

pub other_unit : (table : List Groups) (u : Unit) (n : ℕ) (e : Event) → IsInLine table n e → (n < 8 * u.actor) ⊎ (8 * u.actor + 8 ≤ n) → is_of table u e ≡ false
other_unit table u n e h away = ⊎_elim
    (λ (y : is_of table u e ≡ true).
    let two = and_parts (e.actor == u.actor) (group_in table e.actor e.port == u.group) y in
    let actor : e.actor ≡ u.actor = eqb-true e.actor u.actor two.0 in
    let line : 8 * e.actor + e.port ≡ n = h.line in
    let few : e.port < 8 = h.placed.port in
    ⊎_elim (λ (l : n < 8 * u.actor). absurd (omega (arith, l, line, few, actor))) (λ (m : 8 * u.actor + 8 ≤ n). absurd (omega (arith, m, line, few, actor))) away)
    (λ (k : is_of table u e ≡ false). k)
    (cases_Bool (is_of table u e))

skip_line : (table : List Groups) (lines : List (List Event)) (u : Unit) (n : ℕ) (best : Option Tag) → AreInLines table lines → (n < 8 * u.actor) ⊎ (8 * u.actor + 8 ≤ n) → least_from table u best (line_at lines n) ≡ best
skip_line table lines u n best h away = least_none table u best (line_at lines n) (each_map (IsInLine table n) (λ (e : Event). is_of table u e ≡ false) (line_at lines n) (λ e k. other_unit table u n e k away) (h n))

-- the least tag of the first n lines
pub least_step : (table : List Groups) (lines : List (List Event)) (u : Unit) (n : ℕ) → least_from table u None (all_of (take (suc n) lines)) ≡ least_from table u (least_from table u None (all_of (take n lines))) (line_at lines n)
least_step table lines u n = ap (least_from table u None) (all_more lines n) ∙ least_append table u None (all_of (take n lines)) (line_at lines n)

pub least_before : (table : List Groups) (lines : List (List Event)) (u : Unit) (n : ℕ) → AreInLines table lines → n ≤ 8 * u.actor → None ≡ least_from table u None (all_of (take n lines))
least_before table lines u zero h l = refl
least_before table lines u (suc n) h l =
    let away : n < 8 * u.actor = omega (arith, l) in
    least_before table lines u n h (omega (arith, l)) ∙ sym (skip_line table lines u n (least_from table u None (all_of (take n lines))) h (inl away)) ∙ sym (least_step table lines u n)

least_after : (table : List Groups) (lines : List (List Event)) (u : Unit) (j : ℕ) → AreInLines table lines → least_from table u None (all_of (take (8 * u.actor + 8 + j) lines)) ≡ least_from table u None (all_of (take (8 * u.actor + 8) lines))
least_after table lines u zero h = ap (λ n. least_from table u None (all_of (take n lines))) (none (8 * u.actor + 8))
  where
    none : (n : ℕ) → n + 0 ≡ n
    none n = omega arith
least_after table lines u (suc j) h =
    ap (λ n. least_from table u None (all_of (take n lines))) (more (8 * u.actor + 8) j)
    ∙ least_step table lines u (8 * u.actor + 8 + j)
    ∙ skip_line table lines u (8 * u.actor + 8 + j) (least_from table u None (all_of (take (8 * u.actor + 8 + j) lines))) h (inr (omega arith))
    ∙ least_after table lines u j h
  where
    more : (n j : ℕ) → n + suc j ≡ suc (n + j)
    more n j = omega arith

pub least_all : (table : List Groups) (lines : List (List Event)) (u : Unit) → AreInLines table lines → least_from table u None (all_of (take (8 * u.actor + 8) lines)) ≡ least_from table u None (all_of lines)
least_all table lines u h = sym (least_after table lines u (length lines) h) ∙ ap (λ ls. least_from table u None (all_of ls)) (take_all (8 * u.actor + 8 + length lines) lines (omega arith))

-- lines without events change nothing
pub least_rest : (table : List Groups) (lines : List (List Event)) (u : Unit) (k j : ℕ) → ((p : ℕ) → k ≤ p → p < k + j → line_at lines (8 * u.actor + p) ≡ []) → least_from table u None (all_of (take (8 * u.actor + k) lines)) ≡ least_from table u None (all_of (take (8 * u.actor + (k + j)) lines))
least_rest table lines u k zero none = ap (λ n. least_from table u None (all_of (take (8 * u.actor + n) lines))) (omega arith)
least_rest table lines u k (suc j) none =
    least_rest table lines u k j (λ p le l. none p le (omega (arith, l)))
    ∙ sym (ap (least_from table u (least_from table u None (all_of (take (8 * u.actor + (k + j)) lines)))) (none (k + j) (omega arith) (omega arith)))
    ∙ sym (least_step table lines u (8 * u.actor + (k + j)))
    ∙ ap (λ n. least_from table u None (all_of (take n lines))) (next (8 * u.actor) k j)
  where
    next : (n k j : ℕ) → suc (n + (k + j)) ≡ n + (k + suc j)
    next n k j = omega arith

-- in the line of an input the tag alone tells what waits there
pub value_line : (table : List Groups) (a p : ℕ) (t : Tag) (line : List Event) → p < 8 → Each (IsInLine table (8 * a + p)) line → value_on line t ≡ waiting_in line a p t
value_line table a p t [] l h = refl
value_line table a p t (e ∷ es) l h =
    let at = at_input_of table a p e l h.0 in
    ap₂ (λ b o. or_else (when (b && same_tag e.tag t) (Some e.value)) o) (sym (there e.actor e.port a p at.0 at.1)) (value_line table a p t es l h.1)
  where
    there : (b q a p : ℕ) → b ≡ a → q ≡ p → (b == a && q == p) ≡ true
    there b q a p x y = grind arith
