-- What waits in lines, and among loose events.
use Rattle.std.proofs.Common.{◌≡◌, ◌≢◌, ℕ, zero, suc, ◌+◌, ◌*◌, ◌<◌, ◌==◌, ◌&&◌, ◌⊎◌, true, false, List, [], ◌∷◌, ◌++◌, Option, Some, None, ℤ, length, refl, sym, ap, ap₂, subst, ◌∙◌, inl, inr, ⊎_elim, eqb-true, arith}
use Rattle.std.proofs.lemmas.Bool.{cases_Bool, and_parts}
use Rattle.std.proofs.lemmas.List.{append-nil, get_or-set_same, get_or-set_other, length-set}
use Rattle.pt_tags.specs.declared.tag.Tag.{Tag}
use Rattle.pt_tags.specs.Tags.{same_tag}
use Rattle.pt_types.specs.declared.firing.Event.{Event}
use Rattle.pt_types.specs.Ports.{when}
use Rattle.pt_semantics.specs.Lists.{Each, or_else}
use Rattle.pt_semantics.specs.Meaning.{added}
use Rattle.pt_semantics.proofs.Tags.{same_tag-true}
use Rattle.pt_semantics.proofs.Lookups.{first_of-append, or_else_none, or_else_assoc, Each-append}
use Rattle.pt_queue.specs.declared.groups.Groups.{Groups}
use Rattle.pt_queue.specs.Events.{waiting_in, value_in, IsPlaced}
use Rattle.pt_queue.specs.Lines.{AreInLines, AreKept, IsInLine, all_of, joined_by, line_at, line_of_event, with_events}
use Rattle.pt_queue.proofs.Rising.{each_push}

-- what waits in a list and then another
pub waiting_append : (xs ys : List Event) (a p : ℕ) (t : Tag) → waiting_in (xs ++ ys) a p t ≡ or_else (waiting_in xs a p t) (waiting_in ys a p t)
waiting_append xs ys a p t = first_of-append (λ (e : Event). value_in e a p t) xs ys

elsewhere : (e : Event) (a p : ℕ) (t : Tag) → (e.actor ≡ a → e.port ≡ p → ⊥) → value_in e a p t ≡ None
elsewhere e a p t ne = ⊎_elim
    (λ (here : (e.actor == a && e.port == p && same_tag e.tag t) ≡ true).
    let two = and_parts (e.actor == a && e.port == p) (same_tag e.tag t) here in
    let ports = and_parts (e.actor == a) (e.port == p) two.0 in
    absurd (ne (eqb-true e.actor a ports.0) (eqb-true e.port p ports.1)))
    (λ (away : (e.actor == a && e.port == p && same_tag e.tag t) ≡ false). ap (λ c. when c (Some e.value)) away)
    (cases_Bool (e.actor == a && e.port == p && same_tag e.tag t))

not_in_line : (table : List Groups) (line : List Event) (n a p : ℕ) (t : Tag) → Each (IsInLine table n) line → 8 * a + p ≢ n → waiting_in line a p t ≡ None
not_in_line table [] n a p t h ne = refl
not_in_line table (e ∷ es) n a p t h ne =
    let own : line_of_event e ≡ n = h.0.line in
    ap (λ o. or_else o (waiting_in es a p t)) (elsewhere e a p t (λ x y. ne (omega (arith, x, y, own)))) ∙ not_in_line table es n a p t h.1 ne

next_from : (table : List Groups) (k : ℕ) (line : List Event) (lines : List (List Event)) → ((n : ℕ) → Each (IsInLine table (k + n)) (line_at (line ∷ lines) n)) → (n : ℕ) → Each (IsInLine table (suc k + n)) (line_at lines n)
next_from table k line lines h n = subst (λ m. Each (IsInLine table m) (line_at lines n)) (shift k n) (h (suc n))
  where
    shift : (k n : ℕ) → k + suc n ≡ suc k + n
    shift k n = omega arith

first_from : (table : List Groups) (k : ℕ) (line : List Event) (lines : List (List Event)) → ((n : ℕ) → Each (IsInLine table (k + n)) (line_at (line ∷ lines) n)) → Each (IsInLine table k) line
first_from table k line lines h = subst (λ m. Each (IsInLine table m) line) (none k) (h 0)
  where
    none : (k : ℕ) → k + 0 ≡ k
    none k = omega arith

flat_none : (table : List Groups) (k : ℕ) (lines : List (List Event)) (a p : ℕ) (t : Tag) → ((n : ℕ) → Each (IsInLine table (k + n)) (line_at lines n)) → 8 * a + p < k → waiting_in (all_of lines) a p t ≡ None
flat_none table k [] a p t h l = refl
flat_none table k (line ∷ lines) a p t h l =
    waiting_append line (all_of lines) a p t
    ∙ ap₂ or_else (not_in_line table line k a p t (first_from table k line lines h) (λ e. omega (arith, e, l))) (flat_none table (suc k) lines a p t (next_from table k line lines h) (omega (arith, l)))

flat_at : (table : List Groups) (k : ℕ) (lines : List (List Event)) (n a p : ℕ) (t : Tag) → ((n : ℕ) → Each (IsInLine table (k + n)) (line_at lines n)) → 8 * a + p ≡ k + n → waiting_in (all_of lines) a p t ≡ waiting_in (line_at lines n) a p t
flat_at table k [] n a p t h e = refl
flat_at table k (line ∷ lines) zero a p t h e =
    waiting_append line (all_of lines) a p t
    ∙ ap (or_else (waiting_in line a p t)) (flat_none table (suc k) lines a p t (next_from table k line lines h) (omega (arith, e)))
    ∙ or_else_none (waiting_in line a p t)
flat_at table k (line ∷ lines) (suc n) a p t h e =
    waiting_append line (all_of lines) a p t
    ∙ ap (λ o. or_else o (waiting_in (all_of lines) a p t)) (not_in_line table line k a p t (first_from table k line lines h) (λ z. omega (arith, z, e)))
    ∙ flat_at table (suc k) lines n a p t (next_from table k line lines h) (omega (arith, e))

-- what waits at an input in all lines waits in its line
pub lines_wait : (table : List Groups) (lines : List (List Event)) (a p : ℕ) (t : Tag) → AreInLines table lines → waiting_in (all_of lines) a p t ≡ waiting_in (line_at lines (8 * a + p)) a p t
lines_wait table lines a p t h = flat_at table 0 lines (8 * a + p) a p t (λ n. subst (λ m. Each (IsInLine table m) (line_at lines n)) (none n) (h n)) (omega arith)
  where
    none : (n : ℕ) → n ≡ 0 + n
    none n = omega arith

-- what waits at an input is the same while its line is
pub later_waits : (table : List Groups) (now before : List (List Event)) (loose : List Event) (a p : ℕ) (t : Tag) → AreInLines table now → AreInLines table before → line_at now (8 * a + p) ≡ line_at before (8 * a + p) → waiting_in (all_of now ++ loose) a p t ≡ waiting_in (all_of before ++ loose) a p t
later_waits table now before loose a p t h k e =
    waiting_append (all_of now) loose a p t
    ∙ ap (λ o. or_else o (waiting_in loose a p t)) (lines_wait table now a p t h ∙ ap (λ (line : List Event). waiting_in line a p t) e ∙ sym (lines_wait table before a p t k))
    ∙ sym (waiting_append (all_of before) loose a p t)

-- the members of all lines
pub each_all : (P : Event → Type 0) (lines : List (List Event)) → ((n : ℕ) → Each P (line_at lines n)) → Each P (all_of lines)
each_all P [] h = tt
each_all P (line ∷ lines) h = Each-append P line (all_of lines) (h 0) (each_all P lines (λ n. h (suc n)))

each_map : (P Q : Event → Type 0) (xs : List Event) → ((e : Event) → P e → Q e) → Each P xs → Each Q xs
each_map P Q [] f h = tt
each_map P Q (x ∷ xs) f h = (f x h.0, each_map P Q xs f h.1)

pub all_placed : (table : List Groups) (lines : List (List Event)) → AreInLines table lines → Each (IsPlaced table) (all_of lines)
all_placed table lines h = each_all (IsPlaced table) lines (λ n. each_map (IsInLine table n) (IsPlaced table) (line_at lines n) (λ e k. k.placed) (h n))

cases_place : (n i : ℕ) → (n ≡ i) ⊎ (n ≢ i)
cases_place n i = grind arith

-- after an event joined its line
pub line_joined : (lines : List (List Event)) (e : Event) (n : ℕ) → line_of_event e < length lines → (n ≡ line_of_event e → line_at (joined_by lines e) n ≡ line_at lines n ++ e ∷ []) × (n ≢ line_of_event e → line_at (joined_by lines e) n ≡ line_at lines n)
line_joined lines e n l = (
  (λ x. ap (line_at (joined_by lines e)) x ∙ get_or-set_same lines (line_of_event e) (line_at lines (line_of_event e) ++ e ∷ []) [] l ∙ ap (λ m. line_at lines m ++ e ∷ []) (sym x)),
  (λ ne. get_or-set_other lines (line_of_event e) n (line_at lines (line_of_event e) ++ e ∷ []) [] ne),
)

pub joined_in_lines : (table : List Groups) (lines : List (List Event)) (e : Event) → AreInLines table lines → IsPlaced table e → line_of_event e < length lines → AreInLines table (joined_by lines e)
joined_in_lines table lines e h placed l n = ⊎_elim
    (λ (x : n ≡ line_of_event e). subst (Each (IsInLine table n)) (sym ((line_joined lines e n l).0 x)) (each_push (IsInLine table n) (line_at lines n) e (h n) (record { line = sym x; placed = placed })))
    (λ (ne : n ≢ line_of_event e). subst (Each (IsInLine table n)) (sym ((line_joined lines e n l).1 ne)) (h n))
    (cases_place n (line_of_event e))

pub joined_waits : (table : List Groups) (lines : List (List Event)) (e : Event) (a p : ℕ) (t : Tag) → AreInLines table lines → IsPlaced table e → line_of_event e < length lines → waiting_in (all_of (joined_by lines e)) a p t ≡ or_else (waiting_in (all_of lines) a p t) (value_in e a p t)
joined_waits table lines e a p t h placed l = ⊎_elim
    (λ (x : 8 * a + p ≡ line_of_event e).
    lines_wait table (joined_by lines e) a p t (joined_in_lines table lines e h placed l)
    ∙ ap (λ (line : List Event). waiting_in line a p t) ((line_joined lines e (8 * a + p) l).0 x)
    ∙ waiting_append (line_at lines (8 * a + p)) (e ∷ []) a p t
    ∙ ap₂ or_else (sym (lines_wait table lines a p t h)) (or_else_none (value_in e a p t)))
    (λ (ne : 8 * a + p ≢ line_of_event e).
    lines_wait table (joined_by lines e) a p t (joined_in_lines table lines e h placed l)
    ∙ ap (λ (line : List Event). waiting_in line a p t) ((line_joined lines e (8 * a + p) l).1 ne)
    ∙ sym (lines_wait table lines a p t h)
    ∙ sym (ap (or_else (waiting_in (all_of lines) a p t)) (elsewhere e a p t (λ x y. ne (omega (arith, x, y)))) ∙ or_else_none (waiting_in (all_of lines) a p t)))
    (cases_place (8 * a + p) (line_of_event e))

-- there is a line for each event that is placed
pub has_line : (table : List Groups) (lines : List (List Event)) (e : Event) → length lines ≡ 8 * length table → IsPlaced table e → line_of_event e < length lines
has_line table lines e count placed = let a : e.actor < length table = placed.actor in let p : e.port < 8 = placed.port in omega (arith, count, a, p)

pub joined_kept : (table : List Groups) (lines : List (List Event)) (e : Event) (loose : List Event) → AreKept table lines (e ∷ loose) → AreKept table (joined_by lines e) loose
joined_kept table lines e loose k = record {
  count = length-set lines (line_of_event e) (line_at lines (line_of_event e) ++ e ∷ []) ∙ k.count;
  in_lines = joined_in_lines table lines e k.in_lines k.placed.0 (has_line table lines e k.count k.placed.0);
  placed = k.placed.1;
}

pub line_kept : (table : List Groups) (lines : List (List Event)) (e : Event) (loose : List Event) → AreKept table lines loose → IsPlaced table e → AreKept table (joined_by lines e) loose
line_kept table lines e loose k placed = record {
  count = length-set lines (line_of_event e) (line_at lines (line_of_event e) ++ e ∷ []) ∙ k.count;
  in_lines = joined_in_lines table lines e k.in_lines placed (has_line table lines e k.count placed);
  placed = k.placed;
}

-- loose events wait as they do in their lines
pub settled_waits : (table : List Groups) (lines : List (List Event)) (loose : List Event) (a p : ℕ) (t : Tag) → AreKept table lines loose → waiting_in (all_of (with_events lines loose)) a p t ≡ waiting_in (all_of lines ++ loose) a p t
settled_waits table lines [] a p t k = ap (λ xs. waiting_in xs a p t) (sym (append-nil (all_of lines)))
settled_waits table lines (e ∷ es) a p t k =
    settled_waits table (joined_by lines e) es a p t (joined_kept table lines e es k)
    ∙ waiting_append (all_of (joined_by lines e)) es a p t
    ∙ ap (λ o. or_else o (waiting_in es a p t)) (joined_waits table lines e a p t k.in_lines k.placed.0 (has_line table lines e k.count k.placed.0))
    ∙ or_else_assoc (waiting_in (all_of lines) a p t) (value_in e a p t) (waiting_in es a p t)
    ∙ sym (waiting_append (all_of lines) (e ∷ es) a p t)

pub all_wait : (table : List Groups) (lines : List (List Event)) (loose : List Event) → AreKept table lines loose → waiting_in (all_of (with_events lines loose)) ≡ waiting_in (all_of lines ++ loose)
all_wait table lines loose k = λ i a p t. settled_waits table lines loose a p t k i

pub settled_kept : (table : List Groups) (lines : List (List Event)) (loose : List Event) → AreKept table lines loose → AreKept table (with_events lines loose) []
settled_kept table lines [] k = k
settled_kept table lines (e ∷ es) k = settled_kept table (joined_by lines e) es (joined_kept table lines e es k)

pub settled_push : (lines : List (List Event)) (loose : List Event) (e : Event) → with_events lines (loose ++ e ∷ []) ≡ joined_by (with_events lines loose) e
settled_push lines [] e = refl
settled_push lines (x ∷ xs) e = settled_push (joined_by lines x) xs e

pub loose_pushed : (table : List Groups) (lines : List (List Event)) (loose : List Event) (e : Event) → AreKept table lines loose → IsPlaced table e → AreKept table lines (loose ++ e ∷ [])
loose_pushed table lines loose e k placed = record { count = k.count; in_lines = k.in_lines; placed = each_push (IsPlaced table) loose e k.placed placed }

-- what waits after one event more, where none did
pub waits_loose : (table : List Groups) (lines : List (List Event)) (loose : List Event) (e : Event) → AreKept table lines loose → IsPlaced table e → waiting_in (all_of (with_events lines (loose ++ e ∷ []))) ≡ added (waiting_in (all_of (with_events lines loose))) (value_in e)
waits_loose table lines loose e k placed = λ i a p t. (
    ap (λ ls. waiting_in (all_of ls) a p t) (settled_push lines loose e)
    ∙ joined_waits table (with_events lines loose) e a p t (settled_kept table lines loose k).in_lines placed (has_line table (with_events lines loose) e (settled_kept table lines loose k).count placed)
    ) i

other_order : (x v l : Option ℤ) → (v ≡ None) ⊎ (or_else x l ≡ None) → or_else (or_else x v) l ≡ or_else (or_else x l) v
other_order (Some x) v l h = refl
other_order None None None h = refl
other_order None None (Some l) h = refl
other_order None (Some v) None h = refl
other_order None (Some v) (Some l) h = ⊎_elim (λ (n : Some v ≡ None). absurd (cc)) (λ (n : Some l ≡ None). absurd (cc)) h

pub waits_joined : (table : List Groups) (lines : List (List Event)) (loose : List Event) (e : Event) → AreKept table lines loose → IsPlaced table e → waiting_in (all_of (with_events lines loose)) e.actor e.port e.tag ≡ None → waiting_in (all_of (with_events (joined_by lines e) loose)) ≡ added (waiting_in (all_of (with_events lines loose))) (value_in e)
waits_joined table lines loose e k placed absent = λ i a p t. (
    settled_waits table (joined_by lines e) loose a p t (line_kept table lines e loose k placed)
    ∙ waiting_append (all_of (joined_by lines e)) loose a p t
    ∙ ap (λ o. or_else o (waiting_in loose a p t)) (joined_waits table lines e a p t k.in_lines placed (has_line table lines e k.count placed))
    ∙ other_order (waiting_in (all_of lines) a p t) (value_in e a p t) (waiting_in loose a p t) (free a p t)
    ∙ ap (λ o. or_else o (value_in e a p t)) (sym (waiting_append (all_of lines) loose a p t) ∙ sym (settled_waits table lines loose a p t k))
    ) i
  where
    free : (a p : ℕ) (t : Tag) → (value_in e a p t ≡ None) ⊎ (or_else (waiting_in (all_of lines) a p t) (waiting_in loose a p t) ≡ None)
    free a p t = ⊎_elim
        (λ (here : (e.actor == a && e.port == p && same_tag e.tag t) ≡ true).
        let two = and_parts (e.actor == a && e.port == p) (same_tag e.tag t) here in
        let ports = and_parts (e.actor == a) (e.port == p) two.0 in
        let actor : e.actor ≡ a = eqb-true e.actor a ports.0 in
        let port : e.port ≡ p = eqb-true e.port p ports.1 in
        let tag : e.tag ≡ t = same_tag-true e.tag t two.1 in
        let none : waiting_in (all_of (with_events lines loose)) a p t ≡ None = subst (λ z. waiting_in (all_of (with_events lines loose)) a p z ≡ None) tag (subst (λ z. waiting_in (all_of (with_events lines loose)) a z e.tag ≡ None) port (subst (λ z. waiting_in (all_of (with_events lines loose)) z e.port e.tag ≡ None) actor absent)) in
        inr (sym (waiting_append (all_of lines) loose a p t) ∙ sym (settled_waits table lines loose a p t k) ∙ none))
        (λ (away : (e.actor == a && e.port == p && same_tag e.tag t) ≡ false). inl (ap (λ c. when c (Some e.value)) away))
        (cases_Bool (e.actor == a && e.port == p && same_tag e.tag t))

pub joined_length : (lines : List (List Event)) (e : Event) (es : List Event) → Each (λ (x : Event). line_of_event x < length lines) es → Each (λ (x : Event). line_of_event x < length (joined_by lines e)) es
joined_length lines e es h = subst (λ n. Each (λ (x : Event). line_of_event x < n) es) (sym (length-set lines (line_of_event e) (line_at lines (line_of_event e) ++ e ∷ []))) h
