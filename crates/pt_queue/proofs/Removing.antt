-- Lines after the events of a unit at a tag were removed.
use Rattle.std.proofs.Common.{◌≡◌, ◌≢◌, ℕ, zero, suc, ◌+◌, ◌*◌, ◌-◌, ◌<◌, ◌≤◌, ◌==◌, ◌&&◌, ◌⊎◌, not, cond, Bool, true, false, List, [], ◌∷◌, ◌++◌, length, map, filter, take, slice_set, refl, sym, ap, ap₂, subst, ◌∙◌, inl, inr, ⊎_elim, arith}
use Rattle.std.proofs.lemmas.List.{get_or-set_same, get_or-set_other, get_or_past, length-set, map-set, set-get_or, length-map}
use Rattle.pt_tags.specs.declared.tag.Tag.{Tag}
use Rattle.pt_tags.specs.Tags.{same_tag}
use Rattle.pt_types.specs.declared.firing.Event.{Event}
use Rattle.pt_types.specs.declared.graph.Unit.{Unit}
use Rattle.pt_semantics.specs.Lists.{Each}
use Rattle.pt_queue.specs.declared.groups.Groups.{Groups}
use Rattle.pt_queue.specs.Groups.{group_in}
use Rattle.pt_queue.specs.Events.{IsPlaced}
use Rattle.pt_queue.specs.Lines.{AreInLines, AreKept, IsInLine, all_of, line_at}
use Rattle.pt_queue.specs.Scans.{is_at, is_of}
use Rattle.pt_queue.proofs.Rising.{each_filter}
use Rattle.pt_queue.proofs.Soonest.{of_line, other_unit}

filter_alike : (f g : Event → Bool) (xs : List Event) → Each (λ (e : Event). f e ≡ g e) xs → filter f xs ≡ filter g xs
filter_alike f g [] h = refl
filter_alike f g (x ∷ xs) h = ap₂ (λ b ys. cond b (x ∷ ys) ys) h.0 (filter_alike f g xs h.1)

filter_all : (f : Event → Bool) (xs : List Event) → Each (λ (e : Event). f e ≡ true) xs → filter f xs ≡ xs
filter_all f [] h = refl
filter_all f (x ∷ xs) h = ap₂ (λ b ys. cond b (x ∷ ys) ys) h.0 (filter_all f xs h.1)

one_passes : (f : Event → Bool) (x : Event) (ys : List Event) (b : Bool) → f x ≡ b → Each (λ (e : Event). f e ≡ true) ys → Each (λ (e : Event). f e ≡ true) (cond b (x ∷ ys) ys)
one_passes f x ys true h k = (h, k)
one_passes f x ys false h k = k

filter_passes : (f : Event → Bool) (xs : List Event) → Each (λ (e : Event). f e ≡ true) (filter f xs)
filter_passes f [] = tt
filter_passes f (x ∷ xs) = one_passes f x (filter f xs) (f x) refl (filter_passes f xs)

each_map : (P Q : Event → Type 0) (xs : List Event) → ((e : Event) → P e → Q e) → Each P xs → Each Q xs
each_map P Q [] f h = tt
each_map P Q (x ∷ xs) f h = (f x h.0, each_map P Q xs f h.1)

-- in a line of the unit the tag decides
pub unit_line : (table : List Groups) (u : Unit) (p : ℕ) (t : Tag) (line : List Event) → p < 8 → Each (IsInLine table (8 * u.actor + p)) line → (group_in table u.actor p == u.group) ≡ true → filter (λ (e : Event). not (same_tag t e.tag)) line ≡ filter (λ (e : Event). not (is_at table u t e)) line
unit_line table u p t line l h eq = filter_alike (λ (e : Event). not (same_tag t e.tag)) (λ (e : Event). not (is_at table u t e)) line
    (each_map (IsInLine table (8 * u.actor + p)) (λ (e : Event). not (same_tag t e.tag) ≡ not (is_at table u t e)) line (λ e k. ap (λ b. not (b && same_tag t e.tag)) (sym (of_line table u p e l k ∙ eq))) h)

stays : (table : List Groups) (u : Unit) (t : Tag) (e : Event) → is_of table u e ≡ false → not (is_at table u t e) ≡ true
stays table u t e h = ap (λ b. not (b && same_tag t e.tag)) h

-- no event is removed where none waits for the unit
pub none_at : (table : List Groups) (u : Unit) (t : Tag) (xs : List Event) → Each (λ (e : Event). is_of table u e ≡ false) xs → filter (λ (e : Event). not (is_at table u t e)) xs ≡ xs
none_at table u t xs h = filter_all (λ (e : Event). not (is_at table u t e)) xs
    (each_map (λ (e : Event). is_of table u e ≡ false) (λ (e : Event). not (is_at table u t e) ≡ true) xs (λ e k. stays table u t e k) h)

-- a line of another unit stays
pub other_line : (table : List Groups) (u : Unit) (p : ℕ) (t : Tag) (line : List Event) → p < 8 → Each (IsInLine table (8 * u.actor + p)) line → (group_in table u.actor p == u.group) ≡ false → filter (λ (e : Event). not (is_at table u t e)) line ≡ line
other_line table u p t line l h ne = filter_all (λ (e : Event). not (is_at table u t e)) line
    (each_map (IsInLine table (8 * u.actor + p)) (λ (e : Event). not (is_at table u t e) ≡ true) line (λ e k. stays table u t e (of_line table u p e l k ∙ ne)) h)

other_actor : (table : List Groups) (u : Unit) (n : ℕ) (t : Tag) (line : List Event) → Each (IsInLine table n) line → (n < 8 * u.actor) ⊎ (8 * u.actor + 8 ≤ n) → filter (λ (e : Event). not (is_at table u t e)) line ≡ line
other_actor table u n t line h away = filter_all (λ (e : Event). not (is_at table u t e)) line
    (each_map (IsInLine table n) (λ (e : Event). not (is_at table u t e) ≡ true) line (λ e k. stays table u t e (other_unit table u n e k away)) h)

pub unchanged : (lines : List (List Event)) (n : ℕ) (line : List Event) → line ≡ line_at lines n → lines ≡ slice_set lines n line
unchanged lines n line e = sym (ap (slice_set lines n) e ∙ set-get_or lines n [])

cases_place : (n i : ℕ) → (n ≡ i) ⊎ (n ≢ i)
cases_place n i = grind arith

either : (n m : ℕ) → (n < m) ⊎ (m ≤ n)
either n m = grind arith

-- a line after it was filtered
pub filtered_at : (f : Event → Bool) (lines : List (List Event)) (i : ℕ) → line_at (slice_set lines i (filter f (line_at lines i))) i ≡ filter f (line_at lines i)
filtered_at f lines i = ⊎_elim
    (λ (l : i < length lines). get_or-set_same lines i (filter f (line_at lines i)) [] l)
    (λ (m : length lines ≤ i). get_or_past (slice_set lines i (filter f (line_at lines i))) i [] (omega (arith, m, length-set lines i (filter f (line_at lines i)))) ∙ sym (ap (filter f) (get_or_past lines i [] m)))
    (either i (length lines))

pub filtered_in_lines : (table : List Groups) (f : Event → Bool) (lines : List (List Event)) (i : ℕ) → AreInLines table lines → AreInLines table (slice_set lines i (filter f (line_at lines i)))
filtered_in_lines table f lines i h n = ⊎_elim
    (λ (e : n ≡ i). subst (λ m. Each (IsInLine table m) (line_at (slice_set lines i (filter f (line_at lines i))) m)) (sym e) (subst (Each (IsInLine table i)) (sym (filtered_at f lines i)) (each_filter (IsInLine table i) f (line_at lines i) (h i))))
    (λ (ne : n ≢ i). subst (Each (IsInLine table n)) (sym (get_or-set_other lines i n (filter f (line_at lines i)) [] ne)) (h n))
    (cases_place n i)

filter_twice : (f : Event → Bool) (xs : List Event) → filter f (filter f xs) ≡ filter f xs
filter_twice f xs = filter_all f (filter f xs) (filter_passes f xs)

map_at : (f : Event → Bool) (lines : List (List Event)) (n : ℕ) → line_at (map (filter f) lines) n ≡ filter f (line_at lines n)
map_at f [] n = refl
map_at f (line ∷ lines) zero = refl
map_at f (line ∷ lines) (suc n) = map_at f lines n

pub map_same : (f : Event → Bool) (lines : List (List Event)) (i : ℕ) → map (filter f) (slice_set lines i (filter f (line_at lines i))) ≡ map (filter f) lines
map_same f lines i =
    map-set (filter f) lines i (filter f (line_at lines i))
    ∙ ap (slice_set (map (filter f) lines) i) (filter_twice f (line_at lines i) ∙ sym (map_at f lines i))
    ∙ set-get_or (map (filter f) lines) i []

-- the other lines
pub filtered_later : (f : Event → Bool) (lines : List (List Event)) (i n : ℕ) → i < n → line_at (slice_set lines i (filter f (line_at lines i))) n ≡ line_at lines n
filtered_later f lines i n l = get_or-set_other lines i n (filter f (line_at lines i)) [] (λ e. omega (arith, e, l))

set_take : (lines : List (List Event)) (i : ℕ) (line : List Event) → take i (slice_set lines i line) ≡ take i lines
set_take [] i line = refl
set_take (x ∷ lines) zero line = refl
set_take (x ∷ lines) (suc i) line = ap (λ ls. x ∷ ls) (set_take lines i line)

pub filtered_take : (f : Event → Bool) (lines : List (List Event)) (i : ℕ) → take i (slice_set lines i (filter f (line_at lines i))) ≡ take i lines
filtered_take f lines i = set_take lines i (filter f (line_at lines i))

-- one port more is done
pub done_more : (f : Event → Bool) (lines : List (List Event)) (first p : ℕ) → ((k : ℕ) → k < p → filter f (line_at lines (first + k)) ≡ line_at lines (first + k)) → (k : ℕ) → k < p + 1 → filter f (line_at (slice_set lines (first + p) (filter f (line_at lines (first + p)))) (first + k)) ≡ line_at (slice_set lines (first + p) (filter f (line_at lines (first + p)))) (first + k)
done_more f lines first p h k l = ⊎_elim
    (λ (e : k ≡ p). subst (λ m. filter f (line_at (slice_set lines (first + p) (filter f (line_at lines (first + p)))) (first + m)) ≡ line_at (slice_set lines (first + p) (filter f (line_at lines (first + p)))) (first + m)) (sym e)
    (ap (filter f) (filtered_at f lines (first + p)) ∙ filter_twice f (line_at lines (first + p)) ∙ sym (filtered_at f lines (first + p))))
    (λ (ne : k ≢ p).
    let away : first + k ≢ first + p = λ z. ne (omega (arith, z)) in
    let at = get_or-set_other lines (first + p) (first + k) (filter f (line_at lines (first + p))) [] away in
    ap (filter f) at ∙ h k (less k p l ne) ∙ sym at)
    (cases_place k p)
  where
    less : (k p : ℕ) → k < p + 1 → k ≢ p → k < p
    less k p l ne = grind arith

map_fixed : (f : Event → Bool) (lines : List (List Event)) → ((n : ℕ) → filter f (line_at lines n) ≡ line_at lines n) → map (filter f) lines ≡ lines
map_fixed f [] h = refl
map_fixed f (line ∷ lines) h = ap₂ (λ x xs. x ∷ xs) (h 0) (map_fixed f lines (λ n. h (suc n)))

-- all ports are done
pub all_done : (table : List Groups) (u : Unit) (t : Tag) (lines : List (List Event)) → AreInLines table lines → ((k : ℕ) → k < 8 → filter (λ (e : Event). not (is_at table u t e)) (line_at lines (8 * u.actor + k)) ≡ line_at lines (8 * u.actor + k)) → map (filter (λ (e : Event). not (is_at table u t e))) lines ≡ lines
all_done table u t lines h done = map_fixed (λ (e : Event). not (is_at table u t e)) lines (λ n. ⊎_elim
    (λ (l : n < 8 * u.actor). other_actor table u n t (line_at lines n) (h n) (inl l))
    (λ (m : 8 * u.actor ≤ n). ⊎_elim
    (λ (k : n < 8 * u.actor + 8).
    let at : 8 * u.actor + (n - 8 * u.actor) ≡ n = omega (arith, m) in
    subst (λ z. filter (λ (e : Event). not (is_at table u t e)) (line_at lines z) ≡ line_at lines z) at (done (n - 8 * u.actor) (omega (arith, k, m))))
    (λ (past : 8 * u.actor + 8 ≤ n). other_actor table u n t (line_at lines n) (h n) (inr past))
    (either n (8 * u.actor + 8)))
    (either n (8 * u.actor)))

-- and all lines together

one_append : (x : Event) (xs ys : List Event) (b : Bool) → cond b (x ∷ (xs ++ ys)) (xs ++ ys) ≡ cond b (x ∷ xs) xs ++ ys
one_append x xs ys true = refl
one_append x xs ys false = refl

filter_append : (f : Event → Bool) (xs ys : List Event) → filter f (xs ++ ys) ≡ filter f xs ++ filter f ys
filter_append f [] ys = refl
filter_append f (x ∷ xs) ys = ap (λ zs. cond (f x) (x ∷ zs) zs) (filter_append f xs ys) ∙ one_append x (filter f xs) (filter f ys) (f x)

all_filtered : (f : Event → Bool) (lines : List (List Event)) → all_of (map (filter f) lines) ≡ filter f (all_of lines)
all_filtered f [] = refl
all_filtered f (line ∷ lines) = ap (λ es. filter f line ++ es) (all_filtered f lines) ∙ sym (filter_append f line (all_of lines))

pub parts_filtered : (f : Event → Bool) (lines : List (List Event)) (loose : List Event) → all_of (map (filter f) lines) ++ filter f loose ≡ filter f (all_of lines ++ loose)
parts_filtered f lines loose = ap (λ es. es ++ filter f loose) (all_filtered f lines) ∙ sym (filter_append f (all_of lines) loose)

pub filtered_kept : (table : List Groups) (f : Event → Bool) (lines : List (List Event)) (loose : List Event) → AreKept table lines loose → AreKept table (map (filter f) lines) (filter f loose)
filtered_kept table f lines loose k = record {
  count = length-map lines (filter f) ∙ k.count;
  in_lines = λ n. subst (Each (IsInLine table n)) (sym (map_at f lines n)) (each_filter (IsInLine table n) f (line_at lines n) (k.in_lines n));
  placed = each_filter (IsPlaced table) f loose k.placed;
}
