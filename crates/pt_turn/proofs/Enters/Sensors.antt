-- Sensors in a row.
use Rattle.std.proofs.Common.{◌≡◌, ℕ, zero, suc, ◌==◌, ◌&&◌, ◌+◌, ◌<◌, ◌≤◌, Bool, true, false, nat_le, List, [], ◌∷◌, ◌++◌, Some, None, ℤ, length, drop, get_or, map, flat_map, unwrap_or, refl, sym, ap, ap₂, subst, ◌∙◌, ⊎_elim, eq-eqb, ne_eqb, eqb-true, arith, inl, inr, ◌⊎◌}
use Rattle.std.specs.List.{range_with_len}
use Rattle.std.proofs.lemmas.Bool.{cases_Bool, cond-true, cond-false, false≢true}
use Rattle.std.proofs.lemmas.Bool.Decides.{nat_tests}
use Rattle.pt_tags.specs.declared.tag.Tag.{Tag}
use Rattle.pt_tags.specs.Tags.{same_tag}
use Rattle.pt_types.specs.declared.graph.Graph.{Graph}
use Rattle.pt_types.specs.declared.rows.Row.{Row}
use Rattle.pt_types.specs.declared.rows.RowAt.{RowAt}
use Rattle.pt_types.specs.Ports.{when}
use Rattle.pt_semantics.specs.Entering.{due, not_due, all_due}
use Rattle.pt_semantics.specs.Floor.{NothingThere}
use Rattle.pt_semantics.specs.Lists.{Each, IsIn, or_else, first_of}
use Rattle.pt_semantics.specs.Meaning.{Values, added, at_time, row_at}
use Rattle.pt_semantics.specs.Rows.{TimesRise}
use Rattle.pt_semantics.specs.Units.{at_input}
use Rattle.pt_semantics.proofs.Lookups.{none_some, or_else_none, or_else_assoc, when_found, when_none, first_of_found, IsIn-append_left, IsIn-append_right}
use Rattle.pt_semantics.proofs.Tags.{same_tag-true}
use Rattle.pt_causality.specs.Units.{IsUnit}
use Rattle.pt_turn.specs.declared.state.fields.Sensor.{Sensor}
use Rattle.pt_turn.specs.Fields.State.{left_in, rows_left, rows_at_sensors}
use Rattle.pt_turn.specs.Fields.Sensors.{at_sensor, seen_at, IsSensor, RiseFrom}

-- the rows that are due of one sensor, and of several
abbrev pub due_of : ℕ → Sensor → List Row
due_of r s = due r (drop s.entered s.rows)

abbrev pub due_rows : ℕ → List Sensor → List RowAt
due_rows r [] = []
due_rows r (s ∷ ss) = map (at_sensor s.actor) (due_of r s) ++ due_rows r ss

-- what the rows that are due bring
abbrev pub brought : ℕ → List Sensor → Values
brought r sensors a p t = when (p == 0) (row_at (due r (left_in sensors a)) t)

left_here : (s : Sensor) (ss : List Sensor) (a : ℕ) → (s.actor == a) ≡ true → left_in (s ∷ ss) a ≡ drop s.entered s.rows
left_here s ss a e = ap (λ b. unwrap_or (or_else (when b (Some (drop s.entered s.rows))) (first_of (rows_left a) ss)) []) e

left_other : (s : Sensor) (ss : List Sensor) (a : ℕ) → (s.actor == a) ≡ false → left_in (s ∷ ss) a ≡ left_in ss a
left_other s ss a e = ap (λ b. unwrap_or (or_else (when b (Some (drop s.entered s.rows))) (first_of (rows_left a) ss)) []) e

left_none : (ss : List Sensor) (n a : ℕ) → RiseFrom n ss → a < n → left_in ss a ≡ []
left_none [] n a rise lt = refl
left_none (s ∷ ss) n a rise lt =
    let from : n ≤ s.actor = rise.0 in
    left_other s ss a (ne_eqb s.actor a (λ e. absurd (omega (arith, e, from, lt)))) ∙ left_none ss (s.actor + 1) a rise.1 (omega arith)

pub rise_less : (ss : List Sensor) (m n : ℕ) → RiseFrom m ss → n ≤ m → RiseFrom n ss
rise_less [] m n rise le = tt
rise_less (s ∷ ss) m n rise le = let from : m ≤ s.actor = rise.0 in (omega arith, rise.1)

brought_none : (r : ℕ) (ss : List Sensor) (n a p : ℕ) (t : Tag) → RiseFrom n ss → a < n → brought r ss a p t ≡ None
brought_none r ss n a p t rise lt = ap (λ rows. when (p == 0) (row_at (due r rows) t)) (left_none ss n a rise lt) ∙ when_none ℤ (p == 0)

flip_eq : (m n : ℕ) (b : Bool) → (m == n) ≡ b → (n == m) ≡ b
flip_eq m n true e = eq-eqb n m (sym (eqb-true m n e))
flip_eq m n false e = ne_eqb n m (λ k. false≢true (sym e ∙ eq-eqb m n (sym k)))

brought_cons : (r : ℕ) (s : Sensor) (ss : List Sensor) → RiseFrom (s.actor + 1) ss → (a p : ℕ) (t : Tag) → brought r (s ∷ ss) a p t ≡ or_else (seen_at s.actor (due_of r s) a p t) (brought r ss a p t)
brought_cons r s ss rise a p t =
    ⊎_elim
    (λ (e : (s.actor == a) ≡ true).
    let same : s.actor ≡ a = eqb-true s.actor a e in
    ap (λ rows. when (p == 0) (row_at (due r rows) t)) (left_here s ss a e)
    ∙ sym (ap (λ b. when (b && p == 0) (row_at (due_of r s) t)) (flip_eq s.actor a true e))
    ∙ sym (or_else_none (seen_at s.actor (due_of r s) a p t))
    ∙ ap (or_else (seen_at s.actor (due_of r s) a p t)) (sym (brought_none r ss (s.actor + 1) a p t rise (omega (arith, same)))))
    (λ (e : (s.actor == a) ≡ false).
    ap (λ rows. when (p == 0) (row_at (due r rows) t)) (left_other s ss a e)
    ∙ ap (λ z. or_else z (brought r ss a p t)) (sym (ap (λ b. when (b && p == 0) (row_at (due_of r s) t)) (flip_eq s.actor a false e))))
    (cases_Bool (s.actor == a))

pub brought_more : (r : ℕ) (w : Values) (s : Sensor) (ss : List Sensor) → RiseFrom (s.actor + 1) ss → added (added w (seen_at s.actor (due_of r s))) (brought r ss) ≡ added w (brought r (s ∷ ss))
brought_more r w s ss rise = λ i a p t. (or_else_assoc (w a p t) (seen_at s.actor (due_of r s) a p t) (brought r ss a p t) ∙ ap (or_else (w a p t)) (sym (brought_cons r s ss rise a p t))) i

pub never_sensor : (r : ℕ) (w : Values) (s : Sensor) (ss : List Sensor) → RiseFrom (s.actor + 1) ss → NothingThere w (brought r (s ∷ ss)) → NothingThere w (seen_at s.actor (due_of r s))
never_sensor r w s ss rise absent a p t v h = absent a p t v (brought_cons r s ss rise a p t ∙ ap (λ z. or_else z (brought r ss a p t)) h)

pub never_rest : (r : ℕ) (w : Values) (s : Sensor) (ss : List Sensor) → RiseFrom (s.actor + 1) ss → NothingThere w (brought r (s ∷ ss)) → NothingThere (added w (seen_at s.actor (due_of r s))) (brought r ss)
never_rest r w s ss rise absent a p t v h =
    ⊎_elim
    (λ (e : (a == s.actor) ≡ true). let same : a ≡ s.actor = eqb-true a s.actor e in absurd (none_some v (sym (brought_none r ss (s.actor + 1) a p t rise (omega (arith, same))) ∙ h)))
    (λ (e : (a == s.actor) ≡ false).
    let off : seen_at s.actor (due_of r s) a p t ≡ None = ap (λ b. when (b && p == 0) (row_at (due_of r s) t)) e in
    ap₂ or_else (absent a p t v (brought_cons r s ss rise a p t ∙ ap₂ or_else off h)) off)
    (cases_Bool (a == s.actor))

pub brought_nil : (r : ℕ) (w : Values) → added w (brought r []) ≡ w
brought_nil r w = λ i a p t. (ap (or_else (w a p t)) (when_none ℤ (p == 0)) ∙ or_else_none (w a p t)) i

lt_of : (m k : ℕ) → (m == k) ≡ false → m ≤ k → m < k
lt_of m k e le = grind (arith, nat_tests)

le_cases : (m k : ℕ) → m ≤ k → (m ≡ k) ⊎ (m < k)
le_cases m k le = ⊎_elim (λ (e : (m == k) ≡ true). inl (eqb-true m k e)) (λ (e : (m == k) ≡ false). inr (lt_of m k e le)) (cases_Bool (m == k))

-- sensor after sensor, or actor after actor
all_from : (r : ℕ) (left : ℕ → List Row) (ss : List Sensor) (a n : ℕ) → RiseFrom a ss → Each (λ (s : Sensor). s.actor < a + n) ss → ((x : ℕ) → a ≤ x → left x ≡ left_in ss x) → flat_map (λ x. map (at_sensor x) (due r (left x))) (range_with_len a n) ≡ due_rows r ss
all_from r left [] a zero rise below same = refl
all_from r left (s ∷ ss) a zero rise below same = let from : a ≤ s.actor = rise.0 in let to : s.actor < a + 0 = below.0 in absurd (omega (arith, from, to))
all_from r left [] a (suc n) rise below same =
    ap (λ rows. map (at_sensor a) (due r rows) ++ flat_map (λ x. map (at_sensor x) (due r (left x))) (range_with_len (a + 1) n)) (same a (omega arith))
    ∙ all_from r left [] (a + 1) n tt tt (λ x le. same x (omega arith))
all_from r left (s ∷ ss) a (suc n) rise below same =
    ⊎_elim
    (λ (e : (s.actor == a) ≡ true).
    let is : s.actor ≡ a = eqb-true s.actor a e in
    ap (λ rows. map (at_sensor a) (due r rows) ++ flat_map (λ x. map (at_sensor x) (due r (left x))) (range_with_len (a + 1) n)) (same a (omega arith) ∙ left_here s ss a e)
    ∙ ap (λ x. map (at_sensor x) (due_of r s) ++ flat_map (λ x. map (at_sensor x) (due r (left x))) (range_with_len (a + 1) n)) (sym is)
    ∙ ap (λ z. map (at_sensor s.actor) (due_of r s) ++ z)
    (all_from r left ss (a + 1) n (subst (λ m. RiseFrom (m + 1) ss) is rise.1) (more ss below.1)
    (λ x le. same x (omega arith) ∙ left_other s ss x (ne_eqb s.actor x (λ k. absurd (omega (arith, k, is, le)))))))
    (λ (e : (s.actor == a) ≡ false).
    let from : a ≤ s.actor = rise.0 in
    let past : a + 1 ≤ s.actor = ⊎_elim (λ (k : a ≡ s.actor). absurd (false≢true (sym e ∙ eq-eqb s.actor a (sym k)))) (λ (k : a < s.actor). omega arith) (le_cases a s.actor from) in
    ap (λ rows. map (at_sensor a) (due r rows) ++ flat_map (λ x. map (at_sensor x) (due r (left x))) (range_with_len (a + 1) n)) (same a (omega arith) ∙ left_none (s ∷ ss) (a + 1) a (past, rise.1) (omega arith))
    ∙ all_from r left (s ∷ ss) (a + 1) n (past, rise.1) (more (s ∷ ss) below) (λ x le. same x (omega arith)))
    (cases_Bool (s.actor == a))
  where
    more : (xs : List Sensor) → Each (λ (s : Sensor). s.actor < a + suc n) xs → Each (λ (s : Sensor). s.actor < (a + 1) + n) xs
    more [] h = tt
    more (x ∷ xs) h = let lt : x.actor < a + suc n = h.0 in (omega (arith, lt), more xs h.1)

pub all_due_is : (g : Graph) (r : ℕ) (ss : List Sensor) → RiseFrom 0 ss → Each (IsSensor g) ss → all_due g r (left_in ss) ≡ due_rows r ss
all_due_is g r ss rise each = all_from r (left_in ss) ss 0 (length g.actors) rise (below ss each) (λ x le. refl)
  where
    below : (xs : List Sensor) → Each (IsSensor g) xs → Each (λ (s : Sensor). s.actor < 0 + length g.actors) xs
    below [] h = tt
    below (x ∷ xs) h = let lt : x.actor < length g.actors = h.0.unit.0 in (omega (arith, lt), below xs h.1)

-- one sensor, before and after its rows entered
pub record Entered (r : ℕ) (old new : Sensor) : Type 0 where
  pub actor : new.actor ≡ old.actor
  pub rows : new.rows ≡ old.rows
  pub within : new.entered ≤ length new.rows
  pub left : drop new.entered new.rows ≡ not_due r (drop old.entered old.rows)

abbrev pub no_sensor : Sensor
no_sensor = record { actor = 0; rows = []; entered = 0 }

abbrev pub AllEntered : ℕ → List Sensor → List Sensor → Type 0
AllEntered r old new = (k : ℕ) → k < length old → Entered r (get_or old k no_sensor) (get_or new k no_sensor)

times_left : (r : ℕ) (rows : List Row) → TimesRise rows → TimesRise (not_due r rows)
times_left r [] h = tt
times_left r (x ∷ xs) h =
    ⊎_elim
    (λ (e : nat_le x.seen r ≡ true). subst TimesRise (sym (cond-true (nat_le x.seen r) (not_due r xs) (x ∷ xs) e)) (times_left r xs h.1))
    (λ (e : nat_le x.seen r ≡ false). subst TimesRise (sym (cond-false (nat_le x.seen r) (not_due r xs) (x ∷ xs) e)) h)
    (cases_Bool (nat_le x.seen r))

pub left_after : (r : ℕ) (xs ys : List Sensor) → length ys ≡ length xs → AllEntered r xs ys → (a : ℕ) → left_in ys a ≡ not_due r (left_in xs a)
left_after r [] [] len h a = refl
left_after r [] (y ∷ ys) len h a = absurd (omega (arith, len))
left_after r (x ∷ xs) [] len h a = absurd (omega (arith, len))
left_after r (x ∷ xs) (y ∷ ys) len h a =
    let one : Entered r x y = h 0 (omega arith) in
    ⊎_elim
    (λ (e : (x.actor == a) ≡ true). left_here y ys a (ap (λ n. n == a) one.actor ∙ e) ∙ one.left ∙ ap (not_due r) (sym (left_here x xs a e)))
    (λ (e : (x.actor == a) ≡ false). left_other y ys a (ap (λ n. n == a) one.actor ∙ e) ∙ left_after r xs ys (omega (arith, len)) (λ k lt. h (suc k) (omega (arith, lt))) a ∙ ap (not_due r) (sym (left_other x xs a e)))
    (cases_Bool (x.actor == a))

-- all rows of each sensor stay
rows_here : (s : Sensor) (ss : List Sensor) (a : ℕ) → (s.actor == a) ≡ true → rows_at_sensors (s ∷ ss) a ≡ s.rows
rows_here s ss a e = ap (λ b. unwrap_or (or_else (when b (Some s.rows)) (first_of (λ (z : Sensor). when (z.actor == a) (Some z.rows)) ss)) []) e

rows_other : (s : Sensor) (ss : List Sensor) (a : ℕ) → (s.actor == a) ≡ false → rows_at_sensors (s ∷ ss) a ≡ rows_at_sensors ss a
rows_other s ss a e = ap (λ b. unwrap_or (or_else (when b (Some s.rows)) (first_of (λ (z : Sensor). when (z.actor == a) (Some z.rows)) ss)) []) e

pub rows_after : (r : ℕ) (xs ys : List Sensor) → length ys ≡ length xs → AllEntered r xs ys → (a : ℕ) → rows_at_sensors ys a ≡ rows_at_sensors xs a
rows_after r [] [] len h a = refl
rows_after r [] (y ∷ ys) len h a = absurd (omega (arith, len))
rows_after r (x ∷ xs) [] len h a = absurd (omega (arith, len))
rows_after r (x ∷ xs) (y ∷ ys) len h a =
    let one : Entered r x y = h 0 (omega arith) in
    ⊎_elim
    (λ (e : (x.actor == a) ≡ true). rows_here y ys a (ap (λ n. n == a) one.actor ∙ e) ∙ one.rows ∙ sym (rows_here x xs a e))
    (λ (e : (x.actor == a) ≡ false). rows_other y ys a (ap (λ n. n == a) one.actor ∙ e) ∙ rows_after r xs ys (omega (arith, len)) (λ k lt. h (suc k) (omega (arith, lt))) a ∙ sym (rows_other x xs a e))
    (cases_Bool (x.actor == a))

pub rise_after : (r n : ℕ) (xs ys : List Sensor) → length ys ≡ length xs → AllEntered r xs ys → RiseFrom n xs → RiseFrom n ys
rise_after r n [] [] len h rise = tt
rise_after r n [] (y ∷ ys) len h rise = absurd (omega (arith, len))
rise_after r n (x ∷ xs) [] len h rise = absurd (omega (arith, len))
rise_after r n (x ∷ xs) (y ∷ ys) len h rise =
    let one : Entered r x y = h 0 (omega arith) in
    (subst (λ m. n ≤ m) (sym one.actor) rise.0, subst (λ m. RiseFrom (m + 1) ys) (sym one.actor) (rise_after r (x.actor + 1) xs ys (omega (arith, len)) (λ k lt. h (suc k) (omega (arith, lt))) rise.1))

pub each_after : (g : Graph) (r : ℕ) (xs ys : List Sensor) → length ys ≡ length xs → AllEntered r xs ys → Each (IsSensor g) xs → Each (IsSensor g) ys
each_after g r [] [] len h each = tt
each_after g r [] (y ∷ ys) len h each = absurd (omega (arith, len))
each_after g r (x ∷ xs) [] len h each = absurd (omega (arith, len))
each_after g r (x ∷ xs) (y ∷ ys) len h each =
    let one : Entered r x y = h 0 (omega arith) in (
      record {
        unit = subst (λ a. IsUnit g (at_input g a 0)) (sym one.actor) each.0.unit;
        entered = one.within;
        times = subst TimesRise (sym one.left) (times_left r (drop x.entered x.rows) each.0.times);
      },
      each_after g r xs ys (omega (arith, len)) (λ k lt. h (suc k) (omega (arith, lt))) each.1,
    )

in_map : {X Y : Type 0} (f : X → Y) (xs : List X) (x : X) → IsIn x xs → IsIn (f x) (map f xs)
in_map f [] x mem = absurd mem
in_map f (y ∷ ys) x mem = ⊎_elim (λ (is : x ≡ y). inl (ap f is)) (λ (rest : IsIn x ys). inr (in_map f ys x rest)) mem

-- what they bring is a row that is due
pub brought_row : (r : ℕ) (ss : List Sensor) (a p : ℕ) (t : Tag) (v : ℤ) → brought r ss a p t ≡ Some v → (x : RowAt) × IsIn x (due_rows r ss) × (x.sensor ≡ a) × (p ≡ 0) × (at_time x.row.time ≡ t)
brought_row r ss a p t v h =
    let f = when_found (p == 0) (row_at (due r (left_in ss a)) t) v h in
    let found = row ss f.1 in
    (found.0, found.1, found.2, eqb-true p 0 f.0, found.3)
  where
    row : (xs : List Sensor) → row_at (due r (left_in xs a)) t ≡ Some v → (x : RowAt) × IsIn x (due_rows r xs) × (x.sensor ≡ a) × (at_time x.row.time ≡ t)
    row [] k = absurd (none_some v k)
    row (x ∷ xs) k =
        ⊎_elim
        (λ (e : (x.actor == a) ≡ true).
        let at = first_of_found (λ (y : Row). when (same_tag (at_time y.time) t) (Some y.value)) (due_of r x) v (ap (λ rows. row_at (due r rows) t) (sym (left_here x xs a e)) ∙ k) in
        let tag = when_found (same_tag (at_time at.0.time) t) (Some at.0.value) v at.2 in
        (at_sensor x.actor at.0, IsIn-append_left (at_sensor x.actor at.0) (map (at_sensor x.actor) (due_of r x)) (due_rows r xs) (in_map (at_sensor x.actor) (due_of r x) at.0 at.1), eqb-true x.actor a e, same_tag-true (at_time at.0.time) t tag.0))
        (λ (e : (x.actor == a) ≡ false).
        let rest = row xs (ap (λ rows. row_at (due r rows) t) (sym (left_other x xs a e)) ∙ k) in
        (rest.0, IsIn-append_right rest.0 (map (at_sensor x.actor) (due_of r x)) (due_rows r xs) rest.1, rest.2, rest.3))
        (cases_Bool (x.actor == a))

-- what they bring comes to units of the graph
pub brought_unit : (g : Graph) (r : ℕ) (ss : List Sensor) → RiseFrom 0 ss → Each (IsSensor g) ss → (a p : ℕ) (t : Tag) (v : ℤ) → brought r ss a p t ≡ Some v → IsUnit g (at_input g a p)
brought_unit g r ss rise each a p t v h =
    let f = when_found (p == 0) (row_at (due r (left_in ss a)) t) v h in
    subst (λ q. IsUnit g (at_input g a q)) (sym (eqb-true p 0 f.0)) (unit ss each f.1)
  where
    unit : (xs : List Sensor) → Each (IsSensor g) xs → row_at (due r (left_in xs a)) t ≡ Some v → IsUnit g (at_input g a 0)
    unit [] each k = absurd (none_some v k)
    unit (x ∷ xs) each k =
        ⊎_elim
        (λ (e : (x.actor == a) ≡ true). subst (λ b. IsUnit g (at_input g b 0)) (eqb-true x.actor a e) each.0.unit)
        (λ (e : (x.actor == a) ≡ false). unit xs each.1 (ap (λ rows. row_at (due r rows) t) (sym (left_other x xs a e)) ∙ k))
        (cases_Bool (x.actor == a))
