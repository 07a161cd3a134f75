-- The rows of a platform's sensors with one more row.
use Rattle.std.proofs.Common.{◌≡◌, ℕ, zero, suc, ◌+◌, ◌<◌, ◌≤◌, ◌==◌, true, false, List, [], ◌∷◌, ◌++◌, Some, drop, get_or, length, length-append, set, unwrap_or, arith, refl, sym, ap, ◌∙◌, ⊎_elim, append-nil, eq-eqb, eqb-true, ne_eqb}
use Rattle.std.proofs.lemmas.Bool.{cases_Bool, cond-true, cond-false, false≢true}
use Rattle.std.proofs.lemmas.List.{drop-append-le}
use Rattle.pt_types.specs.declared.graph.Graph.{Graph}
use Rattle.pt_types.specs.declared.rows.Row.{Row}
use Rattle.pt_types.specs.Ports.{when}
use Rattle.pt_semantics.specs.Lists.{Each, first_of, or_else}
use Rattle.pt_semantics.specs.Rows.{TimesRise}
use Rattle.pt_turn.specs.declared.state.fields.Sensor.{Sensor}
use Rattle.pt_turn.specs.Fields.State.{left_in, rows_at_sensors}
use Rattle.pt_turn.specs.Fields.Sensors.{AreSensors, IsSensor, RiseFrom}
use Rattle.pt_live_laws.specs.Growth.Growing.{followed, just}
use Rattle.pt_turn.specs.Arrives.Arrived.{with_row}

-- of the sensor of actor a, the rows that `pick` picks
abbrev found : (Sensor → List Row) → List Sensor → ℕ → List Row
found pick sensors a = unwrap_or (first_of (λ (s : Sensor). when (s.actor == a) (Some (pick s))) sensors) []

here : (pick : Sensor → List Row) (s : Sensor) (ss : List Sensor) (a : ℕ) → (s.actor == a) ≡ true → found pick (s ∷ ss) a ≡ pick s
here pick s ss a e = ap (λ b. unwrap_or (or_else (when b (Some (pick s))) (first_of (λ (z : Sensor). when (z.actor == a) (Some (pick z))) ss)) []) e

other : (pick : Sensor → List Row) (s : Sensor) (ss : List Sensor) (a : ℕ) → (s.actor == a) ≡ false → found pick (s ∷ ss) a ≡ found pick ss a
other pick s ss a e = ap (λ b. unwrap_or (or_else (when b (Some (pick s))) (first_of (λ (z : Sensor). when (z.actor == a) (Some (pick z))) ss)) []) e

-- the row itself, at its sensor, and none elsewhere
just_here : (a b : ℕ) (row : Row) → b ≡ a → just a row b ≡ row ∷ []
just_here a b row e = cond-true (b == a) (row ∷ []) [] (eq-eqb b a e)

just_other : (a b : ℕ) (row : Row) → (b ≡ a → ⊥) → just a row b ≡ []
just_other a b row e = cond-false (b == a) (row ∷ []) [] (ne_eqb b a e)

-- a later sensor has a greater number
number_from : (ss : List Sensor) (n k : ℕ) (d : Sensor) → RiseFrom n ss → k < length ss → n ≤ (get_or ss k d).actor
number_from [] n k d rise lt = absurd (omega (arith, lt))
number_from (x ∷ xs) n zero d rise lt = rise.0
number_from (x ∷ xs) n (suc k) d rise lt =
    let from : n ≤ x.actor = rise.0 in
    let rest : x.actor + 1 ≤ (get_or xs k d).actor = number_from xs (x.actor + 1) k d rise.1 (omega (arith, lt)) in
    omega (arith, from, rest)

module _ (pick : Sensor → List Row) (row : Row) (d : Sensor) where
  grown_at : (ss : List Sensor) (n k a : ℕ) → RiseFrom n ss → k < length ss → pick (with_row row (get_or ss k d)) ≡ pick (get_or ss k d) ++ row ∷ [] →
      found pick (set ss k (with_row row (get_or ss k d))) a ≡ found pick ss a ++ just (get_or ss k d).actor row a
  grown_at [] n k a rise lt one = absurd (omega (arith, lt))
  grown_at (x ∷ xs) n zero a rise lt one = ⊎_elim
      (λ (t : (x.actor == a) ≡ true).
      here pick (with_row row x) xs a t
      ∙ one
      ∙ ap (λ z. pick x ++ z) (sym (just_here x.actor a row (sym (eqb-true x.actor a t))))
      ∙ ap (λ z. z ++ just x.actor row a) (sym (here pick x xs a t)))
      (λ (f : (x.actor == a) ≡ false).
      other pick (with_row row x) xs a f
      ∙ sym (append-nil (found pick xs a))
      ∙ ap (λ z. found pick xs a ++ z) (sym (just_other x.actor a row (λ e. not_same x.actor a f (sym e))))
      ∙ ap (λ z. z ++ just x.actor row a) (sym (other pick x xs a f)))
      (cases_Bool (x.actor == a))
    where
      not_same : (m n : ℕ) → (m == n) ≡ false → m ≡ n → ⊥
      not_same m n f e = false≢true (sym f ∙ eq-eqb m n e)
  grown_at (x ∷ xs) n (suc k) a rise lt one =
      let within : k < length xs = omega (arith, lt) in
      let later : x.actor + 1 ≤ (get_or xs k d).actor = number_from xs (x.actor + 1) k d rise.1 within in
      ⊎_elim
      (λ (t : (x.actor == a) ≡ true).
      here pick x (set xs k (with_row row (get_or xs k d))) a t
      ∙ sym (append-nil (pick x))
      ∙ ap (λ z. pick x ++ z) (sym (just_other (get_or xs k d).actor a row (λ e. let same : x.actor ≡ a = eqb-true x.actor a t in absurd (omega (arith, later, e, same)))))
      ∙ ap (λ z. z ++ just (get_or xs k d).actor row a) (sym (here pick x xs a t)))
      (λ (f : (x.actor == a) ≡ false).
      other pick x (set xs k (with_row row (get_or xs k d))) a f
      ∙ grown_at xs (x.actor + 1) k a rise.1 within one
      ∙ ap (λ z. z ++ just (get_or xs k d).actor row a) (sym (other pick x xs a f)))
      (cases_Bool (x.actor == a))

rise_set : (ss : List Sensor) (n k : ℕ) (d : Sensor) (row : Row) → RiseFrom n ss → k < length ss → RiseFrom n (set ss k (with_row row (get_or ss k d)))
rise_set [] n k d row rise lt = absurd (omega (arith, lt))
rise_set (x ∷ xs) n zero d row rise lt = rise
rise_set (x ∷ xs) n (suc k) d row rise lt = (rise.0, rise_set xs (x.actor + 1) k d row rise.1 (omega (arith, lt)))

each_set : (P : Sensor → Type 0) (ss : List Sensor) (k : ℕ) (y : Sensor) → Each P ss → P y → Each P (set ss k y)
each_set P [] k y all one = tt
each_set P (x ∷ xs) zero y all one = (one, all.1)
each_set P (x ∷ xs) (suc k) y all one = (all.0, each_set P xs k y all.1 one)

pub each_at : (P : Sensor → Type 0) (ss : List Sensor) (k : ℕ) (d : Sensor) → Each P ss → k < length ss → P (get_or ss k d)
each_at P [] k d all lt = absurd (omega (arith, lt))
each_at P (x ∷ xs) zero d all lt = all.0
each_at P (x ∷ xs) (suc k) d all lt = each_at P xs k d all.1 (omega (arith, lt))

-- of the rows that have not entered, the new one is the last
left_with : (s : Sensor) (row : Row) → s.entered ≤ length s.rows → drop s.entered (s.rows ++ row ∷ []) ≡ drop s.entered s.rows ++ row ∷ []
left_with s row le = drop-append-le s.entered s.rows (row ∷ []) le

times_drop : (rows : List Row) (n : ℕ) → TimesRise rows → TimesRise (drop n rows)
times_drop [] zero rise = tt
times_drop [] (suc n) rise = tt
times_drop (x ∷ xs) zero rise = rise
times_drop (x ∷ xs) (suc n) rise = times_drop xs n rise.1

times_last : (rows : List Row) (row : Row) → TimesRise rows → Each (λ (x : Row). x.time < row.time) rows → TimesRise (rows ++ row ∷ [])
times_last [] row order lt = (tt, tt)
times_last (x ∷ rows) row order lt = (each_last (λ (y : Row). x.time < y.time) rows row order.0 lt.0, times_last rows row order.1 lt.1)
  where
    each_last : (P : Row → Type 0) (rows : List Row) (row : Row) → Each P rows → P row → Each P (rows ++ row ∷ [])
    each_last P [] row all last = (last, tt)
    each_last P (y ∷ ys) row all last = (all.0, each_last P ys row all.1 last)

-- the sensors of a platform with one more row
pub record Arrived (g : Graph) (ss : List Sensor) (a : ℕ) (row : Row) (new : List Sensor) : Type 0 where
  pub rows : (b : ℕ) → rows_at_sensors new b ≡ followed (rows_at_sensors ss) (just a row) b
  pub left : (b : ℕ) → left_in new b ≡ followed (left_in ss) (just a row) b
  pub sensors : AreSensors g new

pub arrived : (g : Graph) (ss : List Sensor) (k : ℕ) (d : Sensor) (row : Row) → AreSensors g ss → k < length ss → TimesRise (get_or ss k d).rows → Each (λ (x : Row). x.time < row.time) (get_or ss k d).rows →
    Arrived g ss (get_or ss k d).actor row (set ss k (with_row row (get_or ss k d)))
arrived g ss k d row are lt rise times =
    let s : Sensor = get_or ss k d in
    let is : IsSensor g s = each_at (IsSensor g) ss k d are.1 lt in
    record {
      rows = λ b. grown_at (λ (z : Sensor). z.rows) row d ss 0 k b are.0 lt refl;
      left = λ b. grown_at (λ (z : Sensor). drop z.entered z.rows) row d ss 0 k b are.0 lt (left_with s row is.entered);
      sensors = (rise_set ss 0 k d row are.0 lt, each_set (IsSensor g) ss k (with_row row s) are.1 (record { unit = is.unit; entered = omega (arith, is.entered, length-append s.rows (row ∷ [])); times = times_drop (s.rows ++ row ∷ []) s.entered (times_last s.rows row rise times) }));
    }

-- the rows of the sensor at a place
pub found_at : (ss : List Sensor) (n k : ℕ) (d : Sensor) → RiseFrom n ss → k < length ss → rows_at_sensors ss (get_or ss k d).actor ≡ (get_or ss k d).rows
found_at [] n k d rise lt = absurd (omega (arith, lt))
found_at (x ∷ xs) n zero d rise lt = here (λ (z : Sensor). z.rows) x xs x.actor (eq-eqb x.actor x.actor refl)
found_at (x ∷ xs) n (suc k) d rise lt =
    let within : k < length xs = omega (arith, lt) in
    let later : x.actor + 1 ≤ (get_or xs k d).actor = number_from xs (x.actor + 1) k d rise.1 within in
    other (λ (z : Sensor). z.rows) x xs (get_or xs k d).actor (ne_eqb x.actor (get_or xs k d).actor (λ e. absurd (omega (arith, later, e)))) ∙ found_at xs (x.actor + 1) k d rise.1 within
