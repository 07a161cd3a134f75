-- The entries of the made rows, one actor after another.
use Rattle.std.proofs.Common.{◌≡◌, ℕ, ◌+◌, ◌<◌, ◌≤◌, ◌==◌, ◌≢◌, zero, suc, slice_get, Some, Bool, true, false, nat_lt, List, [], ◌∷◌, ◌++◌, Option, refl, sym, ap, ap₂, ◌∙◌, arith, length, ◌⊎◌, inl, inr, ⊎_elim, eq-eqb, ne_eqb, if◌then◌else◌}
use Rattle.std.proofs.lemmas.List.{append-nil, append_assoc, length-append}
use Rattle.std.proofs.lemmas.Bool.Decides.{nat_tests}
use Rattle.pt_types.specs.declared.rows.Row.{Row}
use Rattle.pt_sensors.specs.declared.sensor_rows.SensorRows.{SensorRows}
use Rattle.pt_sensors.specs.Listed.{rows_for}
use Rattle.pt_sensors.specs.Places.{StandInPlace}
use Rattle.pt_make.specs.Input.{made_graph, made_rows}

-- the entries of the first k actors
pub record AreFirst (n : ℕ) (xs : List SensorRows) (k : ℕ) : Type 0 where
  pub rows : (a : ℕ) → a < k → rows_for xs a ≡ made_rows n a
  pub past : (a : ℕ) → k ≤ a → rows_for xs a ≡ []
  pub count : length xs ≡ k
  pub places : (j : ℕ) (s : SensorRows) → slice_get xs j ≡ Some s → s.actor ≡ j

cases : (a n : ℕ) → a < n + 1 → (a < n) ⊎ (a ≡ n)
cases a n h = by_test (nat_lt a n) refl
  where
    by_test : (b : Bool) → nat_lt a n ≡ b → (a < n) ⊎ (a ≡ n)
    by_test true e = inl (grind (arith, nat_tests))
    by_test false e = inr (grind (arith, nat_tests))

-- one entry more stands at the end
pushed_at : (xs : List SensorRows) (s : SensorRows) (j : ℕ) (z : SensorRows) → slice_get (xs ++ s ∷ []) j ≡ Some z → (slice_get xs j ≡ Some z) ⊎ ((j ≡ length xs) × (z ≡ s))
pushed_at [] s zero z at = inr (refl, cc)
pushed_at [] s (suc j) z at = absurd cc
pushed_at (x ∷ xs) s zero z at = inl at
pushed_at (x ∷ xs) s (suc j) z at =
    ⊎_elim
    (λ (old : slice_get xs j ≡ Some z). inl old)
    (λ (new : (j ≡ length xs) × (z ≡ s)). inr (ap suc new.0, new.1))
    (pushed_at xs s j z at)

rows_push : (xs : List SensorRows) (s : SensorRows) (a : ℕ) → rows_for (xs ++ s ∷ []) a ≡ rows_for xs a ++ (if s.actor == a then s.rows else [])
rows_push [] s a = append-nil (if s.actor == a then s.rows else [])
rows_push (x ∷ xs) s a = ap (λ ys. (if x.actor == a then x.rows else []) ++ ys) (rows_push xs s a) ∙ sym (append_assoc (if x.actor == a then x.rows else []) (rows_for xs a) (if s.actor == a then s.rows else []))

here : (b : Bool) (rows : List Row) → b ≡ true → (if b then rows else []) ≡ rows
here b rows h = rw h refl

elsewhere : (b : Bool) (rows : List Row) → b ≡ false → (if b then rows else []) ≡ []
elsewhere b rows h = rw h refl

rows_same : (xs : List SensorRows) (s : SensorRows) (a : ℕ) → s.actor ≢ a → rows_for (xs ++ s ∷ []) a ≡ rows_for xs a
rows_same xs s a away = rows_push xs s a ∙ ap (λ ys. rows_for xs a ++ ys) (elsewhere (s.actor == a) s.rows (ne_eqb s.actor a away)) ∙ append-nil (rows_for xs a)

rows_new : (xs : List SensorRows) (s : SensorRows) (a : ℕ) → s.actor ≡ a → rows_for xs a ≡ [] → rows_for (xs ++ s ∷ []) a ≡ s.rows
rows_new xs s a is none = rows_push xs s a ∙ ap₂ (λ front ys. front ++ ys) none (here (s.actor == a) s.rows (eq-eqb s.actor a is))

pub none_first : (n : ℕ) → AreFirst n [] 0
none_first n = record {
  rows = λ a l. absurd (omega (arith, l));
  past = λ a l. refl;
  count = refl;
  places = λ j s at. absurd (none s at);
}
  where
    none : {X : Type 0} (x : X) → Option.None ≡ Some x → ⊥
    none x e = cc

pub first_more : (n : ℕ) (xs : List SensorRows) (k : ℕ) (s : SensorRows) → AreFirst n xs k → s.actor ≡ k → s.rows ≡ made_rows n k → AreFirst n (xs ++ s ∷ []) (k + 1)
first_more n xs k s h is rows = record {
  rows = λ a l.
      ⊎_elim
      (λ (below : a < k). rows_same xs s a (away a below) ∙ h.rows a below)
      (λ (same : a ≡ k). rows_new xs s a (is ∙ sym same) (h.past a (omega (arith, same))) ∙ rows ∙ ap (made_rows n) (sym same))
      (cases a k l);
  past = λ a l. rows_same xs s a (above a l) ∙ h.past a (omega (arith, l));
  count = length-append xs (s ∷ []) ∙ omega (arith, h.count);
  places = λ j z at.
      ⊎_elim
      (λ (old : slice_get xs j ≡ Some z). h.places j z old)
      (λ (new : (j ≡ length xs) × (z ≡ s)). ap (λ (y : SensorRows). y.actor) new.1 ∙ is ∙ sym h.count ∙ sym new.0)
      (pushed_at xs s j z at);
}
  where
    away : (a : ℕ) → a < k → s.actor ≢ a
    away a l e = omega (arith, l, e, is)

    above : (a : ℕ) → k + 1 ≤ a → s.actor ≢ a
    above a l e = omega (arith, l, e, is)

-- no actor past the last has rows
past_last : (n a : ℕ) → 18 ≤ a → made_rows n a ≡ []
past_last n a l =
    pick (a == 0) _ _ (ne_eqb a 0 (λ e. omega (arith, l, e)))
    ∙ pick (a == 4) _ _ (ne_eqb a 4 (λ e. omega (arith, l, e)))
    ∙ pick (a == 9) _ _ (ne_eqb a 9 (λ e. omega (arith, l, e)))
    ∙ pick (a == 14) _ _ (ne_eqb a 14 (λ e. omega (arith, l, e)))
  where
    pick : (b : Bool) (rows others : List Row) → b ≡ false → (if b then rows else others) ≡ others
    pick b rows others e = rw e refl

pub placed : (n : ℕ) (xs : List SensorRows) → AreFirst n xs 18 → StandInPlace (made_graph n) xs
placed n xs h = record { count = h.count; places = h.places }

pub rows_are : (n : ℕ) (xs : List SensorRows) → AreFirst n xs 18 → rows_for xs ≡ made_rows n
rows_are n xs h = λ i a. at a i
  where
    at : (a : ℕ) → rows_for xs a ≡ made_rows n a
    at a = by_test (nat_lt a 18) refl
      where
        by_test : (b : Bool) → nat_lt a 18 ≡ b → rows_for xs a ≡ made_rows n a
        by_test true e = h.rows a (grind (arith, nat_tests))
        by_test false e = h.past a (grind (arith, nat_tests)) ∙ sym (past_last n a (grind (arith, nat_tests)))
