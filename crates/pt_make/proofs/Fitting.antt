-- The made rows fit the made graph.
use Rattle.std.proofs.Common.{◌≡◌, ℕ, ◌+◌, ◌*◌, ◌%◌, ◌<◌, ◌≤◌, ◌==◌, zero, suc, Bool, true, false, List, [], ◌∷◌, nat_le, filter, map, if◌then◌else◌, arith, refl, sym, ap, subst, ◌∙◌, ⊎_elim, eqb-true, codes}
use Rattle.std.specs.List.{range_with_len}
use Rattle.std.proofs.lemmas.Bool.Decides.{nat_tests}
use Rattle.pt_types.specs.declared.kind.Kind.TheVariants.{Sensor}
use Rattle.pt_types.specs.declared.rows.Row.{Row}
use Rattle.pt_types.specs.Lookups.{kind_of}
use Rattle.pt_semantics.specs.Lists.{Each, IsIn}
use Rattle.pt_semantics.specs.Rows.{FitRows, FitsRow, NeverFalls, TimesRise}
use Rattle.pt_sensors.specs.Places.{of_run}
use Rattle.pt_make.specs.Input.{made_graph, made_row, made_rows, row_count, sensor_rows}

-- rows from k on
abbrev rows_from : ℕ → ℕ → ℕ → ℕ → List Row
rows_from n i k count = map (made_row n i) (range_with_len k count)

up_to : (n k : ℕ) → k ≤ row_count n → nat_le (100 * k) (made_graph n).until ≡ true
up_to n k h = is_le (100 * k) (made_graph n).until (omega arith)
  where
    is_le : (a b : ℕ) → a ≤ b → nat_le a b ≡ true
    is_le a b h = grind (arith, nat_tests)

-- all are up to the horizon
kept_one : (f : Row → Bool) (x : Row) (xs : List Row) → f x ≡ true → filter f (x ∷ xs) ≡ x ∷ filter f xs
kept_one f x xs h = rw h refl

kept_all : (n i k count : ℕ) → k + count ≤ row_count n + 1 → filter (λ (row : Row). nat_le row.time (made_graph n).until) (rows_from n i k count) ≡ rows_from n i k count
kept_all n i k zero h = refl
kept_all n i k (suc count) h =
    kept_one (λ (row : Row). nat_le row.time (made_graph n).until) (made_row n i k) (rows_from n i (k + 1) count) (up_to n k (omega arith))
    ∙ ap (λ rows. made_row n i k ∷ rows) (kept_all n i (k + 1) count (omega arith))

all_fit : (n a i k count : ℕ) (file : List ℕ) → kind_of (made_graph n) a ≡ Sensor file 10 → k + count ≤ row_count n + 1 → Each (FitsRow (made_graph n) a) (rows_from n i k count)
all_fit n a i k zero file is h = tt
all_fit n a i k (suc count) file is h = (
  record { file = file; bound = 10; sensor = is; in_time = soon k; within = early k (omega arith) },
  all_fit n a i (k + 1) count file is (omega arith),
)
  where
    soon : (k : ℕ) → 100 * k + k % 11 ≤ 100 * k + 10
    soon k = omega arith

    early : (k : ℕ) → k ≤ row_count n → 100 * k ≤ (made_graph n).until
    early k h = omega arith

come_later : (n i j k count : ℕ) → j < k → Each (λ (y : Row). 100 * j < y.time) (rows_from n i k count)
come_later n i j k zero h = tt
come_later n i j k (suc count) h = (omega arith, come_later n i j (k + 1) count (omega arith))

seen_later : (n i j k count : ℕ) → j < k → Each (λ (y : Row). 100 * j + j % 11 ≤ y.seen) (rows_from n i k count)
seen_later n i j k zero h = tt
seen_later n i j k (suc count) h = (omega arith, seen_later n i j (k + 1) count (omega arith))

times_rise : (n i k count : ℕ) → TimesRise (rows_from n i k count)
times_rise n i k zero = tt
times_rise n i k (suc count) = (come_later n i k (k + 1) count (omega arith), times_rise n i (k + 1) count)

never_falls : (n i k count : ℕ) → NeverFalls (rows_from n i k count)
never_falls n i k zero = tt
never_falls n i k (suc count) = (seen_later n i k (k + 1) count (omega arith), never_falls n i (k + 1) count)

-- the rows of each actor, by whether it is a sensor
pub by_sensor : (n a : ℕ) (P : List Row → Type 0) → P [] → ((i : ℕ) (file : List ℕ) → kind_of (made_graph n) a ≡ Sensor file 10 → P (sensor_rows n i)) → P (made_rows n a)
by_sensor n a P none some = first (a == 0) refl
  where
    fourth : (b : Bool) → (a == 14) ≡ b → P (if b then sensor_rows n 3 else [])
    fourth true e = some 3 (codes "s3.csv") (ap (kind_of (made_graph n)) (eqb-true a 14 e))
    fourth false e = none

    third : (b : Bool) → (a == 9) ≡ b → P (if b then sensor_rows n 2 else (if a == 14 then sensor_rows n 3 else []))
    third true e = some 2 (codes "s2.csv") (ap (kind_of (made_graph n)) (eqb-true a 9 e))
    third false e = fourth (a == 14) refl

    second : (b : Bool) → (a == 4) ≡ b → P (if b then sensor_rows n 1 else (if a == 9 then sensor_rows n 2 else (if a == 14 then sensor_rows n 3 else [])))
    second true e = some 1 (codes "s1.csv") (ap (kind_of (made_graph n)) (eqb-true a 4 e))
    second false e = third (a == 9) refl

    first : (b : Bool) → (a == 0) ≡ b → P (if b then sensor_rows n 0 else (if a == 4 then sensor_rows n 1 else (if a == 9 then sensor_rows n 2 else (if a == 14 then sensor_rows n 3 else []))))
    first true e = some 0 (codes "s0.csv") (ap (kind_of (made_graph n)) (eqb-true a 0 e))
    first false e = second (a == 4) refl

-- no row is past the horizon
pub of_run_all : (n a : ℕ) → of_run (made_graph n) (made_rows n) a ≡ made_rows n a
of_run_all n a = by_sensor n a (λ rows. filter (λ (row : Row). nat_le row.time (made_graph n).until) rows ≡ rows) refl (λ i file is. kept_all n i 1 (row_count n) (omega arith))

pub rows_fit : (n : ℕ) → FitRows (made_graph n) (of_run (made_graph n) (made_rows n))
rows_fit n = record {
  fit = λ a. subst (Each (FitsRow (made_graph n) a)) (sym (of_run_all n a)) (by_sensor n a (Each (FitsRow (made_graph n) a)) tt (λ i file is. all_fit n a i 1 (row_count n) file is (omega arith)));
  in_order = λ a. subst NeverFalls (sym (of_run_all n a)) (by_sensor n a NeverFalls tt (λ i file is. never_falls n i 1 (row_count n)));
  times = λ a. subst TimesRise (sym (of_run_all n a)) (by_sensor n a TimesRise tt (λ i file is. times_rise n i 1 (row_count n)));
}

-- each row is at a multiple of 100 microseconds
on_time : (n i k count : ℕ) (row : Row) → IsIn row (rows_from n i k count) → (j : ℕ) × (row.time ≡ 100 * j)
on_time n i k zero row mem = absurd mem
on_time n i k (suc count) row mem =
    ⊎_elim
    (λ (here : row ≡ made_row n i k). (k, ap (λ (r : Row). r.time) here))
    (λ (there : IsIn row (rows_from n i (k + 1) count)). on_time n i (k + 1) count row there)
    mem

pub row_time : (n a : ℕ) (row : Row) → IsIn row (of_run (made_graph n) (made_rows n) a) → (j : ℕ) × (row.time ≡ 100 * j)
row_time n a row mem =
    let each = by_sensor n a (λ rows. IsIn row rows → (j : ℕ) × (row.time ≡ 100 * j)) (λ m. absurd m) (λ i file is m. on_time n i 1 (row_count n) row m) in
    each (subst (IsIn row) (of_run_all n a) mem)
