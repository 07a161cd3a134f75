-- The rows of a run fit its graph.
use Rattle.std.proofs.Common.{◌≡◌, ℕ, ◌+◌, ◌<◌, ◌≤◌, Bool, true, false, List, [], ◌∷◌, Option, Some, None, nat_le, nat_lt, ◌&&◌, refl, sym, ap, subst, ◌∙◌, arith, option_map, filter, length, not, cond, suc, if◌then◌else◌}
use Rattle.std.specs.List.{prefix_len}
use Rattle.std.proofs.lemmas.Bool.{false≢true}
use Rattle.std.proofs.lemmas.Bool.Decides.{nat_tests}
use Rattle.pt_types.specs.declared.graph.Graph.{Graph}
use Rattle.pt_types.specs.declared.kind.Kind.{Kind}
use Rattle.pt_types.specs.declared.kind.Kind.TheVariants as kind
use Rattle.pt_types.specs.declared.rows.Row.{Row}
use Rattle.pt_sensors.specs.declared.limits.FileLimits.{FileLimits}
use Rattle.pt_sensors.specs.Late.{is_late_row, late_row}
use Rattle.pt_sensors.specs.Order.{RowsAreInOrder, RowsInOrder}
use Rattle.pt_types.specs.Lookups.{kind_of}
use Rattle.pt_semantics.specs.Lists.{Each}
use Rattle.pt_semantics.specs.Meaning.{rows_until}
use Rattle.pt_semantics.specs.Rows.{FitRows, FitsRow, NeverFalls, TimesRise}
use Rattle.pt_io.specs.Calls.{Contents}
use Rattle.pt_sensors.specs.Places.{of_run}
use Rattle.pt_sensor_files.specs.Recorded.{InTime, RowsOfKind}

filtered_one : {X : Type 0} (f : X → Bool) (x : X) (xs : List X) (b : Bool) → f x ≡ b → filter f (x ∷ xs) ≡ (if b then x ∷ filter f xs else filter f xs)
filtered_one f x xs b e = rw e refl

-- all members of a filtered list are members
each_filtered : {X : Type 0} (P : X → Type 0) (f : X → Bool) (xs : List X) → Each P xs → Each P (filter f xs)
each_filtered P f [] h = tt
each_filtered P f (x ∷ xs) h = subst (Each P) (sym (filtered_one f x xs (f x) refl)) (by_test (f x) (each_filtered P f xs h.1))
  where
    by_test : (b : Bool) → Each P (filter f xs) → Each P (if b then x ∷ filter f xs else filter f xs)
    by_test true rest = (h.0, rest)
    by_test false rest = rest

rises_filtered : (f : Row → Bool) (rows : List Row) → TimesRise rows → TimesRise (filter f rows)
rises_filtered f [] h = tt
rises_filtered f (x ∷ rows) h = subst TimesRise (sym (filtered_one f x rows (f x) refl)) (by_test (f x) (rises_filtered f rows h.1))
  where
    by_test : (b : Bool) → TimesRise (filter f rows) → TimesRise (if b then x ∷ filter f rows else filter f rows)
    by_test true rest = (each_filtered (λ (y : Row). x.time < y.time) f rows h.0, rest)
    by_test false rest = rest

never_falls_filtered : (f : Row → Bool) (rows : List Row) → NeverFalls rows → NeverFalls (filter f rows)
never_falls_filtered f [] h = tt
never_falls_filtered f (x ∷ rows) h = subst NeverFalls (sym (filtered_one f x rows (f x) refl)) (by_test (f x) (never_falls_filtered f rows h.1))
  where
    by_test : (b : Bool) → NeverFalls (filter f rows) → NeverFalls (if b then x ∷ filter f rows else filter f rows)
    by_test true rest = (each_filtered (λ (y : Row). x.seen ≤ y.seen) f rows h.0, rest)
    by_test false rest = rest

-- rows that follow one another all come after the first
come_later : (x y : Row) (rows : List Row) → x.time < y.time → RowsInOrder (Some y) rows → Each (λ (z : Row). x.time < z.time) rows
come_later x y [] h order = tt
come_later x y (z ∷ rows) h order =
    let step : x.time < z.time = omega (arith, h, order.0.follows.0) in
    (step, come_later x z rows step order.1)

seen_later : (x y : Row) (rows : List Row) → x.seen ≤ y.seen → RowsInOrder (Some y) rows → Each (λ (z : Row). x.seen ≤ z.seen) rows
seen_later x y [] h order = tt
seen_later x y (z ∷ rows) h order =
    let step : x.seen ≤ z.seen = omega (arith, h, order.0.follows.1) in
    (step, seen_later x z rows step order.1)

all_later : (x : Row) (rows : List Row) → RowsInOrder (Some x) rows → Each (λ (z : Row). x.time < z.time) rows
all_later x [] order = tt
all_later x (y ∷ rows) order = (order.0.follows.0, come_later x y rows order.0.follows.0 order.1)

all_seen_later : (x : Row) (rows : List Row) → RowsInOrder (Some x) rows → Each (λ (z : Row). x.seen ≤ z.seen) rows
all_seen_later x [] order = tt
all_seen_later x (y ∷ rows) order = (order.0.follows.1, seen_later x y rows order.0.follows.1 order.1)

times_rise : (before : Option Row) (rows : List Row) → RowsInOrder before rows → TimesRise rows
times_rise before [] order = tt
times_rise before (x ∷ rows) order = (all_later x rows order.1, times_rise (Some x) rows order.1)

never_falls : (before : Option Row) (rows : List Row) → RowsInOrder before rows → NeverFalls rows
never_falls before [] order = tt
never_falls before (x ∷ rows) order = (all_seen_later x rows order.1, never_falls (Some x) rows order.1)

-- a sensor's row up to the horizon that is not late fits
one_fits : (g : Graph) (a : ℕ) (file : List ℕ) (bound : ℕ) (row : Row) → kind_of g a ≡ kind.Sensor file bound → nat_le row.time g.until ≡ true → is_late_row bound g.until row ≡ false → FitsRow g a row
one_fits g a file bound row sensor up_to fine = record {
  file = file;
  bound = bound;
  sensor = sensor;
  in_time = by_test (nat_lt (row.time + bound) row.seen) refl;
  within = grind (arith, nat_tests);
}
  where
    by_test : (b : Bool) → nat_lt (row.time + bound) row.seen ≡ b → row.seen ≤ row.time + bound
    by_test true e = absurd (false≢true (sym fine ∙ (ap (λ z. z && nat_lt (row.time + bound) row.seen) up_to ∙ e)))
    by_test false e = grind (arith, nat_tests)

-- no member passes a test
abbrev NonePass : {X : Type 0} → (X → Bool) → List X → Type 0
NonePass f xs = length xs ≤ prefix_len (λ x. not (f x)) xs

none_pass : {X : Type 0} (f : X → Bool) (x : X) (xs : List X) → NonePass f (x ∷ xs) → (f x ≡ false) × NonePass f xs
none_pass f x xs h = by_test (f x) refl
  where
    by_test : (b : Bool) → f x ≡ b → (f x ≡ false) × NonePass f xs
    by_test true e = absurd (let none : suc (length xs) ≤ cond (not true) (1 + prefix_len (λ x. not (f x)) xs) 0 = subst (λ z. suc (length xs) ≤ cond (not z) (1 + prefix_len (λ x. not (f x)) xs) 0) e h in omega (arith, none))
    by_test false e =
        let more : suc (length xs) ≤ cond (not false) (1 + prefix_len (λ x. not (f x)) xs) 0 = subst (λ z. suc (length xs) ≤ cond (not z) (1 + prefix_len (λ x. not (f x)) xs) 0) e h in
        (e, omega (arith, more))

none_late : (bound until : ℕ) (rows : List Row) → late_row bound until rows ≡ None → NonePass (λ (row : Row). is_late_row bound until row) rows
none_late bound until rows h = by_test (nat_lt (prefix_len (λ (row : Row). not (is_late_row bound until row)) rows) (length rows)) refl
  where
    by_test : (b : Bool) → nat_lt (prefix_len (λ (row : Row). not (is_late_row bound until row)) rows) (length rows) ≡ b → NonePass (λ (row : Row). is_late_row bound until row) rows
    by_test true e =
        absurd (let some : option_map (λ i. i + 1) (cond true (Some (prefix_len (λ (row : Row). not (is_late_row bound until row)) rows)) None) ≡ None =
        subst (λ z. option_map (λ i. i + 1) (cond z (Some (prefix_len (λ (row : Row). not (is_late_row bound until row)) rows)) None) ≡ None) e h in cc)
    by_test false e = grind (arith, nat_tests)

sensor_fits : (g : Graph) (a : ℕ) (file : List ℕ) (bound : ℕ) (rows : List Row) → kind_of g a ≡ kind.Sensor file bound → NonePass (λ (row : Row). is_late_row bound g.until row) rows → Each (FitsRow g a) (rows_until g.until rows)
sensor_fits g a file bound [] sensor h = tt
sensor_fits g a file bound (row ∷ rows) sensor h =
    subst (Each (FitsRow g a)) (sym (filtered_one (λ (z : Row). nat_le z.time g.until) row rows (nat_le row.time g.until) refl))
    (by_test (nat_le row.time g.until) refl (none_pass (λ (z : Row). is_late_row bound g.until z) row rows h).0 (sensor_fits g a file bound rows sensor (none_pass (λ (z : Row). is_late_row bound g.until z) row rows h).1))
  where
    by_test : (b : Bool) → nat_le row.time g.until ≡ b → is_late_row bound g.until row ≡ false → Each (FitsRow g a) (rows_until g.until rows) → Each (FitsRow g a) (if b then row ∷ rows_until g.until rows else rows_until g.until rows)
    by_test true e fine rest = (one_fits g a file bound row sensor e fine, rest)
    by_test false e fine rest = rest

-- the rows of an actor, of whatever kind, fit it where none is late
no_rows : (g : Graph) (a : ℕ) (rows : List Row) → rows ≡ [] → Each (FitsRow g a) (rows_until g.until rows)
no_rows g a rows none = subst (λ z. Each (FitsRow g a) (rows_until g.until z)) (sym none) tt

kind_fits : (limits : FileLimits) (contents : Contents) (g : Graph) (a : ℕ) (k : Kind) (rows : List Row) → kind_of g a ≡ k → RowsOfKind limits contents k rows → InTime g.until k rows → Each (FitsRow g a) (rows_until g.until rows)
kind_fits limits contents g a (kind.Sensor file bound) rows is has in_time = sensor_fits g a file bound rows is (none_late bound g.until rows in_time)
kind_fits limits contents g a _ rows is has in_time = no_rows g a rows has

pub all_fit : (limits : FileLimits) (contents : Contents) (g : Graph) (rows : ℕ → List Row) → ((a : ℕ) → RowsOfKind limits contents (kind_of g a) (rows a)) → ((a : ℕ) → InTime g.until (kind_of g a) (rows a)) → ((a : ℕ) → RowsAreInOrder limits (rows a)) → FitRows g (of_run g rows)
all_fit limits contents g rows has in_time order = record {
  fit = λ a. kind_fits limits contents g a (kind_of g a) (rows a) refl (has a) (in_time a);
  in_order = λ a. never_falls_filtered (λ (row : Row). nat_le row.time g.until) (rows a) (never_falls None (rows a) (order a).order);
  times = λ a. rises_filtered (λ (row : Row). nat_le row.time g.until) (rows a) (times_rise None (rows a) (order a).order);
}
