-- The rows of one actor more, and the causes of faults on the way.
use Rattle.std.proofs.Common.{◌≡◌, ℕ, ◌+◌, ◌<◌, ◌≤◌, ◌==◌, ◌≢◌, zero, suc, slice_get, Some, Bool, true, false, nat_lt, List, [], ◌∷◌, ◌++◌, Option, Err, refl, sym, ap, ap₂, subst, ◌∙◌, arith, length, ◌⊎◌, inl, inr, ⊎_elim, append_assoc, eq-eqb, ne_eqb, if◌then◌else◌}
use Rattle.std.proofs.lemmas.List.{append-nil, get_or_past, length-append}
use Rattle.std.proofs.lemmas.Bool.Decides.{nat_tests}
use Rattle.pt_types.specs.declared.graph.Graph.{Graph}
use Rattle.pt_types.specs.declared.graph.Actor.{Actor}
use Rattle.pt_types.specs.declared.rows.Row.{Row}
use Rattle.pt_types.specs.declared.kind.Kind.TheVariants.{Sensor}
use Rattle.pt_sensors.specs.declared.sensor_rows.SensorRows.{SensorRows}
use Rattle.pt_sensors.specs.declared.fault.RowFault.{RowFault}
use Rattle.pt_sensors.specs.declared.fault.RowFault.TheVariants as row
use Rattle.pt_sensors.specs.declared.limits.FileLimits.{FileLimits}
use Rattle.pt_sensors.specs.Limits.{file_limits}
use Rattle.pt_sensors.specs.RowsOf.{rows_of}
use Rattle.pt_sensors.specs.Order.{RowsAreInOrder}
use Rattle.pt_semantics.specs.Lists.{Each}
use Rattle.pt_semantics.specs.Rows.{FitRows}
use Rattle.pt_types.specs.Groups.{no_actor}
use Rattle.pt_types.specs.Lookups.{kind_of}
use Rattle.pt_sensors.specs.Listed.{rows_for, IsOfActors}
use Rattle.pt_sensor_files.specs.declared.recorded_fault.LateRows.{LateRows}
use Rattle.pt_sensor_files.specs.declared.recorded_fault.LateRows.TheVariants as late
use Rattle.pt_sensor_files.specs.declared.recorded_fault.RecordedFault.{RecordedFault}
use Rattle.pt_sensor_files.specs.declared.recorded_fault.RecordedFault.TheVariants as fault
use Rattle.pt_sensor_files.specs.Asked.{Asks, ReadFails, files_before}
use Rattle.pt_io.specs.Calls.{Contents, SourceCall}
use Rattle.pt_sensor_files.specs.Recorded.{AllPass, AreRows, CauseOfRows, HaveRows, RowsPass, RowsOfKind, SensorFails, SensorLate, SensorUnread}
use Rattle.pt_sensor_files.specs.Bytes.{OfBytes}
use Rattle.pt_sensor_files.specs.Files.{CauseOfActor, CauseOfFile, IsSensorWith}
use Rattle.pt_sensor_files.specs.Faults.{fault_of_sensor}
use Rattle.pt_sensors.specs.Places.{StandInPlace, of_run}
use Rattle.pt_sensor_files.proofs.Fitting.{all_fit}
use Rattle.pt_sensor_files.proofs.Asking.{append_none, read_after}

-- the rows for an actor, with one entry more
rows_push : (xs : List SensorRows) (s : SensorRows) (a : ℕ) → rows_for (xs ++ s ∷ []) a ≡ rows_for xs a ++ (if s.actor == a then s.rows else [])
rows_push [] s a = append-nil (if s.actor == a then s.rows else [])
rows_push (x ∷ xs) s a = ap (λ ys. (if x.actor == a then x.rows else []) ++ ys) (rows_push xs s a) ∙ sym (append_assoc (if x.actor == a then x.rows else []) (rows_for xs a) (if s.actor == a then s.rows else []))

here : (b : Bool) (rows : List Row) → b ≡ true → (if b then rows else []) ≡ rows
here b rows h = rw h refl

elsewhere : (b : Bool) (rows : List Row) → b ≡ false → (if b then rows else []) ≡ []
elsewhere b rows h = rw h refl

rows_same : (xs : List SensorRows) (s : SensorRows) (a : ℕ) → s.actor ≢ a → rows_for (xs ++ s ∷ []) a ≡ rows_for xs a
rows_same xs s a away = rows_push xs s a ∙ ap (λ ys. rows_for xs a ++ ys) (elsewhere (s.actor == a) s.rows (ne_eqb s.actor a away)) ∙ append-nil (rows_for xs a)

rows_new : (xs : List SensorRows) (s : SensorRows) (a : ℕ) → s.actor ≡ a → rows_for xs a ≡ [] → rows_for (xs ++ s ∷ []) a ≡ s.rows
rows_new xs s a is none = rows_push xs s a ∙ ap₂ (λ front ys. front ++ ys) none (here (s.actor == a) s.rows (eq-eqb s.actor a is))

-- an actor has its rows, and none of them is refused
pub record HasRows (l : LateRows) (contents : Contents) (g : Graph) (a : ℕ) (rows : List Row) : Type 0 where
  pub kind : RowsOfKind (file_limits g.claims) contents (kind_of g a) rows
  pub passes : RowsPass l g.until (kind_of g a) rows
  pub order : RowsAreInOrder (file_limits g.claims) rows

-- the entries of the first n actors
pub record AreFirstRows (l : LateRows) (contents : Contents) (g : Graph) (xs : List SensorRows) (n : ℕ) : Type 0 where
  pub rows : (a : ℕ) → a < n → HasRows l contents g a (rows_for xs a)
  pub past : (a : ℕ) → n ≤ a → rows_for xs a ≡ []
  pub actors : Each (IsOfActors (length g.actors)) xs
  pub count : length xs ≡ n
  pub places : (k : ℕ) (s : SensorRows) → slice_get xs k ≡ Some s → s.actor ≡ k

cases : (a n : ℕ) → a < n + 1 → (a < n) ⊎ (a ≡ n)
cases a n h = by_test (nat_lt a n) refl
  where
    by_test : (b : Bool) → nat_lt a n ≡ b → (a < n) ⊎ (a ≡ n)
    by_test true e = inl (grind (arith, nat_tests))
    by_test false e = inr (grind (arith, nat_tests))

each_push : {X : Type 0} (P : X → Type 0) (xs : List X) (x : X) → Each P xs → P x → Each P (xs ++ x ∷ [])
each_push P [] x each p = (p, tt)
each_push P (y ∷ xs) x each p = (each.0, each_push P xs x each.1 p)

-- one entry more stands at the end
pushed_at : (xs : List SensorRows) (s : SensorRows) (k : ℕ) (z : SensorRows) → slice_get (xs ++ s ∷ []) k ≡ Some z → (slice_get xs k ≡ Some z) ⊎ ((k ≡ length xs) × (z ≡ s))
pushed_at [] s zero z at = inr (refl, cc)
pushed_at [] s (suc k) z at = absurd cc
pushed_at (x ∷ xs) s zero z at = inl at
pushed_at (x ∷ xs) s (suc k) z at = ⊎_elim (λ (old : slice_get xs k ≡ Some z). inl old) (λ (new : (k ≡ length xs) × (z ≡ s)). inr (ap suc new.0, new.1)) (pushed_at xs s k z at)

length_push : (xs : List SensorRows) (s : SensorRows) → length (xs ++ s ∷ []) ≡ length xs + 1
length_push xs s = length-append xs (s ∷ [])

pub first_rows_more : (l : LateRows) (contents : Contents) (g : Graph) (xs : List SensorRows) (n : ℕ) (s : SensorRows) → AreFirstRows l contents g xs n → s.actor ≡ n → n < length g.actors → HasRows l contents g n s.rows
    → AreFirstRows l contents g (xs ++ s ∷ []) (n + 1)
first_rows_more l contents g xs n s are is within has = record {
  rows = λ a lt. ⊎_elim
      (λ (lower : a < n). subst (HasRows l contents g a) (sym (rows_same xs s a (λ e. let both : n ≡ a = sym is ∙ e in absurd (omega (arith, both, lower))))) (are.rows a lower))
      (λ (e : a ≡ n). subst (λ z. HasRows l contents g z (rows_for (xs ++ s ∷ []) z)) (sym e) (subst (HasRows l contents g n) (sym (rows_new xs s n is (are.past n (omega arith)))) has))
      (cases a n lt);
  past = λ a le. rows_same xs s a (λ e. let both : n ≡ a = sym is ∙ e in absurd (omega (arith, both, le))) ∙ are.past a (omega (arith, le));
  actors = each_push (IsOfActors (length g.actors)) xs s are.actors (subst (λ z. z < length g.actors) (sym is) within);
  count = length_push xs s ∙ ap (λ z. z + 1) are.count;
  places = λ k z at. ⊎_elim (λ (old : slice_get xs k ≡ Some z). are.places k z old) (λ (new : (k ≡ length xs) × (z ≡ s)). ap (λ (e : SensorRows). e.actor) new.1 ∙ (is ∙ (sym are.count ∙ sym new.0))) (pushed_at xs s k z at);
}

-- past the last actor nobody has rows
all_rows : (l : LateRows) (contents : Contents) (g : Graph) (xs : List SensorRows) (n : ℕ) → AreFirstRows l contents g xs n → length g.actors ≤ n → (a : ℕ) → HasRows l contents g a (rows_for xs a)
all_rows l contents g xs n are whole a = by_test (nat_lt a n) refl
  where
    nobody : (m : LateRows) (rows : List Row) → rows ≡ [] → RowsPass m g.until no_actor.kind rows
    nobody late.Refused rows none = tt
    nobody late.Taken rows none = tt

    by_test : (b : Bool) → nat_lt a n ≡ b → HasRows l contents g a (rows_for xs a)
    by_test true e = are.rows a (grind (arith, nat_tests))
    by_test false e =
        let le : n ≤ a = grind (arith, nat_tests) in
        let past : length g.actors ≤ a = omega (arith, le, whole) in
        let none = are.past a le in
        record {
          kind = subst (λ (x : Actor). RowsOfKind (file_limits g.claims) contents x.kind (rows_for xs a)) (sym (get_or_past g.actors a no_actor past)) none;
          passes = subst (λ (x : Actor). RowsPass l g.until x.kind (rows_for xs a)) (sym (get_or_past g.actors a no_actor past)) (nobody l (rows_for xs a) none);
          order = subst (RowsAreInOrder (file_limits g.claims)) (sym none) (record { most = omega arith; order = tt });
        }

pub are_rows : (l : LateRows) (contents : Contents) (g : Graph) (xs : List SensorRows) (n : ℕ) → AreFirstRows l contents g xs n → length g.actors ≤ n → AreRows contents g (rows_for xs)
are_rows l contents g xs n are whole a = (all_rows l contents g xs n are whole a).kind

pub all_pass : (l : LateRows) (contents : Contents) (g : Graph) (xs : List SensorRows) (n : ℕ) → AreFirstRows l contents g xs n → length g.actors ≤ n → AllPass l g (rows_for xs)
all_pass l contents g xs n are whole a = (all_rows l contents g xs n are whole a).passes

pub stand_in_place : (l : LateRows) (contents : Contents) (g : Graph) (xs : List SensorRows) (n : ℕ) → AreFirstRows l contents g xs n → n ≡ length g.actors → StandInPlace g xs
stand_in_place l contents g xs n are whole = record { count = are.count ∙ whole; places = are.places }

pub fit_rows : (contents : Contents) (g : Graph) (xs : List SensorRows) (n : ℕ) → AreFirstRows late.Refused contents g xs n → length g.actors ≤ n → FitRows g (of_run g (rows_for xs))
fit_rows contents g xs n are whole = all_fit (file_limits g.claims) contents g (rows_for xs) (λ a. (all_rows late.Refused contents g xs n are whole a).kind) (λ a. (all_rows late.Refused contents g xs n are whole a).passes) (λ a. (all_rows late.Refused contents g xs n are whole a).order)

-- a fault of a sensor's file
pub rows_fail : (limits : FileLimits) (contents : Contents) (actor : ℕ) (file : List ℕ) (f : RowFault) (r : SourceCall) → (f ≢ row.Memory → OfBytes (contents file) (λ bytes. rows_of limits bytes ≡ Err f))
    → CauseOfFile limits actor (fault_of_sensor actor f) contents file r
rows_fail limits contents actor file row.Memory r h = tt
rows_fail limits contents actor file row.TooLong r h = (refl, h (λ e. absurd cc))
rows_fail limits contents actor file row.Header r h = (refl, h (λ e. absurd cc))
rows_fail limits contents actor file (row.Fields n) r h = (refl, h (λ e. absurd cc))
rows_fail limits contents actor file (row.Number n) r h = (refl, h (λ e. absurd cc))
rows_fail limits contents actor file (row.TimeOrder n) r h = (refl, h (λ e. absurd cc))
rows_fail limits contents actor file (row.SeenOrder n) r h = (refl, h (λ e. absurd cc))
rows_fail limits contents actor file (row.SeenEarly n) r h = (refl, h (λ e. absurd cc))
rows_fail limits contents actor file row.TooManyRows r h = (refl, h (λ e. absurd cc))

-- the file's fault is the actor's
pub file_fails : (l : LateRows) (contents : Contents) (g : Graph) (actor : ℕ) (file : List ℕ) (bound : ℕ) (f : RecordedFault) (r : SourceCall) → kind_of g actor ≡ Sensor file bound → CauseOfFile (file_limits g.claims) actor f contents file r → CauseOfActor l f contents g actor r
file_fails l contents g actor file bound fault.Memory r kind h = tt
file_fails l contents g actor file bound (fault.Read named) r kind h = (h.0, (file, bound, kind, h.1))
file_fails l contents g actor file bound (fault.Sensor named f) r kind h = (h.0, (file, bound, kind, h.1))
file_fails l contents g actor file bound (fault.Late named row seen limit) r kind h = absurd h

-- the actors before have rows
have_rows : (l : LateRows) (contents : Contents) (g : Graph) (xs : List SensorRows) (n : ℕ) → AreFirstRows l contents g xs n → HaveRows l contents g n
have_rows l contents g xs n are a lt = (rows_for xs a, (are.rows a lt).kind, (are.rows a lt).passes)

-- why one actor gave no rows, after the actors before it gave theirs
module _ (l : LateRows) (contents : Contents) (g : Graph) (xs : List SensorRows) (n : ℕ) (first asked now : Option (List (List ℕ))) (start before last : ℕ) where
  abbrev late_reading : SourceCall
  late_reading = record { asked_before = asked; asked_now = now; before = before; now = last }

  abbrev whole_reading : SourceCall
  whole_reading = record { asked_before = first; asked_now = now; before = start; now = last }

  unread : AreFirstRows l contents g xs n → Asks first asked (files_before g n) → start ≤ before → IsSensorWith g n (λ file bound. ReadFails [] file late_reading) → SensorUnread l contents g n [] whole_reading
  unread are asks grew cause = record {
    earlier = have_rows l contents g xs n are;
    file = cause.0;
    bound = cause.1;
    sensor = cause.2;
    failed = subst (λ others. ReadFails others cause.0 whole_reading) (append_none (files_before g n))
        (read_after (files_before g n) [] cause.0 first asked now start before last asks grew cause.3);
  }

  by_fault : (f : RecordedFault) → AreFirstRows l contents g xs n → Asks first asked (files_before g n) → start ≤ before → CauseOfActor l f contents g n late_reading → CauseOfRows l f contents g [] whole_reading
  by_fault fault.Memory are asks grew cause = tt
  by_fault (fault.Read named) are asks grew cause = subst (λ a. SensorUnread l contents g a [] whole_reading) (sym cause.0) (unread are asks grew cause.1)
  by_fault (fault.Sensor named f) are asks grew cause =
      subst (λ a. SensorFails l contents g a f) (sym cause.0) (record { earlier = have_rows l contents g xs n are; file = cause.1.0; bound = cause.1.1; sensor = cause.1.2; fails = cause.1.3 })
  by_fault (fault.Late named row seen limit) are asks grew cause = (
    cause.1,
    subst (λ a. SensorLate contents g a row seen limit) (sym cause.0) (record {
      earlier = subst (λ m. HaveRows m contents g n) cause.1 (have_rows l contents g xs n are);
      file = cause.2.0;
      bound = cause.2.1;
      sensor = cause.2.2;
      rows = cause.2.3.0;
      read = cause.2.3.1;
      is_late = cause.2.3.2;
    }),
  )

pub later : (l : LateRows) (contents told : Contents) (g : Graph) (xs : List SensorRows) (n : ℕ) (first asked now : Option (List (List ℕ))) (start before last : ℕ) (f : RecordedFault) → told ≡ contents → AreFirstRows l contents g xs n → Asks first asked (files_before g n) → start ≤ before
    → CauseOfActor l f told g n (record { asked_before = asked; asked_now = now; before = before; now = last }) → CauseOfRows l f contents g [] (record { asked_before = first; asked_now = now; before = start; now = last })
later l contents told g xs n first asked now start before last f same are asks grew cause =
    by_fault l contents g xs n first asked now start before last f are asks grew (subst (λ t. CauseOfActor l f t g n (record { asked_before = asked; asked_now = now; before = before; now = last })) same cause)
