-- The rows that each platform gets.
use Rattle.std.proofs.Common.{◌≡◌, ◌==◌, ℕ, zero, suc, ◌+◌, ◌<◌, ◌≤◌, Bool, true, false, not, if◌then◌else◌, List, [], ◌∷◌, ◌++◌, Option, Some, None, length, map, filter, filter_map, slice_get, unwrap_or, refl, sym, ap, ap₂, subst, ◌∙◌, arith, eqb-true, eq-eqb, ne_eqb, option_to_list}
use Rattle.std.proofs.lemmas.Bool.{cond-true, cond-false}
use Rattle.std.proofs.lemmas.List.{append-nil}
use Rattle.pt_types.specs.declared.graph.Graph.{Graph}
use Rattle.pt_types.specs.declared.rows.Row.{Row}
use Rattle.pt_types.specs.Ports.{when}
use Rattle.pt_sensors.specs.declared.sensor_rows.SensorRows.{SensorRows}
use Rattle.pt_types.specs.Lookups.{platform_of}
use Rattle.pt_semantics.specs.Lists.{Each, first_of, or_else}
use Rattle.pt_semantics.specs.Meaning.{rows_until}
use Rattle.pt_semantics.specs.Rows.{FitRows, FitsRow, NeverFalls, TimesRise}
use Rattle.pt_turn.specs.Fields.Sensors.{RiseFrom}
use Rattle.pt_turn.specs.Handed.{AreHanded, IsHanded, rows_handed, unentered}
use Rattle.pt_sensors.specs.Listed.{rows_for}
use Rattle.pt_sensors.specs.Places.{StandInPlace, of_run}
use Rattle.pt_turn.specs.Sharing.{cut_of, if_some, is_entry_on}

pub no_members : {X : Type 0} (xs : List X) → length xs ≡ 0 → xs ≡ []
no_members [] e = refl
no_members (x ∷ xs) e = absurd (omega (arith, e))

pub some_rows : (a : ℕ) (rows : List Row) → (rows ≡ [] → ⊥) → Some (record { actor = a; rows = rows }) ≡ if_some a rows
some_rows a [] some = absurd (some refl)
some_rows a (row ∷ rows) some = refl

-- an entry for platform i
abbrev pub own_of : Graph → ℕ → SensorRows → Option SensorRows
own_of g i s = if is_entry_on g i s then cut_of g s else None

-- the entries that platform i is handed
abbrev pub handed_to : Graph → ℕ → List SensorRows → List SensorRows
handed_to g i entries = filter_map (cut_of g) (filter (is_entry_on g i) entries)

-- from place k on the entries are those of the actors k, k + 1 and so on
abbrev pub StandFrom : ℕ → List SensorRows → Type 0
StandFrom k [] = Unit {0}
StandFrom k (s ∷ ss) = (s.actor ≡ k) × StandFrom (suc k) ss

stand_from : (k : ℕ) (xs : List SensorRows) → ((j : ℕ) (s : SensorRows) → slice_get xs j ≡ Some s → s.actor ≡ j + k) → StandFrom k xs
stand_from k [] h = tt
stand_from k (x ∷ xs) h = (let at = h zero x refl in omega (arith, at), stand_from (suc k) xs (λ j s at. let it = h (suc j) s at in omega (arith, it)))

pub all_stand : (g : Graph) (entries : List SensorRows) → StandInPlace g entries → StandFrom 0 entries
all_stand g entries h = stand_from 0 entries (λ j s at. let it = h.places j s at in omega (arith, it))

filtered_one : {X : Type 0} (f : X → Bool) (x : X) (xs : List X) (b : Bool) → f x ≡ b → filter f (x ∷ xs) ≡ (if b then x ∷ filter f xs else filter f xs)
filtered_one f x xs b e = rw e refl

mapped_one : {X Y : Type 0} (f : X → Option Y) (x : X) (xs : List X) (o : Option Y) → f x ≡ o → filter_map f (x ∷ xs) ≡ option_to_list o ++ filter_map f xs
mapped_one f x xs None e = rw e refl
mapped_one f x xs (Some y) e = rw e refl

-- the first entry is handed to the platform, or not
handed_one : (g : Graph) (i : ℕ) (s : SensorRows) (ss : List SensorRows) → handed_to g i (s ∷ ss) ≡ option_to_list (own_of g i s) ++ handed_to g i ss
handed_one g i s ss = by_test (is_entry_on g i s) refl
  where
    by_test : (b : Bool) → is_entry_on g i s ≡ b → handed_to g i (s ∷ ss) ≡ option_to_list (if b then cut_of g s else None) ++ handed_to g i ss
    by_test true e = ap (filter_map (cut_of g)) (filtered_one (is_entry_on g i) s ss true e) ∙ mapped_one (cut_of g) s (filter (is_entry_on g i) ss) (cut_of g s) refl
    by_test false e = ap (filter_map (cut_of g)) (filtered_one (is_entry_on g i) s ss false e)

each_as : {X : Type 0} (P Q : X → Type 0) (xs : List X) → ((x : X) → P x → Q x) → Each P xs → Each Q xs
each_as P Q [] f h = tt
each_as P Q (x ∷ xs) f h = (f x h.0, each_as P Q xs f h.1)

-- what holds of each entry of platform i with its rows up to the horizon holds of all that the platform is handed
handed_each : (P : SensorRows → Type 0) (g : Graph) (i : ℕ) (ss : List SensorRows) → Each (λ (s : SensorRows). is_entry_on g i s ≡ true → P (record { actor = s.actor; rows = rows_until g.until s.rows })) ss → Each P (handed_to g i ss)
handed_each P g i [] h = tt
handed_each P g i (s ∷ ss) h = subst (Each P) (sym (handed_one g i s ss)) (by_test (is_entry_on g i s) refl (handed_each P g i ss h.1))
  where
    by_rows : (rows : List Row) → P (record { actor = s.actor; rows = rows }) → Each P (handed_to g i ss) → Each P (option_to_list (if_some s.actor rows) ++ handed_to g i ss)
    by_rows [] p rest = rest
    by_rows (row ∷ rows) p rest = (p, rest)

    by_test : (b : Bool) → is_entry_on g i s ≡ b → Each P (handed_to g i ss) → Each P (option_to_list (if b then cut_of g s else None) ++ handed_to g i ss)
    by_test true e rest = by_rows (rows_until g.until s.rows) (h.0 e) rest
    by_test false e rest = rest

-- entries before place k have no rows in what stands from there on
lower : (k : ℕ) (ss : List SensorRows) (a : ℕ) → StandFrom k ss → a < k → rows_for ss a ≡ []
lower k [] a st lt = refl
lower k (s ∷ ss) a st lt =
    ap₂ (λ xs ys. xs ++ ys)
    (cond-false (s.actor == a) s.rows [] (ne_eqb s.actor a (λ e. let same : k ≡ a = sym st.0 ∙ e in absurd (omega (arith, same, lt)))))
    (lower (suc k) ss a st.1 (omega (arith, lt)))

-- each entry has the rows of its actor
pub record HasOwn (ss : List SensorRows) (low high : ℕ) (s : SensorRows) : Type 0 where
  pub least : low ≤ s.actor
  pub below : s.actor < high
  pub rows : rows_for ss s.actor ≡ s.rows

own_rows : (k : ℕ) (ss : List SensorRows) → StandFrom k ss → Each (HasOwn ss k (k + length ss)) ss
own_rows k [] st = tt
own_rows k (s ∷ ss) st = (
  record {
    least = omega (arith, st.0);
    below = omega (arith, st.0);
    rows = ap₂ (λ xs ys. xs ++ ys) (cond-true (s.actor == s.actor) s.rows [] (eq-eqb s.actor s.actor refl)) (lower (suc k) ss s.actor st.1 (omega (arith, st.0))) ∙ append-nil s.rows;
  },
  each_as (HasOwn ss (suc k) (suc k + length ss)) (HasOwn (s ∷ ss) k (k + length (s ∷ ss))) ss (λ z h. record {
    least = let le = h.least in omega (arith, le);
    below = let lt = h.below in omega (arith, lt);
    rows = ap (λ xs. xs ++ rows_for ss z.actor) (cond-false (s.actor == z.actor) s.rows [] (ne_eqb s.actor z.actor (λ e. let same : k ≡ z.actor = sym st.0 ∙ e in let le = h.least in absurd (omega (arith, same, le))))) ∙ h.rows;
  }) (own_rows (suc k) ss st.1),
)

rise_less : (m n : ℕ) (ss : List SensorRows) → m ≤ n → RiseFrom n (map unentered ss) → RiseFrom m (map unentered ss)
rise_less m n [] le h = tt
rise_less m n (s ∷ ss) le h = (let low = h.0 in omega (arith, le, low), h.1)

handed_rise : (g : Graph) (i k : ℕ) (ss : List SensorRows) → StandFrom k ss → RiseFrom k (map unentered (handed_to g i ss))
handed_rise g i k [] st = tt
handed_rise g i k (s ∷ ss) st = subst (λ z. RiseFrom k (map unentered z)) (sym (handed_one g i s ss)) (by_test (is_entry_on g i s) (handed_rise g i (suc k) ss st.1))
  where
    by_rows : (rows : List Row) → RiseFrom (suc k) (map unentered (handed_to g i ss)) → RiseFrom k (map unentered (option_to_list (if_some s.actor rows) ++ handed_to g i ss))
    by_rows [] rest = rise_less k (suc k) (handed_to g i ss) (omega arith) rest
    by_rows (row ∷ rows) rest = (omega (arith, st.0), subst (λ n. RiseFrom n (map unentered (handed_to g i ss))) (let at = st.0 in omega (arith, at)) rest)

    by_test : (b : Bool) → RiseFrom (suc k) (map unentered (handed_to g i ss)) → RiseFrom k (map unentered (option_to_list (if b then cut_of g s else None) ++ handed_to g i ss))
    by_test true rest = by_rows (rows_until g.until s.rows) rest
    by_test false rest = rise_less k (suc k) (handed_to g i ss) (omega arith) rest

pub are_handed : (g : Graph) (entries : List SensorRows) (i : ℕ) → StandInPlace g entries → FitRows g (of_run g (rows_for entries)) → AreHanded g i (handed_to g i entries)
are_handed g entries i places fit = (
  handed_rise g i 0 entries (all_stand g entries places),
  handed_each (IsHanded g i) g i entries
      (each_as (HasOwn entries 0 (0 + length entries)) (λ (s : SensorRows). is_entry_on g i s ≡ true → IsHanded g i (record { actor = s.actor; rows = rows_until g.until s.rows })) entries
      (λ s own here. record {
        there = let lt = own.below in let n = places.count in omega (arith, lt, n);
        home = eqb-true (platform_of g s.actor) i here;
        fit = subst (λ rows. Each (FitsRow g s.actor) (rows_until g.until rows)) own.rows (fit.fit s.actor);
        in_order = subst (λ rows. NeverFalls (rows_until g.until rows)) own.rows (fit.in_order s.actor);
        times = subst (λ rows. TimesRise (rows_until g.until rows)) own.rows (fit.times s.actor);
      })
      (own_rows 0 entries (all_stand g entries places))),
)

-- an entry of another actor has none of an actor's rows
rows_skip : (s : SensorRows) (ss : List SensorRows) (a : ℕ) → (s.actor == a) ≡ false → rows_handed (s ∷ ss) a ≡ rows_handed ss a
rows_skip s ss a e = ap (λ b. unwrap_or (or_else (when b (Some s.rows)) (first_of (λ (x : SensorRows). when (x.actor == a) (Some x.rows)) ss)) []) e

rows_found : (s : SensorRows) (ss : List SensorRows) (a : ℕ) → (s.actor == a) ≡ true → rows_handed (s ∷ ss) a ≡ s.rows
rows_found s ss a e = ap (λ b. unwrap_or (or_else (when b (Some s.rows)) (first_of (λ (x : SensorRows). when (x.actor == a) (Some x.rows)) ss)) []) e

-- what a platform is handed are the rows of the run of its own actors
handed_rows_from : (g : Graph) (i k : ℕ) (ss : List SensorRows) (a : ℕ) → StandFrom k ss → platform_of g a ≡ i → rows_handed (handed_to g i ss) a ≡ rows_until g.until (rows_for ss a)
handed_rows_from g i k [] a st home = refl
handed_rows_from g i k (s ∷ ss) a st home = ap (λ z. rows_handed z a) (handed_one g i s ss) ∙ by_actor (s.actor == a) refl (handed_rows_from g i (suc k) ss a st.1 home)
  where
    found : (s.actor == a) ≡ true → (rows : List Row) → rows_handed (handed_to g i ss) a ≡ [] → rows_handed (option_to_list (if_some s.actor rows) ++ handed_to g i ss) a ≡ rows
    found e [] rest = rest
    found e (row ∷ rows) rest = rows_found (record { actor = s.actor; rows = row ∷ rows }) (handed_to g i ss) a e

    skipped : (s.actor == a) ≡ false → (rows : List Row) → rows_handed (option_to_list (if_some s.actor rows) ++ handed_to g i ss) a ≡ rows_handed (handed_to g i ss) a
    skipped e [] = refl
    skipped e (row ∷ rows) = rows_skip (record { actor = s.actor; rows = row ∷ rows }) (handed_to g i ss) a e

    by_place : (s.actor == a) ≡ false → (b : Bool) → rows_handed (option_to_list (if b then cut_of g s else None) ++ handed_to g i ss) a ≡ rows_handed (handed_to g i ss) a
    by_place e true = skipped e (rows_until g.until s.rows)
    by_place e false = refl

    by_actor : (b : Bool) → (s.actor == a) ≡ b → rows_handed (handed_to g i ss) a ≡ rows_until g.until (rows_for ss a) → rows_handed (option_to_list (own_of g i s) ++ handed_to g i ss) a ≡ rows_until g.until ((if s.actor == a then s.rows else []) ++ rows_for ss a)
    by_actor true e rest =
        let same : s.actor ≡ a = eqb-true s.actor a e in
        let none : rows_for ss a ≡ [] = lower (suc k) ss a st.1 (let at = st.0 in omega (arith, at, same)) in
        let here : is_entry_on g i s ≡ true = eq-eqb (platform_of g s.actor) i (ap (platform_of g) same ∙ home) in
        ap (λ o. rows_handed (option_to_list o ++ handed_to g i ss) a) (cond-true (is_entry_on g i s) (cut_of g s) None here)
        ∙ (found e (rows_until g.until s.rows) (rest ∙ ap (rows_until g.until) none)
        ∙ ap (rows_until g.until) (sym (ap₂ (λ xs ys. xs ++ ys) (cond-true (s.actor == a) s.rows [] e) none ∙ append-nil s.rows)))
    by_actor false e rest = by_place e (is_entry_on g i s) ∙ (rest ∙ ap (λ xs. rows_until g.until (xs ++ rows_for ss a)) (sym (cond-false (s.actor == a) s.rows [] e)))

pub handed_rows : (g : Graph) (i : ℕ) (entries : List SensorRows) (a : ℕ) → StandInPlace g entries → platform_of g a ≡ i → rows_handed (handed_to g i entries) a ≡ of_run g (rows_for entries) a
handed_rows g i entries a places home = handed_rows_from g i 0 entries a (all_stand g entries places) home

-- without those of one platform, all of another are left
pub others_left : (g : Graph) (n k : ℕ) (xs : List SensorRows) → n < k → filter (is_entry_on g k) (filter (λ (s : SensorRows). not (is_entry_on g n s)) xs) ≡ filter (is_entry_on g k) xs
others_left g n k [] lt = refl
others_left g n k (x ∷ xs) lt = by_test (is_entry_on g n x) refl (others_left g n k xs lt)
  where
    by_test : (b : Bool) → is_entry_on g n x ≡ b → filter (is_entry_on g k) (filter (λ (s : SensorRows). not (is_entry_on g n s)) xs) ≡ filter (is_entry_on g k) xs → filter (is_entry_on g k) (filter (λ (s : SensorRows). not (is_entry_on g n s)) (x ∷ xs)) ≡ filter (is_entry_on g k) (x ∷ xs)
    by_test true e rest =
        let here : platform_of g x.actor ≡ n = eqb-true (platform_of g x.actor) n e in
        let away : is_entry_on g k x ≡ false = ne_eqb (platform_of g x.actor) k (λ same. absurd (omega (arith, here, same, lt))) in
        ap (filter (is_entry_on g k)) (filtered_one (λ (s : SensorRows). not (is_entry_on g n s)) x xs false (ap not e)) ∙ (rest ∙ sym (filtered_one (is_entry_on g k) x xs false away))
    by_test false e rest =
        ap (filter (is_entry_on g k)) (filtered_one (λ (s : SensorRows). not (is_entry_on g n s)) x xs true (ap not e))
        ∙ (filtered_one (is_entry_on g k) x (filter (λ (s : SensorRows). not (is_entry_on g n s)) xs) (is_entry_on g k x) refl
        ∙ (ap (λ ys. if is_entry_on g k x then x ∷ ys else ys) rest ∙ sym (filtered_one (is_entry_on g k) x xs (is_entry_on g k x) refl)))
