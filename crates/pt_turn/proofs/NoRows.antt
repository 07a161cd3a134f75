-- Where no row is due.
use Rattle.std.proofs.Common.{◌≡◌, ℕ, suc, ◌+◌, ◌<◌, ◌≤◌, ◌==◌, true, false, List, [], ◌∷◌, ◌++◌, Some, ℤ, length, drop, get_or, map, unwrap_or, refl, sym, ap, subst, ◌∙◌, ⊎_elim, eqb-true, arith}
use Rattle.std.proofs.lemmas.Bool.{cases_Bool}
use Rattle.std.proofs.lemmas.Bool.Decides.{nat_tests}
use Rattle.std.specs.List.{flat_map, range_with_len}
use Rattle.pt_types.specs.declared.graph.Graph.{Graph}
use Rattle.pt_types.specs.declared.rows.Row.{Row}
use Rattle.pt_types.specs.declared.rows.RowAt.{RowAt}
use Rattle.pt_types.specs.Ports.{when}
use Rattle.pt_semantics.specs.Entering.{after_rows, all_due, due, not_due}
use Rattle.pt_semantics.specs.Lists.{first_of, or_else}
use Rattle.pt_semantics.specs.Meaning.{Values, added, row_at}
use Rattle.pt_semantics.specs.Platform.{State}
use Rattle.pt_semantics.proofs.Lookups.{or_else_none, when_none}
use Rattle.pt_laws.proofs.Rows.{due_split}
use Rattle.pt_turn.specs.declared.state.fields.Sensor.{Sensor}
use Rattle.pt_turn.specs.Fields.State.{left_in, rows_left}
use Rattle.pt_turn.proofs.Enters.Sensors.{no_sensor}

-- none enters,
pub none_enters : (left : ℕ → List Row) (r : ℕ) → ((a : ℕ) → due r (left a) ≡ []) → (xs : List ℕ) → flat_map (λ c. map {B = RowAt} (λ (z : Row). record { sensor = c; row = z }) (due r (left c))) xs ≡ []
none_enters left r none [] = refl
none_enters left r none (a ∷ xs) = ap (λ d. map {B = RowAt} (λ (z : Row). record { sensor = a; row = z }) d ++ flat_map (λ c. map {B = RowAt} (λ (z : Row). record { sensor = c; row = z }) (due r (left c))) xs) (none a) ∙ none_enters left r none xs

-- which changes nothing
pub rows_stay : (s : State) (r : ℕ) → ((a : ℕ) → due r (s.left a) ≡ []) → after_rows s r ≡ s
rows_stay s r none =
    let waits : ◌≡◌ {A = Values} (added s.waits (λ a p t. when (p == 0) (row_at (due r (s.left a)) t))) s.waits =
    λ k a p t. (ap (λ d. or_else (s.waits a p t) (when (p == 0) (row_at d t))) (none a) ∙ ap (or_else (s.waits a p t)) (when_none ℤ (p == 0)) ∙ or_else_none (s.waits a p t)) k in
    let left : ◌≡◌ {A = ℕ → List Row} (λ a. not_due r (s.left a)) s.left =
    λ k a. (sym (ap (λ d. d ++ not_due r (s.left a)) (none a)) ∙ due_split r (s.left a)) k in
    λ k. record s { waits = waits k; left = left k }

pub none_due : (g : Graph) (r : ℕ) (left : ℕ → List Row) → ((a : ℕ) → due r (left a) ≡ []) → all_due g r left ≡ []
none_due g r left none = none_enters left r none (range_with_len 0 (length g.actors))

-- a list of sensors, the first of which is asked for or another
first_left : (s : Sensor) (ss : List Sensor) (a : ℕ) → (s.actor == a) ≡ true → left_in (s ∷ ss) a ≡ drop s.entered s.rows
first_left s ss a e = ap (λ b. unwrap_or (or_else (when b (Some (drop s.entered s.rows))) (first_of (rows_left a) ss)) []) e

other_left : (s : Sensor) (ss : List Sensor) (a : ℕ) → (s.actor == a) ≡ false → left_in (s ∷ ss) a ≡ left_in ss a
other_left s ss a e = ap (λ b. unwrap_or (or_else (when b (Some (drop s.entered s.rows))) (first_of (rows_left a) ss)) []) e

-- none is due of the sensor at a place
abbrev pub NoneAt : ℕ → List Sensor → ℕ → Type 0
NoneAt r ss k = due r (drop (get_or ss k no_sensor).entered (get_or ss k no_sensor).rows) ≡ []

below_one : (k i : ℕ) → (k == i) ≡ false → k < i + 1 → k < i
below_one k i e lt = grind (arith, nat_tests)

-- one sensor more
pub none_more : (ss : List Sensor) (least next new i : ℕ) → new ≤ least → new ≤ next → ((r k : ℕ) → r < least → k < i → NoneAt r ss k) → ((r : ℕ) → r < next → NoneAt r ss i) → (r k : ℕ) → r < new → k < i + 1 → NoneAt r ss k
none_more ss least next new i first second before one r k lt within =
    ⊎_elim
    (λ (e : (k == i) ≡ true). subst (NoneAt r ss) (sym (eqb-true k i e)) (one r (omega (arith, lt, second))))
    (λ (e : (k == i) ≡ false). before r k (omega (arith, lt, first)) (below_one k i e within))
    (cases_Bool (k == i))

-- where none is due of each sensor, none is of any actor
pub none_left : (r : ℕ) (ss : List Sensor) → ((k : ℕ) → k < length ss → NoneAt r ss k) → (a : ℕ) → due r (left_in ss a) ≡ []
none_left r [] none a = refl
none_left r (s ∷ ss) none a =
    ⊎_elim
    (λ (e : (s.actor == a) ≡ true). ap (due r) (first_left s ss a e) ∙ none 0 (omega arith))
    (λ (e : (s.actor == a) ≡ false). ap (due r) (other_left s ss a e) ∙ none_left r ss (λ k lt. none (suc k) (omega (arith, lt))) a)
    (cases_Bool (s.actor == a))
