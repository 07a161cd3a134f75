-- Open claims: one is closed, one is found, and one more is made. And numbers of actors: one is set.
use Rattle.std.proofs.Common.{◌≡◌, ℕ, zero, suc, ◌+◌, ◌⊎◌, ◌==◌, ◌<◌, Bool, true, false, not, cond, List, [], ◌∷◌, ◌++◌, Option, Some, None, ℤ, pos, filter, get_or, set, length, slice_index_or, remove, refl, sym, ap, ap₂, subst, ◌∙◌, inl, inr, ⊎_elim, if◌then◌else◌, eqb-true, eq-eqb, get_or-set_same, get_or-set_other, take, arith}
use Rattle.std.specs.Option.{is_some}
use Rattle.std.proofs.lemmas.Bool.{cases_Bool, false≢true, cond-true, cond-false}
use Rattle.std.proofs.lemmas.List.{take_more}
use Rattle.pt_types.specs.declared.graph.Graph.{Graph}
use Rattle.pt_types.specs.declared.graph.Unit.{Unit}
use Rattle.pt_types.specs.declared.firing.Task.{Task}
use Rattle.pt_types.specs.Ports.{when}
use Rattle.pt_semantics.specs.Lists.{or_else, IsIn, Each}
use Rattle.pt_semantics.specs.Meaning.{put_state}
use Rattle.pt_semantics.specs.Platform.{put_busy}
use Rattle.pt_semantics.specs.Units.{same_part, unit_of}
use Rattle.pt_semantics.proofs.Lookups.{when_found, first_of_found, first_of-append, none_some, or_else_none, same_some, same_part-true, same_part-refl, same_part_not, Each-append, Each-in, Each-from, IsIn-append}
use Rattle.pt_causality.specs.Units.{IsUnit}
use Rattle.pt_turn.specs.declared.state.fields.OpenClaim.{OpenClaim}
use Rattle.pt_turn.specs.Fields.Others.{is_other, IsPlaceOf}
use Rattle.pt_turn.specs.Fields.Unposted.{AreOfDifferentUnits}
use Rattle.pt_turn.specs.Fields.State.{busy_in, states_in, IsOpen, IsFound}

-- the claims of the other units
abbrev pub others : Unit → List OpenClaim → List OpenClaim
others u claims = filter (λ (o : OpenClaim). not (same_part o.unit u)) claims

part_sym : (u v : Unit) → same_part u v ≡ false → same_part v u ≡ false
part_sym u v h = same_part_not v u (λ e. false≢true (sym h ∙ subst (λ z. same_part z v ≡ true) e (same_part-refl v)))

none_either : (b : Bool) → ◌≡◌ {A = Option Task} (if b then None else None) None
none_either true = refl
none_either false = refl

one : (o : OpenClaim) (ys : List OpenClaim) (c : Bool) (v : Unit) → busy_in (cond c (o ∷ ys) ys) v ≡ or_else (when c (when (same_part o.unit v) (Some o.task))) (busy_in ys v)
one o ys true v = refl
one o ys false v = refl

join : (b c d : Bool) (x y : Option Task) → (b ≡ true → c ≡ true → d ≡ true) → (c ≡ true → d ≡ true → b ≡ true) → (b ≡ true → d ≡ true → c ≡ true) → or_else (when (not b) (when d x)) (if c then None else y) ≡ (if c then None else or_else (when d x) y)
join true true d x y f h k = refl
join true false true x y f h k = absurd (false≢true (k refl refl))
join true false false x y f h k = refl
join false true true x y f h k = absurd (false≢true (h refl refl))
join false true false x y f h k = refl
join false false d x y f h k = refl

at_others : (u : Unit) (claims : List OpenClaim) (v : Unit) → busy_in (others u claims) v ≡ put_busy (busy_in claims) u None v
at_others u [] v = sym (none_either (same_part u v))
at_others u (o ∷ os) v =
    one o (others u os) (not (same_part o.unit u)) v
    ∙ ap (or_else (when (not (same_part o.unit u)) (when (same_part o.unit v) (Some o.task)))) (at_others u os v)
    ∙ join (same_part o.unit u) (same_part u v) (same_part o.unit v) (Some o.task) (busy_in os v)
    (λ b c. subst (λ z. same_part o.unit z ≡ true) (same_part-true u v c) b)
    (λ c d. subst (λ z. same_part o.unit z ≡ true) (sym (same_part-true u v c)) d)
    (λ b d. subst (λ z. same_part z v ≡ true) (same_part-true o.unit u b) d)

pub busy_others : (u : Unit) (claims : List OpenClaim) → busy_in (others u claims) ≡ put_busy (busy_in claims) u None
busy_others u claims = λ i v. at_others u claims v i

filter_in : (test : OpenClaim → Bool) (xs : List OpenClaim) (x : OpenClaim) → IsIn x (filter test xs) → IsIn x xs × (test x ≡ true)
filter_in test [] x mem = absurd mem
filter_in test (y ∷ ys) x mem = step (test y) refl mem (filter_in test ys x)
  where
    step : (b : Bool) → test y ≡ b → IsIn x (cond b (y ∷ filter test ys) (filter test ys)) → (IsIn x (filter test ys) → IsIn x ys × (test x ≡ true)) → IsIn x (y ∷ ys) × (test x ≡ true)
    step true is m f = ⊎_elim (λ (s : x ≡ y). (inl s, ap test s ∙ is)) (λ (r : IsIn x (filter test ys)). let q = f r in (inr q.0, q.1)) m
    step false is m f = let q = f m in (inr q.0, q.1)

not_false : (b : Bool) → not b ≡ true → b ≡ false
not_false true h = absurd (false≢true h)
not_false false h = refl

-- what is left is still found
pub sound_others : (g : Graph) (u : Unit) (claims : List OpenClaim) → Each (IsOpen g claims) claims → Each (IsOpen g (others u claims)) (others u claims)
sound_others g u claims h = Each-from (IsOpen g (others u claims)) (others u claims) (λ o mem.
    let m = filter_in (λ (x : OpenClaim). not (same_part x.unit u)) claims o mem in
    let was : IsOpen g claims o = Each-in (IsOpen g claims) claims h o m.0 in
    record { unit = was.unit; is_unit = was.is_unit; found = at_others u claims o.unit ∙ cond-false (same_part u o.unit) None (busy_in claims o.unit) (part_sym o.unit u (not_false (same_part o.unit u) m.1)) ∙ was.found })

-- an open claim that was found
pub found_is : (g : Graph) (claims : List OpenClaim) (task : Task) (u : Unit) → Each (IsOpen g claims) claims → IsFound claims task (Some u) → (u ≡ unit_of g task) × (busy_in claims (unit_of g task) ≡ Some task)
found_is g claims task u h f =
    let was : IsOpen g claims f.0 = Each-in (IsOpen g claims) claims h f.0 f.1 in
    let unit : f.0.unit ≡ unit_of g task = was.unit ∙ ap (unit_of g) f.3 in
    (sym f.2 ∙ unit, ap (busy_in claims) (sym unit) ∙ was.found ∙ ap Some f.3)

pub not_found : (g : Graph) (claims : List OpenClaim) (task : Task) → IsFound claims task None → busy_in claims (unit_of g task) ≡ Some task → ⊥
not_found g claims task none h =
    let f = first_of_found (λ (o : OpenClaim). when (same_part o.unit (unit_of g task)) (Some o.task)) claims task h in
    none f.0 f.1 (same_some f.0.task task (when_found (same_part f.0.unit (unit_of g task)) (Some f.0.task) task f.2).1)

-- one number is set
pub states_set : (states : List ℤ) (a : ℕ) (q : ℤ) → a < length states → states_in (set states a q) ≡ put_state (states_in states) a q
states_set states a q lt = λ i b. at b i
  where
    at : (b : ℕ) → states_in (set states a q) b ≡ put_state (states_in states) a q b
    at b =
        ⊎_elim
        (λ (y : (b == a) ≡ true). ap (states_in (set states a q)) (eqb-true b a y) ∙ get_or-set_same states a q (pos 0) lt ∙ sym (cond-true (b == a) q (states_in states b) y))
        (λ (n : (b == a) ≡ false). get_or-set_other states a b q (pos 0) (λ e. false≢true (sym n ∙ eq-eqb b a e)) ∙ sym (cond-false (b == a) q (states_in states b) n))
        (cases_Bool (b == a))

-- members of a list read one by one
pub in_more : (xs : List OpenClaim) (i : ℕ) (d o : OpenClaim) → i < length xs → IsIn o (take (i + 1) xs) → IsIn o (take i xs) ⊎ (o ≡ get_or xs i d)
in_more xs i d o lt mem =
    ⊎_elim (λ (l : IsIn o (take i xs)). inl l) (λ (r : IsIn o (get_or xs i d ∷ [])). ⊎_elim (λ (s : o ≡ get_or xs i d). inr s) (λ (n : ⊥). absurd n) r)
    (IsIn-append o (take i xs) (get_or xs i d ∷ []) (subst (IsIn o) (take_more xs i d lt) mem))

pub read_in : (xs : List OpenClaim) (i : ℕ) (d : OpenClaim) → i < length xs → IsIn (get_or xs i d) xs
read_in [] i d lt = absurd (omega arith)
read_in (x ∷ xs) zero d lt = inl refl
read_in (x ∷ xs) (suc i) d lt = inr (read_in xs i d (omega arith))

-- one claim more
pub busy_push : (claims : List OpenClaim) (o : OpenClaim) → busy_in claims o.unit ≡ None → busy_in (claims ++ o ∷ []) ≡ put_busy (busy_in claims) o.unit (Some o.task)
busy_push claims o free = λ i v. at v i
  where
    at : (v : Unit) → busy_in (claims ++ o ∷ []) v ≡ put_busy (busy_in claims) o.unit (Some o.task) v
    at v =
        first_of-append (λ (x : OpenClaim). when (same_part x.unit v) (Some x.task)) claims (o ∷ [])
        ∙ ⊎_elim
        (λ (y : same_part o.unit v ≡ true).
        ap₂ or_else (ap (busy_in claims) (sym (same_part-true o.unit v y)) ∙ free) (ap (λ b. or_else (when b (Some o.task)) None) y)
        ∙ sym (cond-true (same_part o.unit v) (Some o.task) (busy_in claims v) y))
        (λ (n : same_part o.unit v ≡ false).
        ap (or_else (busy_in claims v)) (ap (λ b. or_else (when b (Some o.task)) None) n) ∙ or_else_none (busy_in claims v)
        ∙ sym (cond-false (same_part o.unit v) (Some o.task) (busy_in claims v) n))
        (cases_Bool (same_part o.unit v))

pub sound_push : (g : Graph) (claims : List OpenClaim) (o : OpenClaim) → Each (IsOpen g claims) claims → busy_in claims o.unit ≡ None → o.unit ≡ unit_of g o.task → IsUnit g o.unit → Each (IsOpen g (claims ++ o ∷ [])) (claims ++ o ∷ [])
sound_push g claims o sound free unit is =
    Each-append (IsOpen g (claims ++ o ∷ [])) claims (o ∷ [])
    (Each-from (IsOpen g (claims ++ o ∷ [])) claims (λ x mem.
    let was : IsOpen g claims x = Each-in (IsOpen g claims) claims sound x mem in
    record { unit = was.unit; is_unit = was.is_unit; found = first_of-append (λ (y : OpenClaim). when (same_part y.unit x.unit) (Some y.task)) claims (o ∷ []) ∙ ap (λ z. or_else z (busy_in (o ∷ []) x.unit)) was.found }))
    (record { unit = unit; is_unit = is; found = ap (λ f. f o.unit) (busy_push claims o free) ∙ cond-true (same_part o.unit o.unit) (Some o.task) (busy_in claims o.unit) (same_part-refl o.unit) }, tt)

pub states_set_as : (states : List ℤ) (a : ℕ) (q r : ℤ) → a < length states → r ≡ q → states_in (set states a r) ≡ put_state (states_in states) a q
states_set_as states a q r lt is = ap (λ z. states_in (set states a z)) is ∙ states_set states a q lt

-- where all claims are others', none goes
kept : (u : Unit) (claims : List OpenClaim) → Each (λ (o : OpenClaim). is_other u o ≡ true) claims → claims ≡ others u claims
kept u [] h = refl
kept u (o ∷ os) h = ap (λ xs. o ∷ xs) (kept u os h.1) ∙ ap (λ b. cond b (o ∷ others u os) (others u os)) (sym h.0)

all_others : (u : Unit) (claims : List OpenClaim) → IsPlaceOf claims u None → Each (λ (o : OpenClaim). is_other u o ≡ true) claims
all_others u [] h = tt
all_others u (o ∷ os) h = (h 0 o (omega arith) refl, all_others u os (λ k c l is. h (suc k) c (omega (arith, l)) is))

pub none_goes : (u : Unit) (claims : List OpenClaim) → IsPlaceOf claims u None → claims ≡ others u claims
none_goes u claims h = kept u claims (all_others u claims h)

not_true : (b : Bool) → not b ≡ false → b ≡ true
not_true true h = refl
not_true false h = absurd (false≢true (sym h))

-- another claim's unit is another
other_back : (o c : OpenClaim) (u : Unit) → is_other o.unit c ≡ true → is_other u c ≡ false → is_other u o ≡ true
other_back o c u h g =
    let unit : c.unit ≡ u = same_part-true c.unit u (not_true (same_part c.unit u) g) in
    ap not (part_sym u o.unit (subst (λ v. same_part v o.unit ≡ false) unit (not_false (same_part c.unit o.unit) h)))

read_again : (xs : List OpenClaim) (k : ℕ) (d e : OpenClaim) → k < length xs → slice_index_or xs k d ≡ slice_index_or xs k e
read_again [] k d e l = absurd (omega (arith, l))
read_again (x ∷ xs) zero d e l = refl
read_again (x ∷ xs) (suc k) d e l = read_again xs k d e (omega (arith, l))

-- no other claim of the unit goes with the one that stands at its place
pub one_goes : (u : Unit) (claims : List OpenClaim) (k : ℕ) → AreOfDifferentUnits claims → IsPlaceOf claims u (Some k) → remove claims k ≡ others u claims
one_goes u [] k apart h = absurd (omega (arith, h.0))
one_goes u (o ∷ os) zero apart h =
    let here : is_other u o ≡ false = h.1 o refl in
    let unit : o.unit ≡ u = same_part-true o.unit u (not_true (same_part o.unit u) here) in
    kept u os (subst (λ v. Each (λ (x : OpenClaim). is_other v x ≡ true) os) unit apart.0) ∙ ap (λ b. cond b (o ∷ others u os) (others u os)) (sym here)
one_goes u (o ∷ os) (suc k) apart h =
    let below : k < length os = omega (arith, h.0) in
    let c : OpenClaim = slice_index_or os k o in
    let other : is_other o.unit c ≡ true = Each-in (λ (x : OpenClaim). is_other o.unit x ≡ true) os apart.0 c (read_in os k o below) in
    let at : is_other u c ≡ false = h.1 c (read_again os k c o below) in
    ap (λ xs. o ∷ xs) (one_goes u os k apart.1 (below, h.1)) ∙ ap (λ b. cond b (o ∷ others u os) (others u os)) (sym (other_back o c u other at))

-- what is left is still apart
each_left : (P : OpenClaim → Type 0) (c : Bool) (o : OpenClaim) (ys : List OpenClaim) → P o → Each P ys → Each P (cond c (o ∷ ys) ys)
each_left P true o ys h hs = (h, hs)
each_left P false o ys h hs = hs

each_others : (P : OpenClaim → Type 0) (u : Unit) (claims : List OpenClaim) → Each P claims → Each P (others u claims)
each_others P u [] h = tt
each_others P u (o ∷ os) h = each_left P (is_other u o) o (others u os) h.0 (each_others P u os h.1)

apart_left : (c : Bool) (o : OpenClaim) (ys : List OpenClaim) → Each (λ (x : OpenClaim). is_other o.unit x ≡ true) ys → AreOfDifferentUnits ys → AreOfDifferentUnits (cond c (o ∷ ys) ys)
apart_left true o ys h hs = (h, hs)
apart_left false o ys h hs = hs

pub apart_others : (u : Unit) (claims : List OpenClaim) → AreOfDifferentUnits claims → AreOfDifferentUnits (others u claims)
apart_others u [] h = tt
apart_others u (o ∷ os) h = apart_left (is_other u o) o (others u os) (each_others (λ (x : OpenClaim). is_other o.unit x ≡ true) u os h.0) (apart_others u os h.1)

-- a claim of a unit that has none is apart from all
free_first : (b : Bool) (t : Task) (rest : Option Task) → or_else (when b (Some t)) rest ≡ None → (not b ≡ true) × (rest ≡ None)
free_first true t rest h = absurd (none_some t (sym h))
free_first false t rest h = (refl, h)

pub apart_push : (claims : List OpenClaim) (c : OpenClaim) → AreOfDifferentUnits claims → busy_in claims c.unit ≡ None → AreOfDifferentUnits (claims ++ c ∷ [])
apart_push [] c apart free = (tt, tt)
apart_push (o ∷ os) c apart free =
    let two = free_first (same_part o.unit c.unit) o.task (busy_in os c.unit) free in
    let other : is_other o.unit c ≡ true = ap not (part_sym o.unit c.unit (not_false (same_part o.unit c.unit) two.0)) in
    (Each-append (λ (x : OpenClaim). is_other o.unit x ≡ true) os (c ∷ []) apart.0 (other, tt), apart_push os c apart.1 two.1)

-- whether a unit has an open claim, by where it stands
some_else : (x y : Option Task) → is_some y ≡ true → is_some (or_else x y) ≡ true
some_else (Some t) y h = refl
some_else None y h = h

pub busy_none : (u : Unit) (claims : List OpenClaim) → IsPlaceOf claims u None → busy_in claims u ≡ None
busy_none u [] h = refl
busy_none u (o ∷ os) h = ap (λ b. or_else (when b (Some o.task)) (busy_in os u)) (not_false (same_part o.unit u) (h 0 o (omega arith) refl)) ∙ busy_none u os (λ k c l is. h (suc k) c (omega (arith, l)) is)

pub busy_some : (u : Unit) (claims : List OpenClaim) (k : ℕ) → IsPlaceOf claims u (Some k) → is_some (busy_in claims u) ≡ true
busy_some u [] k h = absurd (omega (arith, h.0))
busy_some u (o ∷ os) zero h = ap (λ b. is_some (or_else (when b (Some o.task)) (busy_in os u))) (not_true (same_part o.unit u) (h.1 o refl))
busy_some u (o ∷ os) (suc k) h = some_else (when (same_part o.unit u) (Some o.task)) (busy_in os u) (busy_some u os k (omega (arith, h.0), h.1))

pub busy_place : (u : Unit) (claims : List OpenClaim) (place : Option ℕ) → IsPlaceOf claims u place → is_some place ≡ is_some (busy_in claims u)
busy_place u claims None h = sym (ap is_some (busy_none u claims h))
busy_place u claims (Some k) h = sym (busy_some u claims k h)
