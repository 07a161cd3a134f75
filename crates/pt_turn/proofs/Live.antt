-- A platform may open with the entries of all its sensors, without rows.
use Rattle.std.proofs.Common.{◌≡◌, ℕ, zero, suc, ◌+◌, ◌<◌, ◌≤◌, ◌==◌, ◌⊎◌, Bool, true, false, if◌then◌else◌, List, [], ◌∷◌, ◌++◌, None, Option, Some, append-nil, append_assoc, filter_map, length, length-append, map, option_to_list, slice_get, unwrap_or, refl, sym, ap, subst, ◌∙◌, arith, eq-eqb, eqb-true, inl, inr, ⊎_elim}
use Rattle.std.proofs.Math.ListN.{get_or-eq_default}
use Rattle.std.proofs.lemmas.Bool.{cases_lt, false≢true}
use Rattle.std.specs.List.{range_with_len}
use Rattle.pt_types.specs.declared.graph.Graph.{Graph}
use Rattle.pt_types.specs.Lookups.{kind_of, platform_of}
use Rattle.pt_sensors.specs.declared.sensor_rows.SensorRows.{SensorRows}
use Rattle.pt_semantics.specs.Lists.{Each, IsIn, first_of, or_else}
use Rattle.pt_types.specs.Ports.{when}
use Rattle.pt_turn.specs.Fields.Sensors.{RiseFrom}
use Rattle.pt_types.specs.declared.graph.Actor.{Actor}
use Rattle.pt_types.specs.declared.kind.Kind.TheVariants.{Receive, Sensor as OfSensor}
use Rattle.pt_types.specs.Groups.{no_actor}
use Rattle.pt_offsets.specs.Plans.{Parts}
use Rattle.pt_turn.specs.declared.state.fields.Sensor.{Sensor}
use Rattle.pt_turn.specs.Fields.State.{rows_at_sensors}
use Rattle.pt_turn.specs.All.{AreReady}
use Rattle.pt_turn.specs.Platforms.{PlatformView}
use Rattle.pt_turn.proofs.HandedIn.{rows_same}
use Rattle.pt_turn.specs.Handed.{AreHanded, IsHanded, rows_handed, unentered}
use Rattle.pt_turn.specs.Live.{HaveSensors, empty_entries, empty_entry, is_sensor}

mapped_one : {X Y : Type 0} (f : X → Option Y) (x : X) (xs : List X) (o : Option Y) → f x ≡ o → filter_map f (x ∷ xs) ≡ option_to_list o ++ filter_map f xs
mapped_one f x xs None e = rw e refl
mapped_one f x xs (Some y) e = rw e refl

rise_less : (m n : ℕ) (ss : List SensorRows) → m ≤ n → RiseFrom n (map unentered ss) → RiseFrom m (map unentered ss)
rise_less m n [] le h = tt
rise_less m n (s ∷ ss) le h = (let low = h.0 in omega (arith, le, low), h.1)

-- from actor k on
abbrev from : Graph → ℕ → ℕ → ℕ → List SensorRows
from g i k n = filter_map (empty_entry g i) (range_with_len k n)

one_entry : ℕ → Bool → Bool → List SensorRows
one_entry k b c = option_to_list (if b then (if c then Some (record { actor = k; rows = [] }) else None) else None)

from_one : (g : Graph) (i k n : ℕ) → from g i k (suc n) ≡ one_entry k (platform_of g k == i) (is_sensor (kind_of g k)) ++ from g i (suc k) n
unfolding one_entry
from_one g i k n = mapped_one (empty_entry g i) k (range_with_len (k + 1) n) (empty_entry g i k) refl ∙ ap (λ m. one_entry k (platform_of g k == i) (is_sensor (kind_of g k)) ++ from g i m n) (omega arith)

rise_one : (k : ℕ) (b c : Bool) (ss : List SensorRows) → RiseFrom (suc k) (map unentered ss) → RiseFrom k (map unentered (one_entry k b c ++ ss))
unfolding one_entry
rise_one k true true ss later = (omega arith, subst (λ m. RiseFrom m (map unentered ss)) (omega arith) later)
rise_one k true false ss later = rise_less k (suc k) ss (omega arith) later
rise_one k false c ss later = rise_less k (suc k) ss (omega arith) later

rise : (g : Graph) (i k n : ℕ) → RiseFrom k (map unentered (from g i k n))
rise g i k zero = tt
rise g i k (suc n) = subst (λ z. RiseFrom k (map unentered z)) (sym (from_one g i k n)) (rise_one k (platform_of g k == i) (is_sensor (kind_of g k)) (from g i (suc k) n) (rise g i (suc k) n))

each_one : (g : Graph) (i k : ℕ) (b c : Bool) (ss : List SensorRows) → k < length g.actors → (platform_of g k == i) ≡ b → Each (IsHanded g i) ss → Each (IsHanded g i) (one_entry k b c ++ ss)
unfolding one_entry
each_one g i k true true ss there e later = (record { there = there; home = eqb-true (platform_of g k) i e; fit = tt; in_order = tt; times = tt }, later)
each_one g i k true false ss there e later = later
each_one g i k false c ss there e later = later

each : (g : Graph) (i k n : ℕ) → k + n ≤ length g.actors → Each (IsHanded g i) (from g i k n)
each g i k zero le = tt
each g i k (suc n) le = subst (Each (IsHanded g i)) (sym (from_one g i k n)) (each_one g i k (platform_of g k == i) (is_sensor (kind_of g k)) (from g i (suc k) n) (omega (arith, le)) refl (each g i (suc k) n (omega (arith, le))))

-- the entries of a platform's sensors, without rows
pub may_open_empty : (g : Graph) (i : ℕ) → AreHanded g i (empty_entries g i)
may_open_empty g i = (rise g i 0 (length g.actors), each g i 0 (length g.actors) (omega arith))

-- no actor has rows
none_one : (k a : ℕ) (b c : Bool) (ss : List SensorRows) → rows_handed ss a ≡ [] → rows_handed (one_entry k b c ++ ss) a ≡ []
unfolding one_entry
none_one k a true true ss none = by_actor (k == a)
  where
    by_actor : (b : Bool) → unwrap_or (or_else (when b (Some [])) (first_of (λ (s : SensorRows). when (s.actor == a) (Some s.rows)) ss)) [] ≡ []
    by_actor true = refl
    by_actor false = none
none_one k a true false ss none = none
none_one k a false c ss none = none

none_handed : (g : Graph) (i k n a : ℕ) → rows_handed (from g i k n) a ≡ []
none_handed g i k zero a = refl
none_handed g i k (suc n) a = ap (λ z. rows_handed z a) (from_one g i k n) ∙ none_one k a (platform_of g k == i) (is_sensor (kind_of g k)) (from g i (suc k) n) (none_handed g i (suc k) n a)

pub nothing_handed : (g : Graph) (i a : ℕ) → rows_handed (empty_entries g i) a ≡ []
nothing_handed g i a = none_handed g i 0 (length g.actors) a

-- the entry of one actor more
pub one_more : (f : ℕ → Option SensorRows) (k n : ℕ) → filter_map f (range_with_len k (suc n)) ≡ filter_map f (range_with_len k n) ++ option_to_list (f (k + n))
one_more f k zero = mapped_one f k [] (f k) refl ∙ append-nil (option_to_list (f k)) ∙ ap (λ m. option_to_list (f m)) (omega arith)
one_more f k (suc n) =
    mapped_one f k (range_with_len (k + 1) (suc n)) (f k) refl
    ∙ ap (λ z. option_to_list (f k) ++ z) (one_more f (k + 1) n ∙ ap (λ m. filter_map f (range_with_len (k + 1) n) ++ option_to_list (f m)) (omega arith))
    ∙ sym (append_assoc (option_to_list (f k)) (filter_map f (range_with_len (k + 1) n)) (option_to_list (f (k + suc n))))
    ∙ ap (λ z. z ++ option_to_list (f (k + suc n))) (sym (mapped_one f k (range_with_len (k + 1) n) (f k) refl))

-- each sensor of the platform has an entry
in_one : (x : Sensor) (k : ℕ) (b c : Bool) (ss : List SensorRows) → IsIn x (map unentered ss) → IsIn x (map unentered (one_entry k b c ++ ss))
unfolding one_entry
in_one x k true true ss is_in = inr is_in
in_one x k true false ss is_in = is_in
in_one x k false c ss is_in = is_in

first_one : (k : ℕ) (b c : Bool) (ss : List SensorRows) → b ≡ true → c ≡ true → IsIn (record { actor = k; rows = []; entered = 0 }) (map unentered (one_entry k b c ++ ss))
unfolding one_entry
first_one k true true ss e f = inl refl
first_one k true false ss e f = absurd (false≢true f)
first_one k false c ss e f = absurd (false≢true e)

in_from : (g : Graph) (i k n a : ℕ) → k ≤ a → a < k + n → platform_of g a ≡ i → is_sensor (kind_of g a) ≡ true → IsIn (record { actor = a; rows = []; entered = 0 }) (map unentered (from g i k n))
in_from g i k zero a low high home kind = absurd (omega (arith, low, high))
in_from g i k (suc n) a low high home kind = subst (λ z. IsIn (record { actor = a; rows = []; entered = 0 }) (map unentered z)) (sym (from_one g i k n)) (⊎_elim
    (λ (later : k < a). in_one (record { actor = a; rows = []; entered = 0 }) k (platform_of g k == i) (is_sensor (kind_of g k)) (from g i (suc k) n) (in_from g i (suc k) n a (omega (arith, later)) (omega (arith, high)) home kind))
    (λ (here : a ≤ k).
    let same : k ≡ a = omega (arith, here, low) in
    subst (λ b. IsIn (record { actor = b; rows = []; entered = 0 }) (map unentered (one_entry k (platform_of g k == i) (is_sensor (kind_of g k)) ++ from g i (suc k) n))) same
    (first_one k (platform_of g k == i) (is_sensor (kind_of g k)) (from g i (suc k) n) (eq-eqb (platform_of g k) i (ap (platform_of g) same ∙ home)) (ap (λ b. is_sensor (kind_of g b)) same ∙ kind)))
    (cases_lt k a))

-- a sensor is an actor of the graph
pub is_there : (g : Graph) (a : ℕ) (file : List ℕ) (bound : ℕ) → kind_of g a ≡ OfSensor file bound → a < length g.actors
is_there g a file bound kind = ⊎_elim
    (λ (lt : a < length g.actors). lt)
    (λ (past : length g.actors ≤ a). absurd (receive_sensor file bound (sym (ap (λ (x : Actor). x.kind) (get_or-eq_default g.actors no_actor past)) ∙ kind)))
    (cases_lt a (length g.actors))
  where
    receive_sensor : (file : List ℕ) (b : ℕ) → Receive ≡ OfSensor file b → ⊥
    receive_sensor file b e = cc

pub sensor_in : (g : Graph) (i a : ℕ) (file : List ℕ) (bound : ℕ) → platform_of g a ≡ i → kind_of g a ≡ OfSensor file bound → IsIn (record { actor = a; rows = []; entered = 0 }) (map unentered (empty_entries g i))
sensor_in g i a file bound home kind = in_from g i 0 (length g.actors) a (omega arith) (let lt = is_there g a file bound kind in omega (arith, lt)) home (ap is_sensor kind)

-- platform i, newly opened without rows
pub record IsLive (plan : Parts) (i : ℕ) (v : PlatformView) : Type 0 where
  pub plan_is : v.plan ≡ plan
  pub number : v.number ≡ i
  pub sensors : v.sensors ≡ map unentered (empty_entries plan.graph i)
  pub turns : v.turns ≡ []
  pub fault : v.fault ≡ None

-- the first n platforms
pub record AreLive (plan : Parts) (n : ℕ) (platforms : List PlatformView) : Type 0 where
  pub count : length platforms ≡ n
  pub each : (i : ℕ) (v : PlatformView) → slice_get platforms i ≡ Some v → IsLive plan i v

pushed_at : {X : Type 0} (xs : List X) (x : X) (k : ℕ) (z : X) → slice_get (xs ++ x ∷ []) k ≡ Some z → (slice_get xs k ≡ Some z) ⊎ ((k ≡ length xs) × (z ≡ x))
pushed_at [] x zero z at = inr (refl, cc)
pushed_at [] x (suc k) z at = absurd cc
pushed_at (y ∷ xs) x zero z at = inl at
pushed_at {X} (y ∷ xs) x (suc k) z at = ⊎_elim (λ (old : slice_get xs k ≡ Some z). inl old) (λ (new : (k ≡ length xs) × (z ≡ x)). inr (ap suc new.0, new.1)) (pushed_at xs x k z at)

pub none_live : (plan : Parts) → AreLive plan 0 []
none_live plan = record { count = refl; each = λ i v at. absurd cc }

pub one_live : (plan : Parts) (n : ℕ) (platforms : List PlatformView) (v : PlatformView) → AreLive plan n platforms → IsLive plan n v → AreLive plan (n + 1) (platforms ++ v ∷ [])
one_live plan n platforms v all one = record {
  count = length-append platforms (v ∷ []) ∙ ap (λ z. z + 1) all.count;
  each = λ i w at. ⊎_elim
      (λ (old : slice_get platforms i ≡ Some w). all.each i w old)
      (λ (new : (i ≡ length platforms) × (w ≡ v)). subst (λ z. IsLive plan z w) (sym (new.0 ∙ all.count)) (subst (IsLive plan n) (sym new.1) one))
      (pushed_at platforms v i w at);
}

pub live_ready : (plan : Parts) (n : ℕ) (platforms : List PlatformView) → AreLive plan n platforms → n ≡ length plan.graph.platforms → AreReady plan (λ a. []) platforms
live_ready plan n platforms all whole = record {
  all = record {
    count = all.count ∙ whole;
    plans = λ i v at. (all.each i v at).plan_is;
    numbers = λ i v at. (all.each i v at).number;
    opened = λ i a v at home. ap (λ ss. rows_at_sensors ss a) (all.each i v at).sensors ∙ ap (λ f. f a) (rows_same (empty_entries plan.graph i)) ∙ nothing_handed plan.graph i a;
  };
  fresh = record { turns = λ i v at. (all.each i v at).turns; faults = λ i v at. (all.each i v at).fault };
  fit = record { fit = λ a. tt; in_order = λ a. tt; times = λ a. tt };
}

pub live_sensors : (plan : Parts) (n : ℕ) (platforms : List PlatformView) → AreLive plan n platforms → HaveSensors plan.graph platforms
live_sensors plan n platforms all i a v file bound at home kind =
    let one = all.each i v at in
    record {
      home = ap (λ (p : Parts). platform_of p.graph a) one.plan_is ∙ home ∙ sym one.number;
      file = file;
      bound = bound;
      kind = ap (λ (p : Parts). kind_of p.graph a) one.plan_is ∙ kind;
      entry = record { actor = a; rows = []; entered = 0 };
      is_in = subst (IsIn (record { actor = a; rows = []; entered = 0 })) (sym one.sensors) (sensor_in plan.graph i a file bound home kind);
      is_of = refl;
    }
