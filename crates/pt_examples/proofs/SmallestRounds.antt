-- The beginning of the smallest paced run.
use Rattle.std.proofs.Common.{codes, ◌≡◌, ℕ, zero, suc, ◌+◌, ◌<◌, ◌≤◌, ◌≢◌, ◌==◌, ◌⊎◌, ◌&&◌, if◌then◌else◌, Bool, true, false, List, [], ◌∷◌, Option, Some, None, ℤ, pos, ◌-ℤ◌, ◌≤ℤ◌, arith, refl, sym, ap, subst, ◌∙◌, inl, inr, ⊎_elim, eqb-true}
use Rattle.std.proofs.lemmas.Bool.{and_parts, cases_Bool, cond-true, cond-false, false≢true}
use Rattle.std.proofs.lemmas.Int.{ints}
use Rattle.pt_types.specs.declared.graph.Link.{Link}
use Rattle.pt_tags.specs.declared.tag.Tag.{Tag}
use Rattle.pt_types.specs.declared.graph.Unit.{Unit}
use Rattle.pt_types.specs.declared.kind.Kind.TheVariants.{Sensor, Send, Receive}
use Rattle.pt_tags.specs.Tags.{UpTo, same_tag}
use Rattle.pt_types.specs.Ports.{when}
use Rattle.pt_semantics.specs.Edges.{Edge}
use Rattle.pt_types.specs.Lookups.{kind_of, platform_of}
use Rattle.pt_semantics.specs.Units.{at_input, at_output, HasEvent}
use Rattle.pt_semantics.specs.Paths.{Goes}
use Rattle.pt_semantics.specs.Bounds.{Feeds, bound_of}
use Rattle.pt_semantics.specs.Offsets.{IsOffset, IsFeasible, HasOffset}
use Rattle.pt_semantics.specs.Ranks.{sum_along}
use Rattle.pt_types.specs.declared.rows.Row.{Row}
use Rattle.pt_semantics.specs.Meaning.{at_time, row_at, start_at}
use Rattle.pt_semantics.specs.Platform.{State, opened, raised}
use Rattle.pt_semantics.specs.Turn.{Turn, IsTurn, IsLast}
use Rattle.pt_semantics.specs.Safe.{NothingSafe}
use Rattle.pt_semantics.specs.Closing.{CanClose}
use Rattle.pt_semantics.specs.Entering.{due, after_rows}
use Rattle.pt_semantics.specs.Paced.{IsPaced, IsCandidate, IsClosing}
use Rattle.pt_semantics.specs.Visits.{AreFinished, RunState, run_at_start, VisitRecord}
use Rattle.pt_semantics.specs.Rounds.{Makes, Round, IsLeastNext}
use Rattle.pt_semantics.proofs.Tags.{same_tag-true}
use Rattle.pt_semantics.proofs.Lookups.{none_some, same_some, or_else_found, when_found, first_of_found}
use Rattle.pt_semantics.proofs.Claiming.{event_found}
use Rattle.pt_semantics.proofs.Least.{paced_meets}
use Rattle.pt_examples.specs.Smallest.{one, row, rows, level}
use Rattle.pt_examples.specs.SmallestPaced.{IsPacedOne}

abbrev s0 : State
s0 = opened one 0 rows

abbrev s1 : State
s1 = raised (after_rows s0 55) 55

abbrev at_50 : Tag
at_50 = record { time = 50; step = 0 }

abbrev u0 : Unit
u0 = record { actor = 0; group = 0 }

abbrev t1 : Turn
t1 = record { first = 55; last = 55; count = 1; posted = []; rows = record { sensor = 0; row = row } ∷ []; taken = []; claimed = []; sent = [] }

abbrev t2 : Turn
t2 = record { first = 55; last = 55; count = 1; posted = []; rows = []; taken = []; claimed = []; sent = [] }

no_start : (a : ℕ) (t : Tag) (v : ℤ) (b : Bool) → when b (start_at one (kind_of one a) t) ≡ Some v → ⊥
no_start zero t v b h = none_some v (when_found b None v h).1
no_start (suc a) t v b h = none_some v (when_found b None v h).1

rows_at : (a : ℕ) (t : Tag) (v : ℤ) → row_at (due 55 (s0.left a)) t ≡ Some v → (a ≡ 0) × (at_50 ≡ t)
rows_at zero t v h =
    let f = first_of_found (λ (r : Row). when (same_tag (at_time r.time) t) (Some r.value)) (row ∷ []) v h in
    let w = when_found (same_tag (at_time f.0.time) t) (Some f.0.value) v f.2 in
    let is : f.0 ≡ row = ⊎_elim (λ (e : f.0 ≡ row). e) (λ (z : ⊥). absurd z) f.1 in
    (refl, ap (λ (r : Row). at_time r.time) (sym is) ∙ same_tag-true (at_time f.0.time) t w.0)
rows_at (suc a) t v h = absurd (none_some v h)

waits1 : (a p : ℕ) (t : Tag) (v : ℤ) → s1.waits a p t ≡ Some v → (a ≡ 0) × (at_50 ≡ t)
waits1 a p t v h =
    ⊎_elim
    (λ (s : s0.waits a p t ≡ Some v). absurd (no_start a t v _ s))
    (λ (r : when (p == 0) (row_at (due 55 (s0.left a)) t) ≡ Some v). rows_at a t v (when_found (p == 0) _ v r).1)
    (or_else_found (s0.waits a p t) _ v h)

event1 : (u : Unit) (t : Tag) → HasEvent one s1.waits u t → (u0 ≡ u) × (at_50 ≡ t)
event1 u t h =
    let e = event_found one s1.waits u t h in
    let w = waits1 u.actor e.port t e.value e.waits_there in
    (unit_is u.actor e.port w.0 ∙ e.unit, w.1)
  where
    unit_is : (a p : ℕ) → a ≡ 0 → u0 ≡ at_input one a p
    unit_is a p e = ap (λ b. at_input one b p) (sym e)

no_wires : (x a : Unit) (path : List Edge) → Goes one x path a → (x ≡ a) × ((sum_along path).time ≡ 0)
no_wires x a [] h = (h, refl)
no_wires x a (e ∷ path) h = absurd h.0

only_bound : (a b : ℕ) → bound_of one a ≡ Some b → (a ≡ 0) × (10 ≡ b)
only_bound zero b h = (refl, same_some 10 b h)
only_bound (suc a) b h = absurd (none_ℕ b h)
  where
    none_ℕ : (n : ℕ) → None ≡ Some n → ⊥
    none_ℕ n e = cc

feeds0 : Feeds one 0 10 [] u0
feeds0 = record { bound = refl; goes = refl }

-- at 55 the sensor is not safe yet
unsafe1 : NothingSafe one s1.waits s1.busy 55
unsafe1 u t safe =
    let e = event1 u t safe.event in
    let met : t.time + 10 < 55 + 0 = safe.bounds 0 10 [] (subst (λ z. Feeds one 0 10 [] z) e.0 feeds0) in
    let time : 50 ≡ t.time = ap (λ (z : Tag). z.time) e.1 in
    omega arith

too_early : (s : State) → CanClose one 0 s 55 → ⊥
too_early s c = let l = c.bounds 0 10 refl refl in absurd (omega (arith, l))

turn1 : IsTurn one level 0 s0 t1 false s1
turn1 = record {
  rises = λ p e. absurd (none_ℕ p e);
  span = omega arith;
  posted = s0;
  posts = refl;
  rows = refl;
  got = after_rows s0 55;
  takes = (refl, refl);
  ready = s1;
  claims = refl;
  idle_if_late = λ e. refl;
  greedy = λ e. inr (inl unsafe1);
  at_most = (omega arith, omega arith);
  done = s1;
  closes = inr ((λ c. absurd (too_early s1 c)), refl);
  sends = ((λ l. []), refl, (λ l. refl), (λ l. omega arith));
}
  where
    none_ℕ : (n : ℕ) → None ≡ Some n → ⊥
    none_ℕ n e = cc

abbrev s2 : State
s2 = raised (after_rows s1 55) 55

left2 : (a : ℕ) → s2.left a ≡ []
left2 zero = refl
left2 (suc a) = refl

waits2 : (a p : ℕ) (t : Tag) (v : ℤ) → s2.waits a p t ≡ Some v → (a ≡ 0) × (at_50 ≡ t)
waits2 a p t v h =
    ⊎_elim
    (λ (old : s1.waits a p t ≡ Some v). waits1 a p t v old)
    (λ (late : when (p == 0) (row_at (due 55 (s1.left a)) t) ≡ Some v). absurd (rows_gone a t v (when_found (p == 0) _ v late).1))
    (or_else_found (s1.waits a p t) _ v h)
  where
    rows_gone : (a : ℕ) (t : Tag) (v : ℤ) → row_at (due 55 (s1.left a)) t ≡ Some v → ⊥
    rows_gone zero t v h = none_some v h
    rows_gone (suc a) t v h = none_some v h

event2 : (u : Unit) (t : Tag) → HasEvent one s2.waits u t → (u0 ≡ u) × (at_50 ≡ t)
event2 u t h =
    let e = event_found one s2.waits u t h in
    let w = waits2 u.actor e.port t e.value e.waits_there in
    (unit_is u.actor e.port w.0 ∙ e.unit, w.1)
  where
    unit_is : (a p : ℕ) → a ≡ 0 → u0 ≡ at_input one a p
    unit_is a p e = ap (λ b. at_input one b p) (sym e)

unsafe2 : NothingSafe one s2.waits s2.busy 55
unsafe2 u t safe =
    let e = event2 u t safe.event in
    let met : t.time + 10 < 55 + 0 = safe.bounds 0 10 [] (subst (λ z. Feeds one 0 10 [] z) e.0 feeds0) in
    let time : 50 ≡ t.time = ap (λ (z : Tag). z.time) e.1 in
    omega arith

turn2 : IsTurn one level 0 s1 t2 false s2
turn2 = record {
  rises = λ p e. let s : 55 ≡ p = same_some 55 p e in omega arith;
  span = omega arith;
  posted = s1;
  posts = refl;
  rows = refl;
  got = after_rows s1 55;
  takes = (refl, refl);
  ready = s2;
  claims = refl;
  idle_if_late = λ e. refl;
  greedy = λ e. inr (inl unsafe2);
  at_most = (omega arith, omega arith);
  done = s2;
  closes = inr ((λ c. absurd (too_early s2 c)), refl);
  sends = ((λ l. []), refl, (λ l. refl), (λ l. omega arith));
}

-- all platforms: there is one
abbrev at_first : ℕ → State
at_first zero = s1
at_first (suc i) = opened one (suc i) rows

abbrev at_second : ℕ → State
at_second zero = s2
at_second (suc i) = opened one (suc i) rows

abbrev did1 : ℕ → List Turn
did1 zero = t1 ∷ []
did1 (suc i) = []

abbrev did2 : ℕ → List Turn
did2 zero = t1 ∷ t2 ∷ []
did2 (suc i) = []

abbrev x0 : RunState
x0 = run_at_start one rows

abbrev x1 : RunState
x1 = record { at = at_first; did = did1; on_way = λ l. [] }

abbrev x2 : RunState
x2 = record { at = at_second; did = did2; on_way = λ l. [] }

abbrev m1 : VisitRecord
m1 = record { platform = 0; turn = t1; late = false; fault = false }

abbrev m2 : VisitRecord
m2 = record { platform = 0; turn = t2; late = false; fault = false }

no_link : (x : Link) → None ≡ Some x → ⊥
no_link x e = cc

few : (s ready : State) (r : ℕ) → s.claims < one.claims → IsLast one s r false ready → false ≡ true
few s ready r lt h = ⊎_elim (λ (e : false ≡ true). e) (λ (l : (one.claims ≤ s.claims) × (NothingSafe one ready.waits ready.busy r → ⊥)). let le = l.0 in absurd (omega arith)) h

makes1 : Makes one level 55 x0 m1 x1
unfolding turn1
makes1 = record {
  fits = omega arith;
  once = refl;
  first = refl;
  last = refl;
  is = turn1;
  faults = ((λ h. few s0 s1 55 (omega arith) h), (λ e. absurd (false≢true e)));
  others = others;
  joins = refl;
  handed = λ u. refl;
  in_order = tt;
  takes_by_link = tt;
  sends_by_link = tt;
  claims_most = omega arith;
  takes_first = λ l k link at home lt some. refl;
  rest = λ l. [];
  takes = λ l. refl;
  takes_all = λ e l link at home. refl;
  claims_all = λ e. inl unsafe1;
  sends = λ l. refl;
  sends_all = λ l. refl;
}
  where
    others : (j : ℕ) → j ≢ 0 → (x1.at j ≡ x0.at j) × (x1.did j ≡ x0.did j)
    others zero ne = absurd (ne refl)
    others (suc j) ne = (refl, refl)

makes2 : Makes one level 55 x1 m2 x2
unfolding turn2
makes2 = record {
  fits = omega arith;
  once = refl;
  first = refl;
  last = refl;
  is = turn2;
  faults = ((λ h. few s1 s2 55 (omega arith) h), (λ e. absurd (false≢true e)));
  others = others;
  joins = refl;
  handed = λ u. refl;
  in_order = tt;
  takes_by_link = tt;
  sends_by_link = tt;
  claims_most = omega arith;
  takes_first = λ l k link at home lt some. refl;
  rest = λ l. [];
  takes = λ l. refl;
  takes_all = λ e l link at home. refl;
  claims_all = λ e. inl unsafe2;
  sends = λ l. refl;
  sends_all = λ l. refl;
}
  where
    others : (j : ℕ) → j ≢ 0 → (x2.at j ≡ x1.at j) × (x2.did j ≡ x1.did j)
    others zero ne = absurd (ne refl)
    others (suc j) ne = (refl, refl)

-- the closing reading is 111
closes_at : (d : ℕ) → IsClosing one 0 d → 111 ≤ d
closes_at d h =
    ⊎_elim
    (λ (none : (d ≡ 0) × ((a b : ℕ) → platform_of one a ≡ 0 → bound_of one a ≡ Some b → ⊥)). absurd (none.1 0 10 refl refl))
    (λ (some : ((a b : ℕ) × (platform_of one a ≡ 0) × (bound_of one a ≡ Some b) × (d ≡ one.until + b + 1)) × ((a b : ℕ) → platform_of one a ≡ 0 → bound_of one a ≡ Some b → one.until + b + 1 ≤ d)). some.1 0 10 refl refl)
    h

only_one : (i : ℕ) → i < 1 → i ≡ 0
only_one i l = omega arith

-- the offset of the sensor, and of units that nothing reaches
abbrev offset : Unit → Option ℤ
offset u = if u.actor == 0 && u.group == 0 then Some (pos 10) else None

offset0 : IsOffset one u0 (pos 10)
offset0 = record {
  some = (0, 10, [], feeds0, refl);
  greatest = λ s b path f.
      let z = (no_wires (at_output one s 0) u0 path f.goes).1 in
      let w = (only_bound s b f.bound).1 in
      step b (sum_along path).time (sym w) z;
}
  where
    step : (b n : ℕ) → b ≡ 10 → n ≡ 0 → (pos b -ℤ pos n) ≤ℤ pos 10
    step b n e z = omega (arith, ints)

not_zero : (u : Unit) → (u.actor == 0 && u.group == 0) ≡ true → u0 ≡ u
not_zero u h =
    let two = and_parts (u.actor == 0) (u.group == 0) h in
    let a : 0 ≡ u.actor = sym (eqb-true u.actor 0 two.0) in
    let b : 0 ≡ u.group = sym (eqb-true u.group 0 two.1) in
    λ i. record { actor = a i; group = b i }

offsets : (u : Unit) → HasOffset one u (offset u)
offsets u =
    ⊎_elim
    (λ (h : (u.actor == 0 && u.group == 0) ≡ true).
    subst (HasOffset one u) (sym (cond-true (u.actor == 0 && u.group == 0) (Some (pos 10)) None h)) (subst (λ z. IsOffset one z (pos 10)) (not_zero u h) offset0))
    (λ (h : (u.actor == 0 && u.group == 0) ≡ false).
    subst (HasOffset one u) (sym (cond-false (u.actor == 0 && u.group == 0) (Some (pos 10)) None h))
    (λ a b path f.
    let go = (no_wires (at_output one a 0) u path f.goes).0 in
    let zero_a = (only_bound a b f.bound).0 in
    let is : u0 ≡ u = ap (λ n. at_output one n 0) (sym zero_a) ∙ go in
    false≢true (sym h ∙ subst (λ (z : Unit). (z.actor == 0 && z.group == 0) ≡ true) is refl)))
    (cases_Bool (u.actor == 0 && u.group == 0))

-- the first reading
least0 : IsLeastNext one x0 55
least0 = record {
  one = (0, omega arith, refl, inl (0, row, [], refl, refl));
  least = λ i d lt open_still cand. from i d (only_one i lt) cand;
}
  where
    row_seen : (a : ℕ) (r : Row) (rest : List Row) → s0.left a ≡ r ∷ rest → 55 ≤ r.seen
    row_seen zero r rest e = let h : row ≡ r = first r rest e in subst (λ (z : Row). 55 ≤ z.seen) h (omega arith)
      where
        first : (r : Row) (rest : List Row) → row ∷ [] ≡ r ∷ rest → row ≡ r
        first r rest e = cc
    row_seen (suc a) r rest e = absurd (never r rest e)
      where
        never : (r : Row) (rest : List Row) → [] ≡ r ∷ rest → ⊥
        never r rest e = cc

    none_waits : (u : Unit) (t : Tag) → HasEvent one s0.waits u t → ⊥
    none_waits u t h = let e = event_found one s0.waits u t h in no_start u.actor t e.value _ e.waits_there

    from : (i d : ℕ) → i ≡ 0 → IsCandidate one i (x0.at i) d → 55 ≤ d
    from i d e cand =
        ⊎_elim
        (λ (r : (a : ℕ) × (w : Row) × (rest : List Row) × (s0.left a ≡ w ∷ rest) × (d ≡ w.seen)). subst (λ n. 55 ≤ n) (sym r.4) (row_seen r.0 r.1 r.2 r.3))
        (λ (o : ((u : Unit) × (t : Tag) × HasEvent one s0.waits u t × ((w : Tag) → HasEvent one s0.waits u w → UpTo t w) × (s0.busy u ≡ None) × IsPaced one u t d) ⊎ IsClosing one 0 d).
        ⊎_elim
        (λ (ev : (u : Unit) × (t : Tag) × HasEvent one s0.waits u t × ((w : Tag) → HasEvent one s0.waits u w → UpTo t w) × (s0.busy u ≡ None) × IsPaced one u t d). absurd (none_waits ev.0 ev.1 ev.2))
        (λ (c : IsClosing one 0 d). let l : 111 ≤ d = closes_at d c in omega arith)
        o)
        (subst (λ n. IsCandidate one n (x0.at n) d) e cand)

-- the next reading: the sensor's event at 50 has its paced reading at 61
least2 : IsLeastNext one x2 61
least2 = record {
  one = (0, omega arith, refl, inr (inl (u0, at_50, refl, (λ w h. let e = (event2 u0 w h).1 in subst (UpTo at_50) e (omega arith, λ k. omega arith)), refl, (Some (pos 10), offset0, refl))));
  least = λ i d lt open_still cand. from i d (only_one i lt) cand;
}
  where
    of_paced : (u : Unit) (t : Tag) (d : ℕ) → u0 ≡ u → at_50 ≡ t → IsPaced one u t d → 61 ≤ d
    of_paced u t d eu et p =
        let on : 50 + 10 + 1 ≤ d = paced_is d (subst (λ z. IsPaced one u0 z d) (sym et) (subst (λ z. IsPaced one z t d) (sym eu) p)) in
        omega arith
      where
        paced_is : (d : ℕ) → IsPaced one u0 at_50 d → 50 + 10 + 1 ≤ d
        paced_is d q = let m = paced_meets one u0 at_50 d d q (omega arith) 0 10 [] feeds0 in omega (arith, m)

    from : (i d : ℕ) → i ≡ 0 → IsCandidate one i (x2.at i) d → 61 ≤ d
    from i d e cand =
        ⊎_elim
        (λ (r : (a : ℕ) × (w : Row) × (rest : List Row) × (s2.left a ≡ w ∷ rest) × (d ≡ w.seen)). absurd (never r.1 r.2 (sym (left2 r.0) ∙ r.3)))
        (λ (o : ((u : Unit) × (t : Tag) × HasEvent one s2.waits u t × ((w : Tag) → HasEvent one s2.waits u w → UpTo t w) × (s2.busy u ≡ None) × IsPaced one u t d) ⊎ IsClosing one 0 d).
        ⊎_elim
        (λ (ev : (u : Unit) × (t : Tag) × HasEvent one s2.waits u t × ((w : Tag) → HasEvent one s2.waits u w → UpTo t w) × (s2.busy u ≡ None) × IsPaced one u t d).
        let w = event2 ev.0 ev.1 ev.2 in of_paced ev.0 ev.1 d w.0 w.1 ev.5)
        (λ (c : IsClosing one 0 d). let l : 111 ≤ d = closes_at d c in omega arith)
        o)
        (subst (λ n. IsCandidate one n (x2.at n) d) e cand)
      where
        never : (r : Row) (rest : List Row) → [] ≡ r ∷ rest → ⊥
        never r rest e = cc

round1 : Round one level 55 1 0 x0 (m1 ∷ []) x1
round1 = inr ((λ f. false≢true f.closed), m1, [], x1, refl, refl, makes1, (refl, refl))

round2 : Round one level 55 1 0 x1 (m2 ∷ []) x2
round2 = inr ((λ f. false≢true f.closed), m2, [], x2, refl, refl, makes2, (refl, refl))

pub paced_one : IsPacedOne
paced_one = record {
  first = m1;
  second = m2;
  state = x2;
  run = record {
    begins = 55;
    begins_at = least0;
    goes = (55, x1, round1, (refl, tt), still_open1, inr ((λ q. false≢true q.quiet.0), refl), (61, x2, round2, (refl, tt), still_open2, inl (record { quiet = (refl, tt); closed = closed }, least2), (refl, refl)));
  };
  feasible = feasible;
  offset = offset;
  offsets = offsets;
}
  where
    still_open1 : AreFinished one x1 → ⊥
    still_open1 done = false≢true (done 0 (omega arith)).closed

    still_open2 : AreFinished one x2 → ⊥
    still_open2 done = false≢true (done 0 (omega arith)).closed

    closed : (i : ℕ) → (x2.at i).closed ≡ (x1.at i).closed
    closed zero = refl
    closed (suc i) = refl

    feasible : IsFeasible one
    feasible zero slack s b path kind f = absurd (never slack kind)
      where
        never : (slack : ℕ) → Sensor (codes "s.csv") 10 ≡ Send slack → ⊥
        never slack e = cc
    feasible (suc a) slack s b path kind f = absurd (never slack kind)
      where
        never : (slack : ℕ) → Receive ≡ Send slack → ⊥
        never slack e = cc
