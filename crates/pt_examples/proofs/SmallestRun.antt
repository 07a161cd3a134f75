-- The smallest run is a legal and finished history, and its meaning is one firing.
use Rattle.std.proofs.Common.{codes, ◌≤◌, ◌≡◌, ℕ, zero, suc, ◌<◌, ◌≢◌, ◌==◌, ◌&&◌, not, Bool, true, false, List, [], ◌∷◌, Option, Some, None, ℤ, arith, refl, sym, ap, subst, ◌∙◌, inl, inr, ⊎_elim, eq-eqb, nat_lt, length}
use Rattle.std.proofs.lemmas.Bool.{and_from, false≢true}
use Rattle.pt_tags.specs.declared.tag.Tag.{Tag}
use Rattle.pt_types.specs.declared.graph.Graph.{Graph}
use Rattle.pt_types.specs.declared.graph.Link.{Link}
use Rattle.pt_types.specs.declared.graph.Unit.{Unit}
use Rattle.pt_tags.specs.Tags.{UpTo, same_tag}
use Rattle.pt_types.specs.Ports.{when}
use Rattle.pt_semantics.specs.Lists.{Each}
use Rattle.pt_semantics.specs.Edges.{Edge, wires}
use Rattle.pt_types.specs.Lookups.{platform_of}
use Rattle.pt_semantics.specs.Units.{at_input, at_output, HasEvent, leaves_unit}
use Rattle.pt_semantics.specs.Paths.{Goes}
use Rattle.pt_semantics.specs.Bounds.{bound_of}
use Rattle.pt_semantics.specs.Ranks.{sum_along, Leads, AreRanks, AreLevels}
use Rattle.pt_semantics.specs.Wired.{IsWired}
use Rattle.pt_types.specs.declared.rows.Row.{Row}
use Rattle.pt_semantics.specs.Meaning.{at_time, row_at, start_at, opening, added, going, without, IsMeaning, World, after_firing, at_start, Fires, NotAfter}
use Rattle.pt_semantics.specs.Platform.{State, opened, raised, put_busy}
use Rattle.pt_types.specs.declared.firing.Task.{Task}
use Rattle.pt_semantics.specs.Turn.{Turn, IsLast, IsTurn}
use Rattle.pt_tags.specs.declared.message.Message.{Message}
use Rattle.pt_semantics.specs.Entering.{all_due, due, after_rows}
use Rattle.pt_semantics.specs.Safe.{IsSafe, NothingSafe}
use Rattle.pt_semantics.specs.Claiming.{IsNext, NoLater, after_claim}
use Rattle.pt_semantics.specs.History.{IsLegal}
use Rattle.pt_semantics.specs.Linked.{IsFinished}
use Rattle.pt_semantics.specs.Posting.{after_post}
use Rattle.pt_semantics.specs.Closing.{shut, CanClose}
use Rattle.pt_semantics.specs.Rows.{FitRows, FitsRow, NeverFalls, TimesRise}
use Rattle.pt_semantics.proofs.Tags.{same_tag-true}
use Rattle.pt_semantics.proofs.Lookups.{none_some, same_some, or_else_found, when_found, first_of_found, cases_part}
use Rattle.pt_semantics.proofs.Claiming.{event_found, without_found}
use Rattle.pt_semantics.proofs.Floor.{put_same, put_other}
use Rattle.pt_examples.specs.Smallest.{one, row, rows, input_three, task, done, level, turns, firing}

abbrev at_50 : Tag
at_50 = record { time = 50; step = 0 }

abbrev pub s0 : State
s0 = opened one 0 rows

abbrev pub s1 : State
s1 = raised (after_rows s0 61) 61

abbrev pub u0 : Unit
u0 = record { actor = 0; group = 0 }

abbrev pub s2 : State
s2 = after_claim one s1 u0 task

abbrev pub s3 : State
s3 = raised (after_rows (after_post one s2 done) 61) 61

abbrev pub s4 : State
s4 = raised (after_rows s3 111) 111

-- only the row waits
starts_none : (a : ℕ) (t : Tag) (v : ℤ) (b : Bool) → when b (start_at one ((λ (n : ℕ). Rattle.pt_types.specs.Lookups.kind_of one n) a) t) ≡ Some v → ⊥
starts_none zero t v b h = none_some v (when_found b None v h).1
starts_none (suc a) t v b h = none_some v (when_found b None v h).1

rows_at : (a : ℕ) (t : Tag) (v : ℤ) → row_at (due 61 (s0.left a)) t ≡ Some v → (a ≡ 0) × (at_50 ≡ t)
rows_at zero t v h =
    let f = first_of_found (λ (r : Row). when (same_tag (at_time r.time) t) (Some r.value)) (row ∷ []) v h in
    let w = when_found (same_tag (at_time f.0.time) t) (Some f.0.value) v f.2 in
    let is : f.0 ≡ row = ⊎_elim (λ (e : f.0 ≡ row). e) (λ (z : ⊥). absurd z) f.1 in
    (refl, ap (λ (r : Row). at_time r.time) (sym is) ∙ same_tag-true (at_time f.0.time) t w.0)
rows_at (suc a) t v h = absurd (none_some v h)

waits1 : (a p : ℕ) (t : Tag) (v : ℤ) → s1.waits a p t ≡ Some v → (a ≡ 0) × (at_50 ≡ t)
waits1 a p t v h =
    ⊎_elim
    (λ (s : s0.waits a p t ≡ Some v). absurd (starts_none a t v _ s))
    (λ (r : when (p == 0) (row_at (due 61 (s0.left a)) t) ≡ Some v). rows_at a t v (when_found (p == 0) _ v r).1)
    (or_else_found (s0.waits a p t) _ v h)

-- a unit with an event is the sensor's, at 50
event1 : (u : Unit) (t : Tag) → HasEvent one s1.waits u t → (u0 ≡ u) × (at_50 ≡ t)
event1 u t h =
    let e = event_found one s1.waits u t h in
    let w = waits1 u.actor e.port t e.value e.waits_there in
    (unit_is u.actor e.port w.0 ∙ e.unit, w.1)
  where
    unit_is : (a p : ℕ) → a ≡ 0 → u0 ≡ at_input one a p
    unit_is a p e = ap (λ b. at_input one b p) (sym e)

no_wires : (x a : Unit) (path : List Edge) → Goes one x path a → (x ≡ a) × ((sum_along path).time ≡ 0)
no_wires x a [] h = (h, refl)
no_wires x a (e ∷ path) h = absurd h.0

only_bound : (a b : ℕ) → bound_of one a ≡ Some b → 10 ≡ b
only_bound zero b h = same_some 10 b h
only_bound (suc a) b h = absurd (none_ℕ b h)
  where
    none_ℕ : (n : ℕ) → None ≡ Some n → ⊥
    none_ℕ n e = cc

safe1 : IsSafe one s1.waits s1.busy 61 u0 at_50
safe1 = record {
  event = refl;
  least = λ t h. let e = (event1 u0 t h).1 in subst (UpTo at_50) e (omega arith, λ k. omega arith);
  free = refl;
  bounds = λ x b path f. let z = (no_wires (at_output one x 0) u0 path f.goes).1 in let w = only_bound x b f.bound in omega arith;
  events = λ x t path ne h go. absurd (ne (no_wires x u0 path go).0);
  claims = λ x t path b go. absurd (none_task t b);
}
  where
    none_task : (t : Task) → None ≡ Some t → ⊥
    none_task t e = cc

next1 : IsNext one s1 61 u0 task
next1 = record {
  safe = safe1;
  first = λ v t s.
      let e = event1 v t s.event in
      subst (λ w. NoLater at_50 u0 w v) e.1 (subst (λ w. NoLater at_50 u0 at_50 w) e.0 same);
  actor = refl;
  inputs = refl;
  state = refl;
  number = refl;
}
  where
    same : NoLater at_50 u0 at_50 u0
    same = (omega arith, λ a. (omega arith, λ b. (omega arith, λ c. omega arith)))

-- after the claim nothing waits
waits3 : (a p : ℕ) (t : Tag) (v : ℤ) → s3.waits a p t ≡ Some v → ⊥
waits3 a p t v h =
    ⊎_elim
    (λ (early : added s2.waits (going one (wires one) (leaves_unit one u0) task.tag input_three) a p t ≡ Some v).
    ⊎_elim
    (λ (old : s2.waits a p t ≡ Some v).
    let w = without_found one s1.waits u0 task.tag a p t v old in
    let e = waits1 a p t v w.0 in
    w.1 (ap (λ b. at_input one b p) e.0) (tag_is ∙ e.1))
    (λ (new : going one (wires one) (leaves_unit one u0) task.tag input_three a p t ≡ Some v). none_some v (when_found _ None v new).1)
    (or_else_found (s2.waits a p t) _ v early))
    (λ (late : when (p == 0) (row_at (due 61 (s2.left a)) t) ≡ Some v). rows_gone a t v (when_found (p == 0) _ v late).1)
    (or_else_found (added s2.waits (going one (wires one) (leaves_unit one u0) task.tag input_three) a p t) _ v h)
  where
    tag_is : task.tag ≡ at_50
    tag_is = refl

    rows_gone : (a : ℕ) (t : Tag) (v : ℤ) → row_at (due 61 (s2.left a)) t ≡ Some v → ⊥
    rows_gone zero t v h = none_some v h
    rows_gone (suc a) t v h = none_some v h

nothing_safe : (s : State) (r : ℕ) → ((a p : ℕ) (t : Tag) (v : ℤ) → s.waits a p t ≡ Some v → ⊥) → NothingSafe one s.waits s.busy r
nothing_safe s r none u t safe = let e = event_found one s.waits u t safe.event in none u.actor e.port t e.value e.waits_there

-- 61 is not past the horizon and the bound
too_early : (s : State) → CanClose one 0 s 61 → ⊥
too_early s c = let l = c.bounds 0 10 refl refl in absurd (omega (arith, l))

abbrev keep : State → ℕ → List Message
keep s l = s.outbox l

abbrev t1 : Turn
t1 = record { first = 61; last = 61; count = 1; posted = []; rows = record { sensor = 0; row = row } ∷ []; taken = []; claimed = task ∷ []; sent = [] }

abbrev t2 : Turn
t2 = record { first = 61; last = 61; count = 1; posted = done ∷ []; rows = []; taken = []; claimed = []; sent = [] }

abbrev t3 : Turn
t3 = record { first = 111; last = 111; count = 1; posted = []; rows = []; taken = []; claimed = []; sent = [] }

cons_nil : (xs : List Task) (x : Task) → x ∷ xs ≡ [] → ⊥
cons_nil xs x e = cc

turn1 : IsTurn one level 0 s0 t1 false s2
turn1 = record {
  rises = λ p e. absurd (none_ℕ p e);
  span = omega arith;
  posted = s0;
  posts = refl;
  rows = refl;
  got = after_rows s0 61;
  takes = (refl, refl);
  ready = s2;
  claims = (next1, refl);
  idle_if_late = λ e. absurd (false≢true e);
  greedy = λ e. absurd (cons_nil [] task e);
  at_most = (omega arith, omega arith);
  done = s2;
  closes = inr (λ c. absurd (too_early s2 c), refl);
  sends = (keep s2, refl, λ l. refl, λ l. omega arith);
}
  where
    none_ℕ : (n : ℕ) → None ≡ Some n → ⊥
    none_ℕ n e = cc

rows3 : [] ≡ all_due one 61 s2.left
rows3 = refl

turn2 : IsTurn one level 0 s2 t2 false s3
turn2 = record {
  rises = λ p e. let s : 61 ≡ p = same_some 61 p e in omega arith;
  span = omega arith;
  posted = after_post one s2 done;
  posts = (refl, refl, refl);
  rows = refl;
  got = after_rows (after_post one s2 done) 61;
  takes = (refl, refl);
  ready = s3;
  claims = refl;
  idle_if_late = λ e. refl;
  greedy = λ e. inr (inl (nothing_safe s3 61 waits3));
  at_most = (omega arith, omega arith);
  done = s3;
  closes = inr (λ c. absurd (too_early s3 c), refl);
  sends = (keep s3, refl, λ l. refl, λ l. omega arith);
}

waits4 : (a p : ℕ) (t : Tag) (v : ℤ) → s4.waits a p t ≡ Some v → ⊥
waits4 a p t v h =
    ⊎_elim
    (λ (old : s3.waits a p t ≡ Some v). waits3 a p t v old)
    (λ (late : when (p == 0) (row_at (due 111 (s3.left a)) t) ≡ Some v). rows_gone a t v (when_found (p == 0) _ v late).1)
    (or_else_found (s3.waits a p t) _ v h)
  where
    rows_gone : (a : ℕ) (t : Tag) (v : ℤ) → row_at (due 111 (s3.left a)) t ≡ Some v → ⊥
    rows_gone zero t v h = none_some v h
    rows_gone (suc a) t v h = none_some v h

all_none : (o : Option ℤ) → ((v : ℤ) → o ≡ Some v → ⊥) → o ≡ None
all_none None h = refl
all_none (Some v) h = absurd (h v refl)

can : CanClose one 0 s4 111
can = record {
  was_open = refl;
  bounds = λ x b home e. let w = only_bound x b e in omega arith;
  nothing_waits = λ a p t. all_none (s4.waits a p t) (waits4 a p t);
  nothing_open = λ v. ⊎_elim
      (λ (e : u0 ≡ v). put_same (put_busy (λ u. None) u0 (Some task)) u0 v None e)
      (λ (ne : u0 ≢ v). put_other (put_busy (λ u. None) u0 (Some task)) u0 v None ne ∙ put_other (λ u. None) u0 v (Some task) ne)
      (cases_part u0 v);
  nothing_to_send = λ l. refl;
}

abbrev pub s5 : State
s5 = shut one 0 s4

turn3 : IsTurn one level 0 s3 t3 false s5
turn3 = record {
  rises = λ p e. let s : 61 ≡ p = same_some 61 p e in omega arith;
  span = omega arith;
  posted = s3;
  posts = refl;
  rows = refl;
  got = after_rows s3 111;
  takes = (refl, refl);
  ready = s4;
  claims = refl;
  idle_if_late = λ e. refl;
  greedy = λ e. inr (inl (nothing_safe s4 111 waits4));
  at_most = (omega arith, omega arith);
  done = s5;
  closes = inl (can, refl, refl);
  sends = (keep s5, refl, λ l. refl, λ l. omega arith);
}

is_last : (g : Graph) (s ready : State) (r : ℕ) → s.claims < g.claims → IsLast g s r false ready → ⊥
is_last g s ready r few h = ⊎_elim (λ e. absurd (false≢true e)) (λ l. let le = l.0 in omega arith) h

pub legal : IsLegal one level 0 rows turns s5
legal = record {
  leads = (
    false,
    s2,
    turn1,
    λ h. absurd (is_last one s0 turn1.ready 61 (omega arith) h),
    (
      false,
      s3,
      turn2,
      λ h. absurd (is_last one s2 turn2.ready 61 (omega arith) h),
      (false, s5, turn3, λ h. refl, refl),
    ),
  );
  counted = ((omega arith, omega arith, omega arith, λ e. refl, λ e. refl), ((omega arith, omega arith, omega arith, λ e. refl, λ e. refl), ((omega arith, omega arith, omega arith, λ e. refl, λ e. refl), tt)));
  joined = (λ a b. absurd (false≢true a), tt);
}

pub finished : IsFinished one 0 s5
finished = record { closed = refl; all_went = λ l. refl; ends = λ l link at home. absurd (none_link link at) }
  where
    none_link : (x : Link) → None ≡ Some x → ⊥
    none_link x e = cc

-- and the meaning is the one firing
w0 : World
w0 = at_start one rows

opening_at : (a p : ℕ) (t : Tag) (v : ℤ) → opening one rows a p t ≡ Some v → (a ≡ 0) × (at_50 ≡ t)
opening_at zero p t v h =
    let f = first_of_found (λ (r : Row). when (same_tag (at_time r.time) t) (Some r.value)) (row ∷ []) v (when_found (p == 0) _ v h).1 in
    let w = when_found (same_tag (at_time f.0.time) t) (Some f.0.value) v f.2 in
    let is : f.0 ≡ row = ⊎_elim (λ (e : f.0 ≡ row). e) (λ (z : ⊥). absurd z) f.1 in
    (refl, ap (λ (r : Row). at_time r.time) (sym is) ∙ same_tag-true (at_time f.0.time) t w.0)
opening_at (suc a) p t v h = absurd (none_some v (when_found (p == 0) None v h).1)

fires : Fires one level (at_start one rows) firing
fires = record {
  first = λ b p u v h.
      let e = opening_at b p u v h in
      subst (λ w. NotAfter level at_50 0 w b) e.1 (omega arith, λ x. (omega arith, λ y. (omega arith, λ z. (let zero_b = e.0 in omega arith))));
  inputs = refl;
  present = refl;
  before = refl;
  after = refl;
  outputs = refl;
}

pub meaning : IsMeaning one level rows (firing ∷ [])
meaning = (fires, λ a p t. all_none _ (λ v h. gone a p t v h))
  where
    clash : (b : Bool) → not b ≡ true → b ≡ true → ⊥
    clash b n y = false≢true (sym (ap not y) ∙ n)

    gone : (a p : ℕ) (t : Tag) (v : ℤ) → (after_firing one (at_start one rows) firing).waits a p t ≡ Some v → ⊥
    gone a p t v h =
        ⊎_elim
        (λ (old : without (opening one rows) 0 at_50 a p t ≡ Some v).
        let w = when_found (not (a == 0 && same_tag at_50 t)) (opening one rows a p t) v old in
        let e = opening_at a p t v w.1 in
        clash (a == 0 && same_tag at_50 t) w.0 (and_from (a == 0) (same_tag at_50 t) (eq-eqb a 0 e.0) (subst (λ u. same_tag at_50 u ≡ true) e.1 refl)))
        (λ (new : when (nat_lt t.time 101) None ≡ Some v). none_some v (when_found (nat_lt t.time 101) None v new).1)
        (or_else_found (without (opening one rows) 0 at_50 a p t) _ v h)

no_link_at : (x : Link) → None ≡ Some x → ⊥
no_link_at x e = cc

no_edge_at : (x : Edge) → None ≡ Some x → ⊥
no_edge_at x e = cc

pub wired : IsWired one
wired = record {
  fed_once = λ i j e d at atj to input. absurd (no_edge_at e at);
  ends = λ e m. absurd m;
  in_unit = λ e m. absurd m;
  ports = λ e m. absurd m;
  at_home = λ e m. absurd m;
  inner = λ e m. absurd m;
  sends = λ l link at. absurd (no_link_at link at);
  receives = λ l link at. absurd (no_link_at link at);
  one_link = λ l k link other at atk to. absurd (no_link_at link at);
  loops = λ e start period m kind. absurd m;
  homes = home;
}
  where
    home : (a : ℕ) → platform_of one a < 1
    home zero = omega arith
    home (suc a) = omega arith

no_edges : (b a : ℕ) (path : List Edge) → Leads one b path a → length path ≤ 0
no_edges b a [] h = omega arith
no_edges b a (e ∷ path) h = absurd h.0

pub ranks : AreRanks one level
ranks a = record { one = (a, [], refl, (refl, refl), refl); longest = λ b path leads free. no_edges b a path leads }

pub levels : AreLevels one level
levels a = record { one = (a, [], refl, refl, refl); longest = λ b path leads free. no_edges b a path leads }

pub fits : FitRows one rows
fits = record { fit = fit; in_order = in_order; times = times }
  where
    fit : (a : ℕ) → Each (FitsRow one a) (rows a)
    fit zero = (record { file = codes "s.csv"; bound = 10; sensor = refl; in_time = omega arith; within = omega arith }, tt)
    fit (suc a) = tt

    in_order : (a : ℕ) → NeverFalls (rows a)
    in_order zero = (tt, tt)
    in_order (suc a) = tt

    times : (a : ℕ) → TimesRise (rows a)
    times zero = (tt, tt)
    times (suc a) = tt
