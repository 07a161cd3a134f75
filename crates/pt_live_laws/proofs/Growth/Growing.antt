-- More rows, seen later, change nothing that happened.
use Rattle.std.proofs.Common.{◌≡◌, ℕ, ◌<◌, ◌≤◌, ◌==◌, Bool, true, false, if◌then◌else◌, List, [], ◌∷◌, ◌++◌, Some, length, map, arith, refl, sym, ap, subst, ◌∙◌, inl, inr, ⊎_elim, nat_le, leb-true}
use Rattle.std.proofs.lemmas.Bool.{cases_Bool, cond-true, cond-false}
use Rattle.std.specs.List.{flat_map, range_with_len}
use Rattle.pt_types.specs.declared.firing.Done.{Done}
use Rattle.pt_types.specs.declared.firing.OnLink.{OnLink}
use Rattle.pt_types.specs.declared.firing.Task.{Task}
use Rattle.pt_types.specs.declared.graph.Graph.{Graph}
use Rattle.pt_types.specs.declared.rows.Row.{Row}
use Rattle.pt_types.specs.declared.rows.RowAt.{RowAt}
use Rattle.pt_types.specs.Lookups.{platform_of}
use Rattle.pt_types.specs.Ports.{when}
use Rattle.pt_semantics.specs.Bounds.{link_bound}
use Rattle.pt_semantics.specs.Claiming.{Claims, after_claim}
use Rattle.pt_semantics.specs.Closing.{CanClose, Closes, Sends, shut}
use Rattle.pt_semantics.specs.Entering.{after_rows, due, not_due}
use Rattle.pt_semantics.specs.History.{IsLegal, Legal}
use Rattle.pt_semantics.specs.Lists.{Each}
use Rattle.pt_semantics.specs.Meaning.{Values, added, row_at}
use Rattle.pt_semantics.specs.Platform.{State, opened, raised}
use Rattle.pt_semantics.specs.Posting.{Posts, after_post}
use Rattle.pt_semantics.specs.Taking.{IsOnTime, Takes, after_message, with_taken}
use Rattle.pt_semantics.specs.Turn.{IsLast, IsTurn, Turn}
use Rattle.pt_semantics.specs.Units.{unit_of}
use Rattle.pt_semantics.specs.Visits.{IsVisit, VisitRecord, RunState}
use Rattle.pt_live_laws.specs.Growth.Growing.{SeenAfter, at_home, followed, grown, grown_together}

not_seen : (r seen : ℕ) → r < seen → nat_le seen r ≡ false
not_seen r seen lt = ⊎_elim
    (λ (t : nat_le seen r ≡ true). let le : seen ≤ r = leb-true seen r t in absurd (omega arith))
    (λ (f : nat_le seen r ≡ false). f)
    (cases_Bool (nat_le seen r))

none_due : (r : ℕ) (more : List Row) → Each (λ (row : Row). r < row.seen) more → due r more ≡ []
none_due r [] later = refl
none_due r (row ∷ more) later = cond-false (nat_le row.seen r) (row ∷ due r more) [] (not_seen r row.seen later.0)

all_left : (r : ℕ) (more : List Row) → Each (λ (row : Row). r < row.seen) more → not_due r more ≡ more
all_left r [] later = refl
all_left r (row ∷ more) later = cond-false (nat_le row.seen r) (not_due r more) (row ∷ more) (not_seen r row.seen later.0)

-- the rows that are due are the same with more rows seen later
pub due_grown : (r : ℕ) (rows more : List Row) → Each (λ (row : Row). r < row.seen) more → due r (rows ++ more) ≡ due r rows
due_grown r [] more later = none_due r more later
due_grown r (row ∷ rows) more later = ap (λ d. if nat_le row.seen r then row ∷ d else []) (due_grown r rows more later)

-- and more are left
pub left_grown : (r : ℕ) (rows more : List Row) → Each (λ (row : Row). r < row.seen) more → not_due r (rows ++ more) ≡ not_due r rows ++ more
left_grown r [] more later = all_left r more later
left_grown r (row ∷ rows) more later = ⊎_elim
    (λ (t : nat_le row.seen r ≡ true).
    cond-true (nat_le row.seen r) (not_due r (rows ++ more)) (row ∷ (rows ++ more)) t
    ∙ left_grown r rows more later
    ∙ ap (λ z. z ++ more) (sym (cond-true (nat_le row.seen r) (not_due r rows) (row ∷ rows) t)))
    (λ (f : nat_le row.seen r ≡ false).
    cond-false (nat_le row.seen r) (not_due r (rows ++ more)) (row ∷ (rows ++ more)) f
    ∙ ap (λ z. z ++ more) (sym (cond-false (nat_le row.seen r) (not_due r rows) (row ∷ rows) f)))
    (cases_Bool (nat_le row.seen r))

module _ (g : Graph) (level : ℕ → ℕ) (i : ℕ) (more : ℕ → List Row) where
  posts_grown : (ds : List Done) (s new : State) → Posts g s ds new → Posts g (grown more s) ds (grown more new)
  posts_grown [] s new e = ap (grown more) e
  posts_grown (d ∷ ds) s new (busy, fired, rest) = (busy, fired, posts_grown ds (after_post g s d) new rest)

  takes_grown : (ms : List OnLink) (late : Bool) (s new : State) → Takes g level i s ms late new → Takes g level i (grown more s) ms late (grown more new)
  takes_grown [] late s new (none, e) = (none, ap (grown more) e)
  takes_grown (m ∷ ms) late s new (link, at, home, orderly, next) = (
    link,
    at,
    home,
    orderly,
    ⊎_elim
        (λ (on : IsOnTime s.reading (link_bound g link) m.message × Takes g level i (after_message s m.link link m.message) ms late new).
        inl (on.0, takes_grown ms late (after_message s m.link link m.message) new on.1))
        (λ (off : (IsOnTime s.reading (link_bound g link) m.message → ⊥) × (ms ≡ []) × (late ≡ true) × (new ≡ with_taken s m.link m.message)).
        inr (off.0, off.1, off.2, ap (grown more) off.3))
        next,
  )

  claims_grown : (r : ℕ) (tasks : List Task) (s new : State) → Claims g r s tasks new → Claims g r (grown more s) tasks (grown more new)
  claims_grown r [] s new e = ap (grown more) e
  claims_grown r (task ∷ tasks) s new (is, rest) = (
    record {
      safe = is.safe;
      first = is.first;
      actor = is.actor;
      inputs = is.inputs;
      state = is.state;
      number = is.number;
    },
    claims_grown r tasks (after_claim g s (unit_of g task) task) new rest,
  )

  can_close : (s : State) (r : ℕ) → CanClose g i s r → CanClose g i (grown more s) r
  can_close s r c = record { was_open = c.was_open; bounds = c.bounds; nothing_waits = c.nothing_waits; nothing_open = c.nothing_open; nothing_to_send = c.nothing_to_send }

  could_close : (s : State) (r : ℕ) → CanClose g i (grown more s) r → CanClose g i s r
  could_close s r c = record { was_open = c.was_open; bounds = c.bounds; nothing_waits = c.nothing_waits; nothing_open = c.nothing_open; nothing_to_send = c.nothing_to_send }

  closes_grown : (s new : State) (r : ℕ) (late : Bool) → Closes g i s r late new → Closes g i (grown more s) r late (grown more new)
  closes_grown s new r late h = ⊎_elim
      (λ (shuts : CanClose g i s r × (late ≡ false) × (new ≡ shut g i s)). inl (can_close s r shuts.0, shuts.1, ap (grown more) shuts.2))
      (λ (stays : (CanClose g i s r → late ≡ true) × (new ≡ s)). inr ((λ c. stays.0 (could_close s r c)), ap (grown more) stays.1))
      h

  sends_grown : (s new : State) (sent : List OnLink) → Sends s sent new → Sends (grown more s) sent (grown more new)
  sends_grown s new sent (rest, e, parts, few) = (rest, ap (grown more) e, parts, few)

  rows_grown : (s : State) (r : ℕ) → SeenAfter r more → after_rows (grown more s) r ≡ grown more (after_rows s r)
  rows_grown s r later =
      let waits : ◌≡◌ {A = Values} (added s.waits (λ a p t. when (p == 0) (row_at (due r (s.left a ++ more a)) t))) (added s.waits (λ a p t. when (p == 0) (row_at (due r (s.left a)) t))) =
      λ k. added s.waits (λ a p t. when (p == 0) (row_at (due_grown r (s.left a) (more a) (later a) k) t)) in
      let left : ◌≡◌ {A = ℕ → List Row} (λ a. not_due r (s.left a ++ more a)) (λ a. not_due r (s.left a) ++ more a) =
      λ k a. left_grown r (s.left a) (more a) (later a) k in
      λ k. record s { waits = waits k; left = left k }

  pub turn_grown : (s new : State) (turn : Turn) (late : Bool) → IsTurn g level i s turn late new → SeenAfter turn.last more → IsTurn g level i (grown more s) turn late (grown more new)
  turn_grown s new turn late is later = record {
    rises = is.rises;
    span = is.span;
    posted = grown more is.posted;
    posts = posts_grown turn.posted s is.posted is.posts;
    rows = is.rows ∙ sym (λ k. flat_map (λ a. map {B = RowAt} (λ (row : Row). record { sensor = a; row = row }) (due_grown turn.last (s.left a) (more a) (later a) k)) (range_with_len 0 (length g.actors)));
    got = grown more is.got;
    takes = subst (λ z. Takes g level i z turn.taken late (grown more is.got)) (sym (rows_grown is.posted turn.last later)) (takes_grown turn.taken late (after_rows is.posted turn.last) is.got is.takes);
    ready = grown more is.ready;
    claims = claims_grown turn.last turn.claimed (raised is.got turn.last) is.ready is.claims;
    idle_if_late = is.idle_if_late;
    greedy = is.greedy;
    at_most = is.at_most;
    done = grown more is.done;
    closes = closes_grown is.ready is.done turn.last late is.closes;
    sends = sends_grown is.done new turn.sent is.sends;
  }

-- and whether another turn may follow is the same
pub not_last_grown : (g : Graph) (level : ℕ → ℕ) (i : ℕ) (more : ℕ → List Row) (s new : State) (turn : Turn) (late : Bool) (is : IsTurn g level i s turn late new) (later : SeenAfter turn.last more) →
    (IsLast g s turn.last late is.ready → ⊥) → IsLast g (grown more s) turn.last late (turn_grown g level i more s new turn late is later).ready → ⊥
unfolding turn_grown
not_last_grown g level i more s new turn late is later last = last

pub weaken : (r p : ℕ) (rows : List Row) → r ≤ p → Each (λ (row : Row). p < row.seen) rows → Each (λ (row : Row). r < row.seen) rows
weaken r p [] le later = tt
weaken r p (row ∷ rows) le later = (let lt : p < row.seen = later.0 in omega arith, weaken r p rows le later.1)

claims_reading : (g : Graph) (r : ℕ) (tasks : List Task) (s new : State) → Claims g r s tasks new → new.reading ≡ s.reading
claims_reading g r [] s new e = ap (λ (z : State). z.reading) e
claims_reading g r (task ∷ tasks) s new (is, rest) = claims_reading g r tasks (after_claim g s (unit_of g task) task) new rest

-- after a turn the platform's last reading is the turn's
pub turn_reading : (g : Graph) (level : ℕ → ℕ) (i : ℕ) (s new : State) (turn : Turn) (late : Bool) → IsTurn g level i s turn late new → new.reading ≡ Some turn.last
turn_reading g level i s new turn late is =
    ap (λ (z : State). z.reading) is.sends.1
    ∙ ⊎_elim
    (λ (shuts : CanClose g i is.ready turn.last × (late ≡ false) × (is.done ≡ shut g i is.ready)). ap (λ (z : State). z.reading) shuts.2)
    (λ (stays : (CanClose g i is.ready turn.last → late ≡ true) × (is.done ≡ is.ready)). ap (λ (z : State). z.reading) stays.1)
    is.closes
    ∙ claims_reading g turn.last turn.claimed (raised is.got turn.last) is.ready is.claims

-- turns never lead back to a reading before
read_on : (g : Graph) (level : ℕ → ℕ) (i : ℕ) (turns : List Turn) (s new : State) (q : ℕ) → Legal g level i s turns new → s.reading ≡ Some q → (p : ℕ) × (new.reading ≡ Some p) × (q ≤ p)
read_on g level i [] s new q e at = (q, ap (λ (z : State). z.reading) e ∙ at, omega arith)
read_on g level i (turn ∷ turns) s new q (late, mid, is, last, rest) at =
    let more = read_on g level i turns mid new turn.last rest (turn_reading g level i s mid turn late is) in
    let rises : q ≤ turn.first = is.rises q at in
    let span : turn.first ≤ turn.last = is.span in
    let on : turn.last ≤ more.0 = more.2 in
    (more.0, more.1, omega arith)

pub legal_grown : (g : Graph) (level : ℕ → ℕ) (i : ℕ) (more : ℕ → List Row) (turns : List Turn) (s new : State) → Legal g level i s turns new → ((p : ℕ) → new.reading ≡ Some p → SeenAfter p more) → Legal g level i (grown more s) turns (grown more new)
unfolding turn_grown
legal_grown g level i more [] s new e later = ap (grown more) e
legal_grown g level i more (turn ∷ turns) s new (late, mid, is, last, rest) later =
    let on = read_on g level i turns mid new turn.last rest (turn_reading g level i s mid turn late is) in
    let le : turn.last ≤ on.0 = on.2 in
    let onward : SeenAfter turn.last more = λ a. weaken turn.last on.0 (more a) le (later on.0 on.1 a) in
    (late, grown more mid, turn_grown g level i more s mid turn late is onward, last, legal_grown g level i more turns mid new rest later)

home_left : (c : Bool) (rows more : List Row) → (if c then rows ++ more else []) ≡ (if c then rows else []) ++ (if c then more else [])
home_left true rows more = refl
home_left false rows more = refl

-- a platform opened with more rows has more rows left
pub opened_grown : (g : Graph) (i : ℕ) (rows more : ℕ → List Row) → opened g i (followed rows more) ≡ grown (at_home g i more) (opened g i rows)
opened_grown g i rows more = λ k. record (opened g i rows) { left = λ a. home_left (platform_of g a == i) (rows a) (more a) k }

pub histories_grown : (g : Graph) (level : ℕ → ℕ) (i : ℕ) (rows more : ℕ → List Row) (turns : List Turn) (s : State) →
    IsLegal g level i rows turns s → ((p : ℕ) → s.reading ≡ Some p → SeenAfter p (at_home g i more)) → IsLegal g level i (followed rows more) turns (grown (at_home g i more) s)
histories_grown g level i rows more turns s is later = record {
  leads = subst (λ z. Legal g level i z turns (grown (at_home g i more) s)) (sym (opened_grown g i rows more)) (legal_grown g level i (at_home g i more) turns (opened g i rows) s is.leads later);
  counted = is.counted;
  joined = is.joined;
}

pub visit_grown : (g : Graph) (level : ℕ → ℕ) (most : ℕ) (room : ℕ → ℕ) (r : ℕ) (x y : RunState) (m : VisitRecord) (more : ℕ → List Row) →
    IsVisit g level most room r x m y → SeenAfter r (at_home g m.platform more) → IsVisit g level most room r (grown_together g more x) m (grown_together g more y)
unfolding turn_grown
visit_grown g level most room r x y m more v later = record {
  fits = v.fits;
  once = v.once;
  first = v.first;
  last = v.last;
  is = turn_grown g level m.platform (at_home g m.platform more) (x.at m.platform) (y.at m.platform) m.turn m.late v.is (subst (λ n. SeenAfter n (at_home g m.platform more)) (sym v.last) later);
  faults = v.faults;
  others = λ j other. let o = v.others j other in (ap (grown (at_home g j more)) o.0, o.1);
  joins = v.joins;
  handed = v.handed;
  in_order = v.in_order;
  rest = v.rest;
  takes = v.takes;
  takes_all = v.takes_all;
  takes_first = v.takes_first;
  takes_by_link = v.takes_by_link;
  claims_most = v.claims_most;
  claims_all = v.claims_all;
  sends = v.sends;
  sends_all = v.sends_all;
  sends_by_link = v.sends_by_link;
}
