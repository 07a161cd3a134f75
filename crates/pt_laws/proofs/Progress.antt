-- A turn at a platform's next reading does something.
use Rattle.std.proofs.Common.{◌≡◌, ℕ, zero, suc, ◌+◌, ◌<◌, ◌≤◌, ◌==◌, ◌⊎◌, ◌≢◌, Bool, true, false, List, [], ◌∷◌, ◌++◌, Option, Some, None, ℤ, pos, ◌+ℤ◌, ◌-ℤ◌, ◌≤ℤ◌, length, map, slice_index_or, arith, refl, sym, ap, subst, ◌∙◌, inl, inr, ⊎_elim, nat_le, le-leb}
use Rattle.std.proofs.lemmas.Bool.{cases_Bool, cases_lt, false≢true, cond-true}
use Rattle.std.proofs.lemmas.Int.{ints}
use Rattle.std.specs.List.{flat_map, range_with_len}
use Rattle.pt_types.specs.declared.graph.Graph.{Graph}
use Rattle.pt_tags.specs.declared.tag.Tag.{Tag}
use Rattle.pt_tags.specs.declared.tag.Delay.{Delay}
use Rattle.pt_types.specs.declared.graph.Actor.{Actor}
use Rattle.pt_types.specs.declared.kind.Kind.TheVariants.{Sensor, Receive}
use Rattle.pt_types.specs.declared.graph.Unit.{Unit}
use Rattle.pt_tags.specs.Tags.{Before, UpTo, plus}
use Rattle.pt_types.specs.Ports.{when}
use Rattle.pt_semantics.specs.Lists.{or_else, IsIn}
use Rattle.pt_semantics.specs.Edges.{Edge, wires, links}
use Rattle.pt_types.specs.Groups.{no_actor}
use Rattle.pt_types.specs.Lookups.{kind_of, platform_of}
use Rattle.pt_semantics.specs.Units.{target, at_input, at_output, HasEvent}
use Rattle.pt_types.specs.Groups.{input_group}
use Rattle.pt_semantics.specs.Ranks.{sum_along}
use Rattle.pt_semantics.specs.Paths.{Goes}
use Rattle.pt_semantics.specs.Bounds.{Feeds, bound_of, link_bound}
use Rattle.pt_semantics.specs.Wired.{IsWired}
use Rattle.pt_semantics.specs.Cycles.{HasLevels}
use Rattle.pt_types.specs.declared.rows.Row.{Row}
use Rattle.pt_types.specs.declared.firing.OnLink.{OnLink}
use Rattle.pt_types.specs.declared.rows.RowAt.{RowAt}
use Rattle.pt_semantics.specs.Platform.{State, raised, opened}
use Rattle.pt_semantics.specs.Turn.{Turn, IsTurn}
use Rattle.pt_semantics.specs.Safe.{NothingSafe}
use Rattle.pt_semantics.specs.History.{Legal}
use Rattle.pt_semantics.specs.Posting.{Posts}
use Rattle.pt_semantics.specs.Taking.{Takes, after_message, with_taken, IsOnTime}
use Rattle.pt_semantics.specs.Claiming.{Claims}
use Rattle.pt_semantics.specs.Closing.{CanClose, shut}
use Rattle.pt_semantics.specs.Entering.{after_rows, due, all_due}
use Rattle.pt_semantics.specs.Rows.{FitsRow, FitRows}
use Rattle.pt_semantics.specs.Paced.{IsPaced, paced_by, IsClosing, IsNextReading}
use Rattle.pt_laws.specs.TurnTheorems.{TurnsMove}
use Rattle.pt_laws.specs.PacedReadings.{PacedAlongPaths}
use Rattle.pt_semantics.specs.Candidates.HasMoved.{Posted, Entered, Claimed, Closed, Full}
use Rattle.pt_laws.proofs.Induction.{by_three, Lower}
use Rattle.pt_semantics.proofs.Longest.{levels_grow}
use Rattle.pt_semantics.proofs.Tags.{cases_tags}
use Rattle.pt_semantics.proofs.Lookups.{none_some, IsIn-append_left}
use Rattle.pt_semantics.proofs.Floor.{path_grows}
use Rattle.pt_semantics.proofs.Claiming.{has_event}
use Rattle.pt_laws.proofs.FloorHolds.{opened_sound, legal_sound}
use Rattle.pt_laws.proofs.Once.{absent}
use Rattle.pt_semantics.proofs.Least.{paced_meets}
use Rattle.pt_laws.proofs.PacedClosed.{paced_on, there, from_some}
use Rattle.pt_laws.proofs.Candidates.{more_there}
use Rattle.pt_laws.proofs.Home.{home_in_turn}

-- paths
pub goes_on : (g : Graph) (x y a : Unit) (p q : List Edge) → Goes g x p y → Goes g y q a → Goes g x (p ++ q) a
goes_on g x y a [] q h k = subst (λ z. Goes g z q a) (sym h) k
goes_on g x y a (e ∷ p) q (m, src, rest) k = (m, src, goes_on g (target g e) y a p q rest k)

pub sum_on : (p q : List Edge) → (sum_along (p ++ q)).time ≡ (sum_along p).time + (sum_along q).time
sum_on [] q = omega arith
sum_on (e ∷ p) q = let ih : (sum_along (p ++ q)).time ≡ (sum_along p).time + (sum_along q).time = sum_on p q in omega arith

pub goes_home : (g : Graph) → IsWired g → (path : List Edge) (x a : Unit) → Goes g x path a → platform_of g x.actor ≡ platform_of g a.actor
goes_home g wired [] x a h = ap (λ (z : Unit). platform_of g z.actor) h
goes_home g wired (e ∷ path) x a (mem, src, rest) =
    ap (λ (z : Unit). platform_of g z.actor) (sym src) ∙ wired.at_home e mem ∙ goes_home g wired path (target g e) a rest

path_rises : (g : Graph) (level : ℕ → ℕ) → HasLevels g level → (path : List Edge) (x a : Unit) → Goes g x path a → x ≢ a → (sum_along path).time ≡ 0 → level x.actor < level a.actor
path_rises g level up [] x a go ne z = absurd (ne go)
path_rises g level up (e ∷ path) x a (mem, src, go) ne z =
    let here : level e.from < level e.to = up e (IsIn-append_left e (wires g) (links g) mem) (omega arith) in
    let rest : level e.to ≤ level a.actor = path_grows g level up path (target g e) a go (omega arith) in
    let es : level e.from ≡ level x.actor = ap (λ (w : Unit). level w.actor) src in
    omega arith

pub cases_before : (t u : Tag) → Before t u ⊎ UpTo u t
cases_before t u =
    ⊎_elim
    (λ (e : t ≡ u). inr (subst (λ z. UpTo z t) e (same t)))
    (λ (o : Before t u ⊎ Before u t). ⊎_elim (λ (b : Before t u). inl b) (λ (b : Before u t). inr (weak u t b)) o)
    (cases_tags t u)
  where
    same : (z : Tag) → UpTo z z
    same z = omega arith

    weak : (y z : Tag) → Before y z → UpTo y z
    weak y z h = omega arith

pub lower_same : (w t : Tag) (k : ℕ) → Before w t → Lower w.time w.step k t.time t.step k
lower_same w t k h = grind arith

lower_path : (w t : Tag) (d : Delay) (m k : ℕ) → UpTo (plus w d) t → (d.time ≡ 0 → m < k) → Lower w.time w.step m t.time t.step k
lower_path w t d m k h up = grind arith

-- no row and no message comes to u at t or before, from reading r on
abbrev pub IsMet : Graph → ℕ → Unit → Tag → Type 0
IsMet g r u t = (a b : ℕ) (path : List Edge) → Feeds g a b path u → t.time + b < r + (sum_along path).time

-- where nothing is open and nothing is safe, no event waits that nothing can come before
pub nothing_met : (g : Graph) (level : ℕ → ℕ) (s : State) (r : ℕ) → HasLevels g level → ((u : Unit) → s.busy u ≡ None) → NothingSafe g s.waits s.busy r → (u : Unit) (t : Tag) → HasEvent g s.waits u t → IsMet g r u t → ⊥
nothing_met g level s r up free none u t event met =
    by_three (λ x y z. (v : Unit) (w : Tag) → w.time ≡ x → w.step ≡ y → level v.actor ≡ z → HasEvent g s.waits v w → IsMet g r v w → ⊥)
    (λ x y z rest v w ex ey ez. one x y z rest v w ex ey ez)
    t.time t.step (level u.actor) u t refl refl refl event met
  where
    of_same : (x y z : ℕ) (v : Unit) (w k : Tag) → w.time ≡ x → w.step ≡ y → level v.actor ≡ z → Before k w → Lower k.time k.step (level v.actor) x y z
    of_same x y z v w k ex ey ez b =
        subst (λ n. Lower k.time k.step (level v.actor) n y z) ex (subst (λ n. Lower k.time k.step (level v.actor) w.time n z) ey (subst (λ n. Lower k.time k.step (level v.actor) w.time w.step n) ez (lower_same k w (level v.actor) b)))

    of_path : (x y z : ℕ) (v o : Unit) (w k : Tag) (d : Delay) → w.time ≡ x → w.step ≡ y → level v.actor ≡ z → UpTo (plus k d) w → (d.time ≡ 0 → level o.actor < level v.actor) → Lower k.time k.step (level o.actor) x y z
    of_path x y z v o w k d ex ey ez le lt =
        subst (λ n. Lower k.time k.step (level o.actor) n y z) ex (subst (λ n. Lower k.time k.step (level o.actor) w.time n z) ey (subst (λ n. Lower k.time k.step (level o.actor) w.time w.step n) ez (lower_path k w d (level o.actor) (level v.actor) le lt)))

    one : (x y z : ℕ) → ((a b c : ℕ) → Lower a b c x y z → (v : Unit) (w : Tag) → w.time ≡ a → w.step ≡ b → level v.actor ≡ c → HasEvent g s.waits v w → IsMet g r v w → ⊥) → (v : Unit) (w : Tag) → w.time ≡ x → w.step ≡ y → level v.actor ≡ z → HasEvent g s.waits v w → IsMet g r v w → ⊥
    one x y z rest v w ex ey ez ev met_v = none v w (record {
      event = ev;
      free = free v;
      bounds = met_v;
      least = λ k h.
          ⊎_elim
          (λ (b : Before k w). absurd (rest k.time k.step (level v.actor) (of_same x y z v w k ex ey ez b) v k refl refl refl h
          (λ a bound path feeds. let m : w.time + bound < r + (sum_along path).time = met_v a bound path feeds in let le : k.time ≤ w.time = b.0 in omega arith)))
          (λ (le : UpTo w k). le)
          (cases_before k w);
      events = λ o k path no h go.
          ⊎_elim
          (λ (b : Before w (plus k (sum_along path))). b)
          (λ (le : UpTo (plus k (sum_along path)) w).
          absurd (rest k.time k.step (level o.actor) (of_path x y z v o w k (sum_along path) ex ey ez le (λ zero_time. path_rises g level up path o v go no zero_time)) o k refl refl refl h
          (λ a bound q feeds.
          let m : w.time + bound < r + (sum_along (q ++ path)).time = met_v a bound (q ++ path) (record { bound = feeds.bound; goes = goes_on g (at_output g a 0) o v q path feeds.goes go }) in
          let sum : (sum_along (q ++ path)).time ≡ (sum_along q).time + (sum_along path).time = sum_on q path in
          let le0 : k.time + (sum_along path).time ≤ w.time = le.0 in
          omega arith)))
          (cases_before w (plus k (sum_along path)));
      claims = λ o task path b go. absurd (none_some task (sym (free o) ∙ b));
    })

-- what a turn leaves as it was, up to its claims
pub record Grown (s z : State) : Type 0 where
  pub waits : (a p : ℕ) (t : Tag) (v : ℤ) → s.waits a p t ≡ Some v → z.waits a p t ≡ Some v
  pub busy : (u : Unit) → z.busy u ≡ s.busy u
  pub outbox : (l : ℕ) → z.outbox l ≡ s.outbox l
  pub closed : z.closed ≡ s.closed

pub or_else_left : (x y : Option ℤ) (v : ℤ) → x ≡ Some v → or_else x y ≡ Some v
or_else_left x y v h = ap (λ z. or_else z y) h

pub takes_grown : (g : Graph) (level : ℕ → ℕ) (i : ℕ) (ms : List OnLink) (late : Bool) (s z new : State) → Grown s z → Takes g level i z ms late new → Grown s new
takes_grown g level i [] late s z new k (l, e) = subst (Grown s) (sym e) k
takes_grown g level i (m ∷ ms) late s z new k (link, at, home, orderly, next) =
    ⊎_elim
    (λ (on : IsOnTime z.reading (link_bound g link) m.message × Takes g level i (after_message z m.link link m.message) ms late new).
    takes_grown g level i ms late s (after_message z m.link link m.message) new
    (record { busy = k.busy; outbox = k.outbox; closed = k.closed; waits = λ a p t v h. or_else_left (z.waits a p t) _ v (k.waits a p t v h) })
    on.1)
    (λ (off : (IsOnTime z.reading (link_bound g link) m.message → ⊥) × (ms ≡ []) × (late ≡ true) × (new ≡ with_taken z m.link m.message)).
    subst (Grown s) (sym off.3) (record { busy = k.busy; outbox = k.outbox; closed = k.closed; waits = k.waits }))
    next

pub grown_event : (g : Graph) (s z : State) (u : Unit) (t : Tag) → Grown s z → HasEvent g s.waits u t → HasEvent g z.waits u t
grown_event g s z u t k h =
    more_there (λ p. when (input_group (kind_of g u.actor) p == u.group) (s.waits u.actor p t)) (λ p. when (input_group (kind_of g u.actor) p == u.group) (z.waits u.actor p t))
    (λ p v e. keep (input_group (kind_of g u.actor) p == u.group) (s.waits u.actor p t) (z.waits u.actor p t) v (λ q. k.waits u.actor p t v q) e) h
  where
    keep : (b : Bool) (x y : Option ℤ) (v : ℤ) → (x ≡ Some v → y ≡ Some v) → when b x ≡ Some v → when b y ≡ Some v
    keep true x y v up h = up h
    keep false x y v up h = h

-- rows that are due enter
pub nothing_of : {X Y : Type 0} (f : X → List Y) (xs : List X) (x : X) → IsIn x xs → flat_map f xs ≡ [] → f x ≡ []
nothing_of f [] x m e = absurd m
nothing_of f (y ∷ xs) x m e =
    ⊎_elim
    (λ (s : x ≡ y). ap f s ∙ left_nil (f y) (flat_map f xs) e)
    (λ (n : IsIn x xs). nothing_of f xs x n (right_nil (f y) (flat_map f xs) e))
    m
  where
    left_nil : {Z : Type 0} (a b : List Z) → a ++ b ≡ [] → a ≡ []
    left_nil [] b h = refl
    left_nil (z ∷ a) b h = absurd (cons_nil z (a ++ b) h)
      where
        cons_nil : {Z : Type 0} (z : Z) (c : List Z) → z ∷ c ≡ [] → ⊥
        cons_nil z c h = cc

    right_nil : {Z : Type 0} (a b : List Z) → a ++ b ≡ [] → b ≡ []
    right_nil [] b h = h
    right_nil (z ∷ a) b h = absurd (cons_nil z (a ++ b) h)
      where
        cons_nil : {Z : Type 0} (z : Z) (c : List Z) → z ∷ c ≡ [] → ⊥
        cons_nil z c h = cc

pub in_range : (n a k : ℕ) → a ≤ k → k < a + n → IsIn k (range_with_len a n)
in_range zero a k le lt = absurd (omega arith)
in_range (suc n) a k le lt =
    ⊎_elim
    (λ (l : a < k). inr (in_range n (a + 1) k (omega arith) (omega arith)))
    (λ (l : k ≤ a). inl (omega arith))
    (cases_lt a k)

pub past_end : (xs : List Actor) (k : ℕ) (d : Actor) → length xs ≤ k → slice_index_or xs k d ≡ d
past_end [] k d h = refl
past_end (x ∷ xs) zero d h = absurd (omega arith)
past_end (x ∷ xs) (suc k) d h = past_end xs k d (omega arith)

pub sensor_in : (g : Graph) (file : List ℕ) (a b : ℕ) → kind_of g a ≡ Sensor file b → a < length g.actors
sensor_in g file a b e = ⊎_elim (λ (l : a < length g.actors). l) (λ (l : length g.actors ≤ a). absurd (clash file b (sym (ap (λ (x : Actor). x.kind) (past_end g.actors a no_actor l)) ∙ e))) (cases_lt a (length g.actors))
  where
    clash : (file : List ℕ) (b : ℕ) → Receive ≡ Sensor file b → ⊥
    clash file b h = cc

pub some_due : (g : Graph) (file : List ℕ) (r a b : ℕ) (left : ℕ → List Row) (row : Row) (rest : List Row) → kind_of g a ≡ Sensor file b → left a ≡ row ∷ rest → row.seen ≤ r → all_due g r left ≡ [] → ⊥
some_due g file r a b left row rest kind is le e =
    let none = nothing_of (λ c. map {B = RowAt} (λ (x : Row). record { sensor = c; row = x }) (due r (left c))) (range_with_len 0 (length g.actors)) a (in_range (length g.actors) 0 a (omega arith) (let l : a < length g.actors = sensor_in g file a b kind in omega arith)) e in
    let have : due r (left a) ≡ row ∷ due r rest = ap (due r) is ∙ cond-true (nat_le row.seen r) (row ∷ due r rest) [] (le-leb row.seen r le) in
    clash a row (due r rest) (sym (ap (map {B = RowAt} (λ (x : Row). record { sensor = a; row = x })) have) ∙ none)
  where
    clash : (a : ℕ) (row : Row) (xs : List Row) → map {B = RowAt} (λ (x : Row). record { sensor = a; row = x }) (row ∷ xs) ≡ [] → ⊥
    clash a row xs h = cc

cases_list : {X : Type 0} (xs : List X) → (xs ≡ []) ⊎ (xs ≡ [] → ⊥)
cases_list [] = inl refl
cases_list (x ∷ xs) = inr (λ h. cons_nil x xs h)
  where
    cons_nil : {Z : Type 0} (z : Z) (c : List Z) → z ∷ c ≡ [] → ⊥
    cons_nil z c h = cc

pub paced_along_paths : PacedAlongPaths
paced_along_paths g x u w t path c d go le from to =
    let on : paced_by from.0 w ≤ paced_by to.0 t =
    paced_on from.0 to.0 w.time t.time
    (λ o is.
    let f = from_some g x from.0 o from.1 is in
    let q = f.some in
    let feeds : Feeds g q.0 q.1 (q.2 ++ path) u = record { bound = q.3.bound; goes = goes_on g (at_output g q.0 0) x u q.2 path q.3.goes go } in
    let k = there g u to.0 to.1 q.0 q.1 (q.2 ++ path) feeds in
    (k.0, k.1, step q.1 (sum_along q.2).time (sum_along (q.2 ++ path)).time (sum_along path).time w.time t.time o k.0 q.4 (sum_on q.2 path) le.0 k.2))
    w t refl refl in
    subst (λ n. n ≤ d) (sym from.2) (subst (λ n. paced_by from.0 w ≤ n) (sym to.2) on)
  where
    step : (b m m2 n s z : ℕ) (o r : ℤ) → (pos b -ℤ pos m) ≡ o → m2 ≡ m + n → s + n ≤ z → (pos b -ℤ pos m2) ≤ℤ r → (pos s +ℤ o) ≤ℤ (pos z +ℤ r)
    step b m m2 n s z o r e1 e2 l h = omega (arith, ints)

-- what reads a unit's bounds: all rows and messages of a platform end before its closing reading
pub closing_bounds : (g : Graph) (i c r : ℕ) → IsClosing g i c → c ≤ r → (x b : ℕ) → platform_of g x ≡ i → bound_of g x ≡ Some b → g.until + b < r
closing_bounds g i c r how le x b home bound =
    ⊎_elim
    (λ (none : (c ≡ 0) × ((a d : ℕ) → platform_of g a ≡ i → bound_of g a ≡ Some d → ⊥)). absurd (none.1 x b home bound))
    (λ (some : ((a d : ℕ) × (platform_of g a ≡ i) × (bound_of g a ≡ Some d) × (c ≡ g.until + d + 1)) × ((a d : ℕ) → platform_of g a ≡ i → bound_of g a ≡ Some d → g.until + d + 1 ≤ c)).
    let l : g.until + b + 1 ≤ c = some.1 x b home bound in omega arith)
    how

module _ (g : Graph) (level : ℕ → ℕ) (i : ℕ) (rows : ℕ → List Row) (turns : List Turn) (turn : Turn) (s new : State) (wired : IsWired g) (up : HasLevels g level) (fits : FitRows g rows) (legal : Legal g level i (opened g i rows) turns s)
    (open_still : s.closed ≡ false) (sent_all : (l : ℕ) → s.outbox l ≡ []) (is : IsTurn g level i s turn false new) (handed : (u : Unit) → is.posted.busy u ≡ None) where
  grown : turn.posted ≡ [] → Grown s (raised is.got turn.last)
  grown none =
      let same : is.posted ≡ s = subst (λ z. Posts g s z is.posted) none is.posts in
      let begin : Grown s (after_rows is.posted turn.last) = subst (λ z. Grown s (after_rows z turn.last)) (sym same) (record { waits = λ a p t v h. or_else_left (s.waits a p t) _ v h; busy = λ u. refl; outbox = λ l. refl; closed = refl }) in
      let got = takes_grown g level i turn.taken false s (after_rows is.posted turn.last) is.got begin is.takes in
      record { waits = got.waits; busy = got.busy; outbox = got.outbox; closed = got.closed }

  free_then : turn.posted ≡ [] → (u : Unit) → is.got.busy u ≡ None
  free_then none u =
      let same : is.posted ≡ s = subst (λ z. Posts g s z is.posted) none is.posts in
      (grown none).busy u ∙ ap (λ (z : State). z.busy u) (sym same) ∙ handed u

  ready_is : turn.claimed ≡ [] → is.ready ≡ raised is.got turn.last
  ready_is none = subst (λ z. Claims g turn.last (raised is.got turn.last) z is.ready) none is.claims

  -- where it posts, enters and claims nothing and doesn't close, a unit is safe
  moves : (c : ℕ) → IsNextReading g i s c → c ≤ turn.last → turn.posted ≡ [] → turn.rows ≡ [] → turn.claimed ≡ [] → (new.closed ≡ true → ⊥) → NothingSafe g is.ready.waits is.ready.busy turn.last → ⊥
  moves c next le none_posted none_entered none_claimed open_then nothing =
      ⊎_elim
      (λ (row : (a : ℕ) × (row : Row) × (rest : List Row) × (s.left a ≡ row ∷ rest) × (c ≡ row.seen)).
      let sound = legal_sound g level i turns (opened g i rows) s (λ u. []) wired up (opened_sound g i rows fits) legal in
      let fit : FitsRow g row.0 row.1 = sound.rest.fit row.0 row.1 (subst (IsIn row.1) (sym row.3) (inl refl)) in
      some_due g fit.file turn.last row.0 fit.bound s.left row.1 row.2 fit.sensor row.3 (subst (λ n. n ≤ turn.last) row.4 le) (sym is.rows ∙ none_entered))
      (λ (rest : ((u : Unit) × (t : Tag) × HasEvent g s.waits u t × ((w : Tag) → HasEvent g s.waits u w → UpTo t w) × (s.busy u ≡ None) × IsPaced g u t c) ⊎ IsClosing g i c).
      ⊎_elim
      (λ (event : (u : Unit) × (t : Tag) × HasEvent g s.waits u t × ((w : Tag) → HasEvent g s.waits u w → UpTo t w) × (s.busy u ≡ None) × IsPaced g u t c).
      nothing_met g level ready turn.last up free no_safe event.0 event.1 (grown_event g s ready event.0 event.1 (grown none_posted) event.2)
      (λ a b path feeds. paced_meets g event.0 event.1 c turn.last event.5 le a b path feeds))
      (λ (closing : IsClosing g i c). closes_then closing)
      rest)
      next.0
    where
      ready : State
      ready = raised is.got turn.last

      no_safe : NothingSafe g ready.waits ready.busy turn.last
      no_safe = subst (λ z. NothingSafe g z.waits z.busy turn.last) (ready_is none_claimed) nothing

      free : (u : Unit) → ready.busy u ≡ None
      free u = free_then none_posted u

      closes_then : IsClosing g i c → ⊥
      closes_then closing =
          let home = home_in_turn g level i rows turns s new turn false wired up fits legal is in
          let bounds = closing_bounds g i c turn.last closing le in
          let can : CanClose g i ready turn.last = record {
            was_open = (grown none_posted).closed ∙ open_still;
            bounds = bounds;
            nothing_open = free;
            nothing_to_send = λ l. (grown none_posted).outbox l ∙ sent_all l;
            nothing_waits = λ a p t. absent (ready.waits a p t) (λ v h.
                let at = home.waits a p t v h in
                nothing_met g level ready turn.last up free no_safe (at_input g a p) t (has_event g ready.waits a p t v at.1 h)
                (λ x b path feeds.
                let b_lt : g.until + b < turn.last = bounds x b (goes_home g wired path (at_output g x 0) (at_input g a p) feeds.goes ∙ at.0) feeds.bound in
                let t_le : t.time ≤ g.until = at.2 in
                omega arith));
          } in
          let can2 : CanClose g i is.ready turn.last = subst (λ z. CanClose g i z turn.last) (sym (ready_is none_claimed)) can in
          ⊎_elim
          (λ (shuts : CanClose g i is.ready turn.last × (false ≡ false) × (is.done ≡ shut g i is.ready)). open_then (ap (λ (z : State). z.closed) is.sends.1 ∙ ap (λ (z : State). z.closed) shuts.2))
          (λ (stays : (CanClose g i is.ready turn.last → false ≡ true) × (is.done ≡ is.ready)). false≢true (stays.0 can2))
          is.closes

pub turns_move : TurnsMove
turns_move g level i rows turns turn s new c wired are fits legal open_still sent_all next le is handed =
    let up = levels_grow g level are in
    ⊎_elim
    (λ (p : turn.posted ≡ []).
    ⊎_elim
    (λ (e : turn.rows ≡ []).
    ⊎_elim
    (λ (k : turn.claimed ≡ []).
    ⊎_elim
    (λ (t : new.closed ≡ true). Closed t)
    (λ (f : new.closed ≡ false).
    let never : NothingSafe g is.ready.waits is.ready.busy turn.last → ⊥ = moves g level i rows turns turn s new wired up fits legal open_still sent_all is handed c next le p e k (λ t. false≢true (sym f ∙ t)) in
    ⊎_elim
    (λ (l : false ≡ true). absurd (false≢true l))
    (λ (o : NothingSafe g is.ready.waits is.ready.busy turn.last ⊎ (g.claims ≤ s.claims)). ⊎_elim (λ (n : NothingSafe g is.ready.waits is.ready.busy turn.last). absurd (never n)) (λ (many : g.claims ≤ s.claims). Full many never) o)
    (is.greedy k))
    (cases_Bool new.closed))
    (λ (k : turn.claimed ≡ [] → ⊥). Claimed k)
    (cases_list turn.claimed))
    (λ (e : turn.rows ≡ [] → ⊥). Entered e)
    (cases_list turn.rows))
    (λ (p : turn.posted ≡ [] → ⊥). Posted p)
    (cases_list turn.posted)
