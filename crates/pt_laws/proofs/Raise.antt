-- After a quiet round all is done whose paced reading is before the next common reading.
use Rattle.std.proofs.Common.{take, ◌-◌, ◌≡◌, ℕ, zero, suc, ◌+◌, ◌<◌, ◌≤◌, ◌⊎◌, ◌&&◌, true, false, List, [], ◌∷◌, ◌++◌, Option, Some, None, ℤ, length, slice_get, arith, refl, sym, ap, subst, ◌∙◌, inl, inr, ⊎_elim, append-nil}
use Rattle.std.proofs.lemmas.Bool.{cases_lt, and_parts, cases_Bool, false≢true}
use Rattle.pt_types.specs.declared.graph.Graph.{Graph}
use Rattle.pt_types.specs.declared.graph.Link.{Link}
use Rattle.pt_tags.specs.declared.tag.Tag.{Tag}
use Rattle.pt_types.specs.declared.graph.Unit.{Unit}
use Rattle.pt_tags.specs.Tags.{Before, UpTo}
use Rattle.pt_semantics.specs.Lists.{IsIn}
use Rattle.pt_types.specs.Lookups.{platform_of}
use Rattle.pt_semantics.specs.Units.{at_input, HasEvent}
use Rattle.pt_semantics.specs.Wired.{IsWired}
use Rattle.pt_semantics.specs.Offsets.{HasOffset}
use Rattle.pt_semantics.specs.Cycles.{HasLevels}
use Rattle.pt_semantics.specs.Bounds.{bound_of, link_bound}
use Rattle.pt_types.specs.declared.rows.Row.{Row}
use Rattle.pt_types.specs.declared.firing.Task.{Task}
use Rattle.pt_semantics.specs.Platform.{State, raised, opened}
use Rattle.pt_semantics.specs.Turn.{Turn, is_quiet, is_empty}
use Rattle.pt_tags.specs.declared.message.Message.{Message}
use Rattle.pt_semantics.specs.Safe.{IsSafe, NothingSafe}
use Rattle.pt_semantics.specs.Linked.{all_sent, all_taken}
use Rattle.pt_semantics.specs.Posting.{Posts}
use Rattle.pt_semantics.specs.Taking.{Takes}
use Rattle.pt_semantics.specs.Claiming.{Claims}
use Rattle.pt_semantics.specs.Closing.{CanClose, shut, unsent, on_link}
use Rattle.pt_semantics.specs.Entering.{after_rows}
use Rattle.pt_semantics.specs.History.{claims_of, LegalOnTime}
use Rattle.pt_tags.specs.declared.message.Message.TheVariants.{Event}
use Rattle.pt_semantics.specs.Rows.{FitRows, NeverFalls}
use Rattle.pt_semantics.specs.Paced.{paced_by, IsCandidate}
use Rattle.pt_semantics.specs.Rounds.{Makes}
use Rattle.pt_semantics.specs.Visits.{IsVisit, VisitRecord, RunState, run_at_start}
use Rattle.pt_laws.proofs.Induction.{by_three, Lower}
use Rattle.pt_semantics.proofs.Lookups.{none_some, Each-in}
use Rattle.pt_semantics.proofs.Claiming.{has_event}
use Rattle.pt_laws.proofs.Walks.{Whole, on_time_history}
use Rattle.pt_laws.proofs.Progress.{cases_before, lower_same}
use Rattle.pt_laws.proofs.Home.{Home, home_on_time}
use Rattle.pt_laws.proofs.PacedClosed.{paced_earlier}
use Rattle.pt_laws.proofs.Onward.{OnwardNear}
use Rattle.pt_laws.proofs.Paces.{Later}

-- an event waits no sooner than its unit's least event, which is a candidate
pub no_sooner : (g : Graph) (i : ℕ) (s : State) (b : ℕ) (offset : Unit → Option ℤ) (u : Unit) → HasOffset g u (offset u) → s.busy u ≡ None → ((d : ℕ) → IsCandidate g i s d → b ≤ d) → (t : Tag) → HasEvent g s.waits u t → b ≤ paced_by (offset u) t
no_sooner g i s b offset u has free least t event =
    ⊎_elim
    (λ (low : paced_by (offset u) t < b). absurd (never t event low))
    (λ (h : b ≤ paced_by (offset u) t). h)
    (cases_lt (paced_by (offset u) t) b)
  where
    clash : (m n : ℕ) → m ≤ n → n < m → ⊥
    clash m n x y = omega arith

    trans_lt : (k m n : ℕ) → k ≤ m → m < n → k < n
    trans_lt k m n x y = omega arith

    of_same : (x y : ℕ) (w k : Tag) → w.time ≡ x → w.step ≡ y → Before k w → Lower k.time k.step 0 x y 0
    of_same x y w k ex ey h = subst (λ n. Lower k.time k.step 0 n y 0) ex (subst (λ n. Lower k.time k.step 0 w.time n 0) ey (lower_same k w 0 h))

    one : (x y z : ℕ) → ((a b2 c : ℕ) → Lower a b2 c x y z → (w : Tag) → w.time ≡ a → w.step ≡ b2 → 0 ≡ c → HasEvent g s.waits u w → paced_by (offset u) w < b → ⊥) → (w : Tag) → w.time ≡ x → w.step ≡ y → 0 ≡ z → HasEvent g s.waits u w → paced_by (offset u) w < b → ⊥
    one x y z rest w ex ey ez ev low =
        clash b (paced_by (offset u) w)
        (least (paced_by (offset u) w) (inr (inl (
          u,
          w,
          ev,
          (λ k h.
              ⊎_elim
              (λ (before : Before k w). absurd (rest k.time k.step 0 (subst (λ n. Lower k.time k.step 0 x y n) ez (of_same x y w k ex ey before)) k refl refl refl h
              (trans_lt (paced_by (offset u) k) (paced_by (offset u) w) b (paced_earlier (offset u) k w before.0) low)))
              (λ (le : UpTo w k). le)
              (cases_before k w)),
          free,
          (offset u, has, refl),
        ))))
        low

    never : (w : Tag) → HasEvent g s.waits u w → paced_by (offset u) w < b → ⊥
    never w ev low = by_three (λ x y z. (k : Tag) → k.time ≡ x → k.step ≡ y → 0 ≡ z → HasEvent g s.waits u k → paced_by (offset u) k < b → ⊥) one w.time w.step 0 w refl refl refl ev low

-- where a platform has nothing open and nothing to send, what it has still to do is not before its candidates
pub later_from : (g : Graph) (level : ℕ → ℕ) (i : ℕ) (rows : ℕ → List Row) (turns : List Turn) (s : State) (b : ℕ) (offset : Unit → Option ℤ) → ((u : Unit) → HasOffset g u (offset u)) → IsWired g → HasLevels g level → FitRows g rows → LegalOnTime g level i (opened g i rows) turns s →
    ((u : Unit) → s.busy u ≡ None) → ((l : ℕ) → s.outbox l ≡ []) → ((p : ℕ) → s.reading ≡ Some p → p ≤ b) → (s.closed ≡ false → (d : ℕ) → IsCandidate g i s d → b ≤ d) → Later g offset b i s
later_from g level i rows turns s b offset has wired up fits legal free sent reading least = record {
  waits = λ a p t v h.
      let at = home.waits a p t v h in (
        at.0,
        ⊎_elim
            (λ (e : s.closed ≡ true). absurd (none_some v (sym ((whole.keeps.is_shut e).waits a p t) ∙ h)))
            (λ (e : s.closed ≡ false). no_sooner g i s b offset (at_input g a p) (has (at_input g a p)) (free (at_input g a p)) (least e) t (has_event g s.waits a p t v at.1 h))
            (cases_Bool s.closed),
      );
  busy = λ u task h. absurd (none_task task (sym (free u) ∙ h));
  left = λ a row m. (
    whole.sound.rest.fit a row m,
    home.left a row m,
    ⊎_elim
        (λ (e : s.closed ≡ true). let none : IsIn row [] = subst (IsIn row) ((whole.keeps.is_shut e).left a) m in absurd none)
        (λ (e : s.closed ≡ false). first_row a (s.left a) refl (whole.sound.rest.order a) (least e) row m)
        (cases_Bool s.closed),
  );
  outbox = λ l link t v at m. let none : IsIn (Event t v) [] = subst (IsIn (Event t v)) (sent l) m in absurd none;
  foreign = λ l f. sent l;
  reading = reading;
}
  where
    whole : Whole g level i rows s s.reading (claims_of g turns) (λ l. all_sent l turns) (λ l. all_taken l turns)
    whole = on_time_history g level i rows wired up fits turns s legal

    home : Home g i s (claims_of g turns)
    home = home_on_time g level i rows turns s wired up fits legal

    none_task : (task : Task) → None ≡ Some task → ⊥
    none_task task e = cc

    first_row : (a : ℕ) (xs : List Row) → s.left a ≡ xs → NeverFalls (s.left a) → ((d : ℕ) → IsCandidate g i s d → b ≤ d) → (row : Row) → IsIn row (s.left a) → b ≤ row.seen
    first_row a [] e order low row m = let none : IsIn row [] = subst (IsIn row) e m in absurd none
    first_row a (x ∷ xs) e order low row m =
        let first : b ≤ x.seen = low x.seen (inl (a, x, xs, e, refl)) in
        ⊎_elim
        (λ (s2 : row ≡ x). subst (λ (z : Row). b ≤ z.seen) (sym s2) first)
        (λ (n : IsIn row xs). let le : x.seen ≤ row.seen = Each-in (λ (y : Row). x.seen ≤ y.seen) xs (subst NeverFalls e order).0 row n in omega arith)
        (subst (IsIn row) e m)

-- quiet turns
pub nothing_in : {X : Type 0} (xs : List X) → is_empty xs ≡ true → xs ≡ []
nothing_in [] h = refl
nothing_in (x ∷ xs) h = absurd (false≢true h)

-- a platform after its turn in a quiet round
pub record Rests (g : Graph) (c i : ℕ) (s : State) (way : ℕ → List Message) : Type 0 where
  pub free : (u : Unit) → s.busy u ≡ None
  pub unsafe : (NothingSafe g s.waits s.busy c → ⊥) → ⊥
  pub stays_open : s.closed ≡ false → CanClose g i s c → ⊥
  pub took_all : (l : ℕ) (link : Link) → slice_get g.links l ≡ Some link → platform_of g link.to ≡ i → way l ≡ []
  pub sent_all : (l : ℕ) → (s.outbox l ≡ []) ⊎ (way l ≡ [] → ⊥)

safe_as : (g : Graph) (s : State) (outbox : ℕ → List Message) (r : ℕ) (u : Unit) (t : Tag) → IsSafe g (unsent s outbox).waits (unsent s outbox).busy r u t → IsSafe g s.waits s.busy r u t
safe_as g s outbox r u t k = record { event = k.event; least = k.least; free = k.free; bounds = k.bounds; events = k.events; claims = k.claims }

takes_busy : (g : Graph) (level : ℕ → ℕ) (i : ℕ) (s new : State) → Takes g level i s [] false new → new ≡ s
takes_busy g level i s new h = h.1

-- where a link has no room for a message, there are messages on their way
pub quiet_visit : (g : Graph) (level : ℕ → ℕ) (most : ℕ) (room : ℕ → ℕ) (c : ℕ) (x y : RunState) (m : VisitRecord) → ((l : ℕ) → room l ≡ 0 → x.on_way l ≡ [] → ⊥) → is_quiet m.turn ≡ true → m.late ≡ false → m.fault ≡ false → (y.at m.platform).closed ≡ (x.at m.platform).closed →
    IsVisit g level most room c x m y → Rests g c m.platform (y.at m.platform) x.on_way × ((l : ℕ) → y.on_way l ≡ x.on_way l)
quiet_visit g level most room c x y m full quiet on_time fine closed k = (
  record {
    free = λ u. ap (λ (z : State). z.busy u) new_is ∙ ap (λ (z : State). z.busy u) ready_is ∙ ap (λ (z : State). z.busy u) got_is ∙ k.handed u;
    unsafe = λ h. no_safe (λ n. h (λ u t safe. n u t (safe_as g k.is.ready rest c u t (subst (λ z. IsSafe g z.waits z.busy c u t) new_is safe))));
    stays_open = λ open_still can.
        ⊎_elim
        (λ (shuts : CanClose g m.platform k.is.ready m.turn.last × (m.late ≡ false) × (k.is.done ≡ shut g m.platform k.is.ready)).
        false≢true (sym open_still ∙ ap (λ (z : State). z.closed) k.is.sends.1 ∙ ap (λ (z : State). z.closed) shuts.2))
        (λ (stays : (CanClose g m.platform k.is.ready m.turn.last → m.late ≡ true) × (k.is.done ≡ k.is.ready)).
        let can2 : CanClose g m.platform k.is.ready m.turn.last = record {
          was_open = sym (ap (λ (z : State). z.closed) new_is) ∙ can.was_open;
          bounds = subst (λ n. (a b : ℕ) → platform_of g a ≡ m.platform → bound_of g a ≡ Some b → g.until + b < n) (sym k.last) can.bounds;
          nothing_waits = λ a p t. sym (ap (λ (z : State). z.waits a p t) new_is) ∙ can.nothing_waits a p t;
          nothing_open = λ u. sym (ap (λ (z : State). z.busy u) new_is) ∙ can.nothing_open u;
          nothing_to_send = λ l.
              ap (λ (z : State). z.outbox l) (sym stays.1) ∙ k.is.sends.2 l ∙ ap (λ z. z ++ rest l) (ap (on_link l) sent_none)
              ∙ sym (ap (λ (z : State). z.outbox l) k.is.sends.1) ∙ can.nothing_to_send l;
        } in
        false≢true (sym on_time ∙ stays.0 can2))
        k.is.closes;
    took_all = λ l link at home.
        k.takes l ∙ ap (λ z. z ++ k.rest l) (ap (on_link l) taken_none) ∙ k.takes_all on_time l link at home;
    sent_all = λ l. unsent_stays l (room l) refl;
  },
  way_is,
)
  where
    q1 : (is_empty m.turn.posted && is_empty m.turn.rows && is_empty m.turn.taken && is_empty m.turn.claimed ≡ true) × (is_empty m.turn.sent ≡ true)
    q1 = and_parts (is_empty m.turn.posted && is_empty m.turn.rows && is_empty m.turn.taken && is_empty m.turn.claimed) (is_empty m.turn.sent) quiet

    q2 : (is_empty m.turn.posted && is_empty m.turn.rows && is_empty m.turn.taken ≡ true) × (is_empty m.turn.claimed ≡ true)
    q2 = and_parts (is_empty m.turn.posted && is_empty m.turn.rows && is_empty m.turn.taken) (is_empty m.turn.claimed) q1.0

    taken_none : m.turn.taken ≡ []
    taken_none = nothing_in m.turn.taken (and_parts (is_empty m.turn.posted && is_empty m.turn.rows) (is_empty m.turn.taken) q2.0).1

    q3 : (is_empty m.turn.posted ≡ true) × (is_empty m.turn.rows ≡ true)
    q3 = and_parts (is_empty m.turn.posted) (is_empty m.turn.rows) (and_parts (is_empty m.turn.posted && is_empty m.turn.rows) (is_empty m.turn.taken) q2.0).0

    posted_is : k.is.posted ≡ x.at m.platform
    posted_is = subst (λ z. Posts g (x.at m.platform) z k.is.posted) (nothing_in m.turn.posted q3.0) k.is.posts

    claimed_none : m.turn.claimed ≡ []
    claimed_none = nothing_in m.turn.claimed q2.1

    sent_none : m.turn.sent ≡ []
    sent_none = nothing_in m.turn.sent q1.1

    rest : ℕ → List Message
    rest = k.is.sends.0

    take_none : (n : ℕ) (xs : List Message) → take (suc n) xs ≡ [] → xs ≡ []
    take_none n [] h = refl
    take_none n (z ∷ zs) h = absurd (never z (take n zs) h)
      where
        never : (z : Message) (zs : List Message) → z ∷ zs ≡ [] → ⊥
        never z zs h = cc

    outbox_is : (l : ℕ) → (y.at m.platform).outbox l ≡ k.is.done.outbox l
    outbox_is l = ap (λ (z : State). z.outbox l) k.is.sends.1 ∙ sym (k.is.sends.2 l ∙ ap (λ z. z ++ rest l) (ap (on_link l) sent_none))

    -- what is not sent finds the link full
    unsent_stays : (l n : ℕ) → room l ≡ n → ((y.at m.platform).outbox l ≡ []) ⊎ (x.on_way l ≡ [] → ⊥)
    unsent_stays l zero e = inr (full l e)
    unsent_stays l (suc n) e = inl (outbox_is l ∙ take_none n (k.is.done.outbox l) (sym (ap (λ j. take j (k.is.done.outbox l)) e) ∙ sym (k.sends_all l) ∙ ap (on_link l) sent_none))

    way_is : (l : ℕ) → y.on_way l ≡ x.on_way l
    way_is l =
        k.sends l ∙ ap (λ z. k.rest l ++ z) (ap (on_link l) sent_none) ∙ append-nil (k.rest l)
        ∙ sym (k.takes l ∙ ap (λ z. z ++ k.rest l) (ap (on_link l) taken_none))

    got_is : (raised k.is.got m.turn.last) ≡ raised (after_rows k.is.posted m.turn.last) m.turn.last
    got_is = ap (λ (z : State). raised z m.turn.last) (takes_busy g level m.platform (after_rows k.is.posted m.turn.last) k.is.got
        (subst (λ b. Takes g level m.platform (after_rows k.is.posted m.turn.last) [] b k.is.got) on_time
        (subst (λ z. Takes g level m.platform (after_rows k.is.posted m.turn.last) z m.late k.is.got) taken_none k.is.takes)))

    ready_is : k.is.ready ≡ raised k.is.got m.turn.last
    ready_is = subst (λ z. Claims g m.turn.last (raised k.is.got m.turn.last) z k.is.ready) claimed_none k.is.claims

    done_is : k.is.done ≡ k.is.ready
    done_is =
        ⊎_elim
        (λ (shuts : CanClose g m.platform k.is.ready m.turn.last × (m.late ≡ false) × (k.is.done ≡ shut g m.platform k.is.ready)).
        -- it would have closed
        absurd (false≢true (sym shuts.0.was_open ∙ ap (λ (z : State). z.closed) ready_is ∙ ap (λ (z : State). z.closed) got_is ∙ ap (λ (z : State). z.closed) posted_is ∙ sym closed ∙ ap (λ (z : State). z.closed) k.is.sends.1 ∙ ap (λ (z : State). z.closed) shuts.2)))
        (λ (stays : (CanClose g m.platform k.is.ready m.turn.last → m.late ≡ true) × (k.is.done ≡ k.is.ready)). stays.1)
        k.is.closes

    new_is : y.at m.platform ≡ unsent k.is.ready rest
    new_is = k.is.sends.1 ∙ ap (λ z. unsent z rest) done_is

    no_safe : (NothingSafe g k.is.ready.waits k.is.ready.busy c → ⊥) → ⊥
    no_safe h =
        ⊎_elim
        (λ (l : m.late ≡ true). false≢true (sym on_time ∙ l))
        (λ (o : NothingSafe g k.is.ready.waits k.is.ready.busy m.turn.last ⊎ (g.claims ≤ (x.at m.platform).claims)).
        ⊎_elim
        (λ (n : NothingSafe g k.is.ready.waits k.is.ready.busy m.turn.last). h (subst (λ r. NothingSafe g k.is.ready.waits k.is.ready.busy r) k.last n))
        (λ (many : g.claims ≤ (x.at m.platform).claims). false≢true (sym fine ∙ k.faults.0 (inr (many, h))))
        o)
        (k.is.greedy claimed_none)

pub quiet_makes : (g : Graph) (level : ℕ → ℕ) (c : ℕ) (x y : RunState) (m : VisitRecord) → is_quiet m.turn ≡ true → m.late ≡ false → m.fault ≡ false → (y.at m.platform).closed ≡ (x.at m.platform).closed → Makes g level c x m y → Rests g c m.platform (y.at m.platform) x.on_way × ((l : ℕ) → y.on_way l ≡ x.on_way l)
quiet_makes g level c x y m quiet on_time fine closed k = quiet_visit g level 64 (λ l. 64 - length (x.on_way l)) c x y m (λ l. full (x.on_way l)) quiet on_time fine closed k
  where
    full : (way : List Message) → 64 - length way ≡ 0 → way ≡ [] → ⊥
    full [] e none = absurd (omega (arith, e))
    full (z ∷ zs) e none = cc

-- platforms that have nothing open and nothing to send go on to later readings, up to what they have still to do
module _ (g : Graph) (level : ℕ → ℕ) (rows : ℕ → List Row) (offset : Unit → Option ℤ) (has : (u : Unit) → HasOffset g u (offset u)) (wired : IsWired g) (up : HasLevels g level) (fits : FitRows g rows) where
  pub raise_near : (c b : ℕ → ℕ) (y : RunState) → OnwardNear g level rows offset c y → ((i : ℕ) → i < length g.platforms → c i ≤ b i) → ((i : ℕ) → i < length g.platforms → (u : Unit) → (y.at i).busy u ≡ None) → ((i : ℕ) → i < length g.platforms → (l : ℕ) → (y.at i).outbox l ≡ []) →
      ((i : ℕ) → i < length g.platforms → (y.at i).closed ≡ false → (d : ℕ) → IsCandidate g i (y.at i) d → b i ≤ d) →
      ((l : ℕ) (link : Link) (t : Tag) (v : ℤ) → slice_get g.links l ≡ Some link → IsIn (Event t v) (y.on_way l) → b (platform_of g link.to) ≤ t.time + link_bound g link) → OnwardNear g level rows offset b y
  raise_near c b y h rises free sent next way = record {
    legal = h.legal;
    linked = h.linked;
    timed = h.timed;
    way = way;
    later = λ i lt. later_from g level i rows (y.did i) (y.at i) (b i) offset has wired up fits (h.legal i lt) (free i lt) (sent i lt)
        (λ p e. let le : p ≤ c i = (h.later i lt).reading p e in let more : c i ≤ b i = rises i lt in omega (arith, le, more))
        (next i lt);
  }

  pub start_near : (b : ℕ → ℕ) → ((i : ℕ) → i < length g.platforms → (d : ℕ) → IsCandidate g i (opened g i rows) d → b i ≤ d) → OnwardNear g level rows offset b (run_at_start g rows)
  start_near b next = record {
    legal = λ i lt. refl;
    later = λ i lt. later_from g level i rows [] (opened g i rows) (b i) offset has wired up fits refl (λ u. refl) (λ l. refl) (λ p e. absurd (none_some p e)) (λ e d cand. next i lt d cand);
    way = λ l link t v at m. absurd m;
    linked = λ l link at. refl;
    timed = λ i lt. tt;
  }
