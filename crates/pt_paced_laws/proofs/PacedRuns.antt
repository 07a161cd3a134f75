-- In a paced run no message is late, each claim is made at its paced reading, and what is past is the meaning.
use Rattle.std.proofs.Common.{◌≡◌, ℕ, zero, suc, ◌+◌, ◌<◌, ◌≤◌, ◌⊎◌, ◌≢◌, true, false, List, [], ◌∷◌, ◌++◌, Option, Some, None, ℤ, length, slice_get, arith, refl, sym, ap, subst, ◌∙◌, inl, inr, ⊎_elim}
use Rattle.std.proofs.lemmas.Bool.{cases_lt, false≢true}
use Rattle.pt_types.specs.declared.graph.Graph.{Graph}
use Rattle.pt_types.specs.declared.graph.Link.{Link}
use Rattle.pt_types.specs.declared.kind.Kind.TheVariants.{Actuator}
use Rattle.pt_tags.specs.declared.tag.Tag.{Tag}
use Rattle.pt_types.specs.declared.graph.Unit.{Unit}
use Rattle.pt_tags.specs.Tags.{UpTo, plus, zero_delay}
use Rattle.pt_semantics.specs.Lists.{IsIn, Each}
use Rattle.pt_types.specs.Lookups.{kind_of, platform_of}
use Rattle.pt_semantics.specs.Units.{at_input, at_output, unit_of, HasEvent}
use Rattle.pt_semantics.specs.Wired.{IsWired}
use Rattle.pt_semantics.specs.Offsets.{IsFeasible, HasOffset}
use Rattle.pt_semantics.specs.Cycles.{HasLevels}
use Rattle.pt_types.specs.Lookups.{slack_of}
use Rattle.pt_semantics.specs.Ranks.{AreLevels}
use Rattle.pt_types.specs.declared.rows.Row.{Row}
use Rattle.pt_types.specs.declared.firing.Done.{Done}
use Rattle.pt_semantics.specs.Platform.{State}
use Rattle.pt_semantics.specs.Turn.{is_quiet}
use Rattle.pt_tags.specs.declared.message.Message.{Message}
use Rattle.pt_semantics.specs.Linked.{IsFinished, all_sent, all_taken}
use Rattle.pt_semantics.specs.Orderly.{InOrder, ComesAfter, IsOrderly}
use Rattle.pt_semantics.specs.History.{claims_of}
use Rattle.pt_tags.specs.declared.message.Message.TheVariants.{Event, End}
use Rattle.pt_semantics.specs.Rows.{FitRows}
use Rattle.pt_semantics.specs.Paced.{paced_by, IsClosing, IsPaced}
use Rattle.pt_semantics.specs.Rounds.{Makes, Round, IsQuietRound, IsLeastNext, Rounds, IsPacedRun}
use Rattle.pt_semantics.specs.Visits.{RunState, run_at_start, VisitRecord}
use Rattle.pt_paced_laws.specs.PacedTheorems.{NoneLate, TimelyWhenPaced, MissedWhenPaced}
use Rattle.pt_semantics.proofs.Longest.{levels_grow}
use Rattle.pt_semantics.proofs.Lookups.{Each-in, IsIn-append_left, IsIn-append_right}
use Rattle.pt_semantics.proofs.Claiming.{event_found, has_event}
use Rattle.pt_laws.proofs.Once.{absent}
use Rattle.pt_laws.proofs.Walks.{Whole, on_time_history}
use Rattle.pt_laws.proofs.Bounds.{outgoing_orderly}
use Rattle.pt_laws.proofs.Progress.{nothing_met, closing_bounds, goes_home, paced_along_paths}
use Rattle.pt_laws.proofs.Home.{Home, home_on_time}
use Rattle.pt_laws.proofs.Paces.{in_on_link}
use Rattle.pt_laws.proofs.Onward.{Onward, cases_same, round_onward}
use Rattle.pt_laws.proofs.Raise.{Rests, quiet_makes, raise_near, start_near}
use Rattle.pt_paced_laws.proofs.Places.{is_above, is_below, is_later, is_passed, none_left, not_before, one_fewer}

pub round_leaves : (g : Graph) (level : ℕ → ℕ) (c n i : ℕ) (x y : RunState) (ms : List VisitRecord) → Round g level c n i x ms y → (j : ℕ) → j < i → y.at j ≡ x.at j
round_leaves g level c zero i x y ms r j lt = ap (λ (z : RunState). z.at j) r.1
round_leaves g level c (suc n) i x y ms r j lt =
    ⊎_elim
    (λ (done : IsFinished g i (x.at i) × Round g level c n (suc i) x ms y). round_leaves g level c n (suc i) x y ms done.1 j (omega arith))
    (λ (one : (IsFinished g i (x.at i) → ⊥) × (m : VisitRecord) × (rest : List VisitRecord) × (mid : RunState) × (ms ≡ m ∷ rest) × (m.platform ≡ i) × Makes g level c x m mid × Round g level c n (suc i) mid rest y).
    round_leaves g level c n (suc i) one.3 y one.2 one.7 j (omega arith) ∙ (one.6.others j (λ e. is_below j i one.1.platform lt e one.5)).0)
    r

-- a quiet round leaves what is on the links, and each platform at rest or finished
abbrev pub Settles : Graph → ℕ → RunState → ℕ → Type 0
Settles g c y j = IsFinished g j (y.at j) ⊎ Rests g c j (y.at j) y.on_way

pub quiet_round : (g : Graph) (level : ℕ → ℕ) (c n i : ℕ) (x y : RunState) (ms : List VisitRecord) → Round g level c n i x ms y → Each (λ (m : VisitRecord). m.late ≡ false) ms → Each (λ (m : VisitRecord). is_quiet m.turn ≡ true) ms → Each (λ (m : VisitRecord). m.fault ≡ false) ms → ((j : ℕ) → i ≤ j → (y.at j).closed ≡ (x.at j).closed) →
    ((l : ℕ) → y.on_way l ≡ x.on_way l) × ((j : ℕ) → i ≤ j → j < n + i → Settles g c y j)
quiet_round g level c zero i x y ms r late quiet fine closed = ((λ l. ap (λ (z : RunState). z.on_way l) r.1), (λ j a b. absurd (none_left i j a b)))
quiet_round g level c (suc n) i x y ms r late quiet fine closed =
    ⊎_elim
    (λ (done : IsFinished g i (x.at i) × Round g level c n (suc i) x ms y).
    let on = quiet_round g level c n (suc i) x y ms done.1 late quiet fine (λ j le. closed j (omega arith)) in (
      on.0,
      λ j le lt.
          ⊎_elim
          (λ (here : j ≡ i). subst (Settles g c y) (sym here) (inl (subst (IsFinished g i) (sym (round_leaves g level c n (suc i) x y ms done.1 i (omega arith))) done.0)))
          (λ (there : j ≢ i). on.1 j (is_later i j le there) (one_fewer n i j lt))
          (cases_same j i),
    ))
    (λ (one : (IsFinished g i (x.at i) → ⊥) × (m : VisitRecord) × (rest : List VisitRecord) × (mid : RunState) × (ms ≡ m ∷ rest) × (m.platform ≡ i) × Makes g level c x m mid × Round g level c n (suc i) mid rest y).
    let m : VisitRecord = one.1 in
    let mid : RunState = one.3 in
    let l2 : Each (λ (z : VisitRecord). z.late ≡ false) (m ∷ one.2) = subst (Each (λ (z : VisitRecord). z.late ≡ false)) one.4 late in
    let q2 : Each (λ (z : VisitRecord). is_quiet z.turn ≡ true) (m ∷ one.2) = subst (Each (λ (z : VisitRecord). is_quiet z.turn ≡ true)) one.4 quiet in
    let f2 : Each (λ (z : VisitRecord). z.fault ≡ false) (m ∷ one.2) = subst (Each (λ (z : VisitRecord). z.fault ≡ false)) one.4 fine in
    let leaves : y.at m.platform ≡ mid.at m.platform = round_leaves g level c n (suc i) mid y one.2 one.7 m.platform (is_passed m.platform i one.5) in
    let closed_here : (mid.at m.platform).closed ≡ (x.at m.platform).closed = ap (λ (z : State). z.closed) (sym leaves) ∙ closed m.platform (not_before m.platform i one.5) in
    let qm = quiet_makes g level c x mid m q2.0 l2.0 f2.0 closed_here one.6 in
    let on = quiet_round g level c n (suc i) mid y one.2 one.7 l2.1 q2.1 f2.1 (λ j le. closed j (omega arith) ∙ ap (λ (z : State). z.closed) (sym (one.6.others j (λ e. is_above j i m.platform le e one.5)).0)) in
    let way : (l : ℕ) → y.on_way l ≡ x.on_way l = λ l. on.0 l ∙ qm.1 l in (
      way,
      λ j le lt.
          ⊎_elim
          (λ (here : j ≡ i).
          let whole : ◌≡◌ {A = ℕ → List Message} x.on_way y.on_way = λ k l. sym (way l) k in
          subst (Settles g c y) (one.5 ∙ sym here)
          (inr (subst (λ z. Rests g c m.platform z y.on_way) (sym leaves) (subst (λ z. Rests g c m.platform (mid.at m.platform) z) whole qm.0))))
          (λ (there : j ≢ i). on.1 j (is_later i j le there) (one_fewer n i j lt))
          (cases_same j i),
    ))
    r

-- nothing comes after End
pub nothing_after_end : (xs ys zs : List Message) → IsIn End xs → InOrder ((xs ++ ys) ++ zs) → ys ≡ []
nothing_after_end [] ys zs m order = absurd m
nothing_after_end (x ∷ xs) ys zs m order =
    ⊎_elim
    (λ (e : End ≡ x). at_end ys (subst (λ z. Each (ComesAfter z) ((xs ++ ys) ++ zs)) (sym e) order.0))
    (λ (n : IsIn End xs). nothing_after_end xs ys zs n order.1)
    m
  where
    at_end : (ws : List Message) → Each (ComesAfter End) ((xs ++ ws) ++ zs) → ws ≡ []
    at_end [] h = refl
    at_end (w ∷ ws) h = absurd (Each-in (ComesAfter End) ((xs ++ w ∷ ws) ++ zs) h w (IsIn-append_left w (xs ++ w ∷ ws) zs (IsIn-append_right w xs (w ∷ ws) (inl refl))))

module _ (g : Graph) (level : ℕ → ℕ) (rows : ℕ → List Row) (offset : Unit → Option ℤ) (wired : IsWired g) (are : AreLevels g level) (fits : FitRows g rows) (feasible : IsFeasible g) (has : (u : Unit) → HasOffset g u (offset u)) where
  up : HasLevels g level
  up = levels_grow g level are

  pub whole_of : (c : ℕ) (x : RunState) (i : ℕ) → i < length g.platforms → Onward g level rows offset c x → Whole g level i rows (x.at i) (x.at i).reading (claims_of g (x.did i)) (λ l. all_sent l (x.did i)) (λ l. all_taken l (x.did i))
  whole_of c x i lt h = on_time_history g level i rows wired up fits (x.did i) (x.at i) (h.legal i lt)

  pub start_onward : (b : ℕ) → IsLeastNext g (run_at_start g rows) b → Onward g level rows offset b (run_at_start g rows)
  start_onward b next = start_near g level rows offset has wired up fits (λ i. b) (λ i lt d cand. next.least i d lt refl cand)

  -- where all platforms rest or are finished, no message is on its way
  pub way_empty : (c : ℕ) (y : RunState) → Onward g level rows offset c y → ((i : ℕ) → i < length g.platforms → Settles g c y i) → (l : ℕ) (link : Link) → slice_get g.links l ≡ Some link → y.on_way l ≡ []
  way_empty c y h settled l link at =
      ⊎_elim
      (λ (done : IsFinished g (platform_of g link.to) (y.at (platform_of g link.to))).
      let order : IsOrderly g level link (all_sent l (y.did (platform_of g link.from)) ++ (y.at (platform_of g link.from)).outbox l) =
      outgoing_orderly g level (platform_of g link.from) rows (y.did (platform_of g link.from)) (y.at (platform_of g link.from)) wired are fits (h.legal (platform_of g link.from) (wired.homes link.from)) l link at refl in
      let ends : IsIn End (all_taken l (y.did (platform_of g link.to))) = subst (IsIn End) ((whole_of c y (platform_of g link.to) (wired.homes link.to) h).keeps.taken_is l) (done.ends l link at refl) in
      nothing_after_end (all_taken l (y.did (platform_of g link.to))) (y.on_way l) ((y.at (platform_of g link.from)).outbox l) ends
      (subst (λ z. InOrder (z ++ (y.at (platform_of g link.from)).outbox l)) (h.linked l link at) order.0))
      (λ (rests : Rests g c (platform_of g link.to) (y.at (platform_of g link.to)) y.on_way). rests.took_all l link at refl)
      (settled (platform_of g link.to) (wired.homes link.to))

  pub outbox_empty : (c : ℕ) (y : RunState) → Onward g level rows offset c y → ((i : ℕ) → i < length g.platforms → Settles g c y i) → (i : ℕ) → i < length g.platforms → (l : ℕ) → (y.at i).outbox l ≡ []
  outbox_empty c y h settled i lt l =
      ⊎_elim
      (λ (done : IsFinished g i (y.at i)). done.all_went l)
      (λ (rests : Rests g c i (y.at i) y.on_way).
      ⊎_elim
      (λ (e : (y.at i).outbox l ≡ []). e)
      (λ (full : y.on_way l ≡ [] → ⊥). (h.later i lt).foreign l (λ link at home. full (way_empty c y h settled l link at)))
      (rests.sent_all l))
      (settled i lt)

  pub free_all : (c : ℕ) (y : RunState) → Onward g level rows offset c y → ((i : ℕ) → i < length g.platforms → Settles g c y i) → (i : ℕ) → i < length g.platforms → (u : Unit) → (y.at i).busy u ≡ None
  free_all c y h settled i lt u =
      ⊎_elim
      (λ (done : IsFinished g i (y.at i)). ((whole_of c y i lt h).keeps.is_shut done.closed).busy u)
      (λ (rests : Rests g c i (y.at i) y.on_way). rests.free u)
      (settled i lt)

  -- the next reading is past this one
  pub no_closing : (c b : ℕ) (y : RunState) → Onward g level rows offset c y → ((i : ℕ) → i < length g.platforms → Settles g c y i) → (i : ℕ) → i < length g.platforms → (y.at i).closed ≡ false → IsClosing g i b → b ≤ c → ⊥
  no_closing c b y h settled i lt open_still closing le =
      ⊎_elim
      (λ (done : IsFinished g i (y.at i)). false≢true (sym open_still ∙ done.closed))
      (λ (rests : Rests g c i (y.at i) y.on_way).
      rests.unsafe (λ nothing.
      let home : Home g i (y.at i) (claims_of g (y.did i)) = home_on_time g level i rows (y.did i) (y.at i) wired up fits (h.legal i lt) in
      let bounds = closing_bounds g i b c closing le in
      rests.stays_open open_still (record {
        was_open = open_still;
        bounds = bounds;
        nothing_open = rests.free;
        nothing_to_send = outbox_empty c y h settled i lt;
        nothing_waits = λ a p t. absent ((y.at i).waits a p t) (λ v w.
            let at = home.waits a p t v w in
            nothing_met g level (y.at i) c up rests.free nothing (at_input g a p) t (has_event g (y.at i).waits a p t v at.1 w)
            (λ s d path feeds.
            let b_lt : g.until + d < c = bounds s d (goes_home g wired path (at_output g s 0) (at_input g a p) feeds.goes ∙ at.0) feeds.bound in
            let t_le : t.time ≤ g.until = at.2 in
            omega arith));
      })))
      (settled i lt)

  rises_to : (c b : ℕ) (y : RunState) → Onward g level rows offset c y → ((i : ℕ) → i < length g.platforms → Settles g c y i) → IsLeastNext g y b → c ≤ b
  rises_to c b y h settled next =
      let i : ℕ = next.one.0 in
      let lt : i < length g.platforms = next.one.1 in
      ⊎_elim
      (λ (row : (a : ℕ) × (row : Row) × (rest : List Row) × ((y.at i).left a ≡ row ∷ rest) × (b ≡ row.seen)).
      let k = (h.later i lt).left row.0 row.1 (subst (IsIn row.1) (sym row.3) (inl refl)) in
      subst (λ n. c ≤ n) (sym row.4) k.2)
      (λ (rest : ((u : Unit) × (t : Tag) × HasEvent g (y.at i).waits u t × ((w : Tag) → HasEvent g (y.at i).waits u w → UpTo t w) × ((y.at i).busy u ≡ None) × IsPaced g u t b) ⊎ IsClosing g i b).
      ⊎_elim
      (λ (event : (u : Unit) × (t : Tag) × HasEvent g (y.at i).waits u t × ((w : Tag) → HasEvent g (y.at i).waits u w → UpTo t w) × ((y.at i).busy u ≡ None) × IsPaced g u t b).
      of_event i lt event.0 event.1 event.2 event.5)
      (λ (closing : IsClosing g i b).
      ⊎_elim (λ (low : b < c). absurd (no_closing c b y h settled i lt next.one.2 closing (omega arith))) (λ (le : c ≤ b). le) (cases_lt b c))
      rest)
      next.one.3
    where
      of_event : (i : ℕ) → i < length g.platforms → (u : Unit) (t : Tag) → HasEvent g (y.at i).waits u t → IsPaced g u t b → c ≤ b
      of_event i lt u t ev paced =
          let at = event_found g (y.at i).waits u t ev in
          let k : c ≤ paced_by (offset u) t = subst (λ z. c ≤ paced_by (offset z) t) at.unit ((h.later i lt).waits u.actor at.port t at.value at.waits_there).1 in
          let same : paced_by (offset u) t ≤ b = paced_along_paths g u u t t [] (paced_by (offset u) t) b refl (up_same t) (offset u, has u, refl) paced in
          omega arith
        where
          up_same : (z : Tag) → UpTo (plus z zero_delay) z
          up_same z = omega arith

  pub raise_onward : (c b : ℕ) (y : RunState) → Onward g level rows offset c y → ((i : ℕ) → i < length g.platforms → Settles g c y i) → IsLeastNext g y b → Onward g level rows offset b y
  raise_onward c b y h settled next =
      raise_near g level rows offset has wired up fits (λ i. c) (λ i. b) y h (λ i lt. rises_to c b y h settled next) (free_all c y h settled) (outbox_empty c y h settled)
      (λ i lt still d cand. next.least i d lt still cand)
      (λ l link t v at m. let none : IsIn (Event t v) [] = subst (IsIn (Event t v)) (way_empty c y h settled l link at) m in absurd none)

  pub rounds_onward : (rounds : List (List VisitRecord)) (c d : ℕ) (x y : RunState) → Onward g level rows offset c x → Rounds g level c x rounds d y → Onward g level rows offset d y
  rounds_onward [] c d x y h (e, same) = subst (λ n. Onward g level rows offset n y) (sym e) (subst (Onward g level rows offset c) (sym same) h)
  rounds_onward (ms ∷ rounds) c d x y h (b, mid, round, fine, on_going, follows, rest) =
      let on = round_onward g level rows offset has wired feasible c (length g.platforms) 0 x mid ms (omega arith) h round in
      let next : Onward g level rows offset b mid =
      ⊎_elim
      (λ (q : IsQuietRound x ms mid × IsLeastNext g mid b).
      let settles = quiet_round g level c (length g.platforms) 0 x mid ms round on.0 q.0.quiet fine (λ j le. q.0.closed j) in
      raise_onward c b mid on.1 (λ i lt. settles.1 i (omega arith) (omega arith)) q.1)
      (λ (goes_on : (IsQuietRound x ms mid → ⊥) × (b ≡ c)). subst (λ n. Onward g level rows offset n mid) (sym goes_on.1) on.1)
      follows in
      rounds_onward rounds b d mid y next rest

  pub run_onward : (rounds : List (List VisitRecord)) (d : ℕ) (y : RunState) → IsPacedRun g level rows rounds d y → Onward g level rows offset d y
  run_onward rounds d y run = rounds_onward rounds run.begins d (run_at_start g rows) y (start_onward run.begins run.begins_at) run.goes

pub none_late : NoneLate
none_late g level rows offset rounds c n ms y wired are fits feasible has r =
    let some : n ≤ length g.platforms = r.some in
    let on = round_onward g level rows offset has wired feasible c n 0 r.before y ms (omega arith) (run_onward g level rows offset wired are fits feasible has rounds c r.before r.run) r.round in
    (on.0, on.1.legal)

pub timely_when_paced : TimelyWhenPaced
timely_when_paced g level rows offset rounds c n ms y wired are fits feasible has r =
    let some : n ≤ length g.platforms = r.some in
    (round_onward g level rows offset has wired feasible c n 0 r.before y ms (omega arith) (run_onward g level rows offset wired are fits feasible has rounds c r.before r.run) r.round).1.timed

pub missed_when_paced : MissedWhenPaced
missed_when_paced g offset turn a t limit timely missed =
    ⊎_elim
    (λ (post : (d : Done) × IsIn d turn.posted × (d.task.actor ≡ a) × (d.task.tag ≡ t) × ((slack : ℕ) × (kind_of g a ≡ Actuator slack) × (limit ≡ t.time + slack))). (
      post.0,
      post.1,
      post.2,
      post.3,
      post.4,
      let on : turn.last ≡ paced_by (offset (unit_of g post.0.task)) t = subst (λ z. turn.last ≡ paced_by (offset (unit_of g post.0.task)) z) post.3 (Each-in (λ (d : Done). turn.last ≡ paced_by (offset (unit_of g d.task)) d.task.tag) turn.posted timely.posts post.0 post.1) in
          subst (λ n. limit < n) on missed.1,
    ))
    (λ (send : (l : ℕ) × (value : ℤ) × (link : Link) × IsIn (record { link = l; message = Event t value }) turn.sent × (slice_get g.links l ≡ Some link) × (link.from ≡ a) × (limit ≡ t.time + slack_of (kind_of g a))).
    let in_time : turn.last ≤ t.time + slack_of (kind_of g send.2.from) = timely.sends send.0 send.2 t send.1 send.4 (in_on_link (record { link = send.0; message = Event t send.1 }) turn.sent send.3) in
    let in_time2 : turn.last ≤ t.time + slack_of (kind_of g a) = subst (λ z. turn.last ≤ t.time + slack_of (kind_of g z)) send.5 in_time in
    let over : t.time + slack_of (kind_of g a) < turn.last = subst (λ n. n < turn.last) send.6 missed.1 in
    absurd (clash turn.last (t.time + slack_of (kind_of g a)) in_time2 over))
    missed.0
  where
    clash : (m n : ℕ) → m ≤ n → n < m → ⊥
    clash m n x y = omega arith
