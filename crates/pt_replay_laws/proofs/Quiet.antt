-- After a quiet round each platform is calm or finished, and nothing could have happened before its true time.
use Rattle.std.proofs.Common.{◌≡◌, ◌≢◌, ℕ, ◌<◌, ◌≤◌, ◌+◌, zero, suc, ◌⊎◌, true, false, List, [], ◌∷◌, ◌++◌, None, Some, length, map, slice_get, refl, sym, ap, subst, ◌∙◌, inl, inr, ⊎_elim, arith}
use Rattle.std.proofs.lemmas.Bool.{cases_lt, false≢true}
use Rattle.pt_tags.specs.declared.message.Message.{Message}
use Rattle.pt_tags.specs.declared.message.Message.TheVariants.{End}
use Rattle.pt_tags.specs.declared.tag.Tag.{Tag}
use Rattle.pt_tags.specs.Tags.{UpTo}
use Rattle.pt_types.specs.declared.graph.Graph.{Graph}
use Rattle.pt_types.specs.declared.graph.Link.{Link}
use Rattle.pt_types.specs.declared.graph.Unit.{Unit}
use Rattle.pt_types.specs.declared.rows.Row.{Row}
use Rattle.pt_types.specs.Lookups.{platform_of}
use Rattle.pt_semantics.specs.History.{LegalOnTime, claims_of}
use Rattle.pt_semantics.specs.Linked.{IsFinished, all_taken}
use Rattle.pt_semantics.specs.Lists.{Each, IsIn}
use Rattle.pt_semantics.specs.Orderly.{InOrder}
use Rattle.pt_semantics.specs.Paced.{IsCandidate, IsClosing, IsPaced}
use Rattle.pt_semantics.specs.Platform.{State, opened}
use Rattle.pt_semantics.specs.Ranks.{AreLevels}
use Rattle.pt_semantics.specs.Rows.{FitRows}
use Rattle.pt_semantics.specs.Turn.{is_quiet}
use Rattle.pt_semantics.specs.Units.{HasEvent, at_input, at_output}
use Rattle.pt_semantics.specs.Visits.{VisitRecord}
use Rattle.pt_semantics.specs.Wired.{IsWired}
use Rattle.pt_semantics.proofs.Claiming.{has_event}
use Rattle.pt_semantics.proofs.Least.{paced_meets}
use Rattle.pt_semantics.proofs.Longest.{levels_grow}
use Rattle.pt_laws.proofs.Home.{Home, home_on_time}
use Rattle.pt_laws.proofs.Once.{absent}
use Rattle.pt_laws.proofs.Onward.{cases_same}
use Rattle.pt_laws.proofs.Progress.{closing_bounds, goes_home, nothing_met}
use Rattle.pt_laws.proofs.Walks.{on_time_history}
use Rattle.pt_paced_laws.proofs.PacedRuns.{nothing_after_end}
use Rattle.pt_types.specs.declared.air.Air.{Air}
use Rattle.pt_types.specs.declared.air.InAir.{InAir}
use Rattle.pt_semantics.specs.Arrivals.{AirwayView}
use Rattle.pt_semantics.specs.TrueTime.{reading_at, true_time}
use Rattle.pt_fixed_order_laws.proofs.Sound.{goes_on_time}
use Rattle.pt_replay_laws.specs.Between.{under_way}
use Rattle.pt_replay_laws.specs.ReplayRounds.{ReplayRound}
use Rattle.pt_replay_laws.specs.ReplayState.{CanHappen, IsVisitAt, ReplayState}
use Rattle.pt_replay_laws.proofs.Calm.{IsCalm, arrives_later, calm_airways, calm_visit, has_come}
use Rattle.pt_replay_laws.proofs.Sound.{IsSound, not_late, others}
use Rattle.pt_paced_laws.proofs.Places.{is_above, is_below, is_later, is_passed, none_left, not_before, one_fewer}

-- a visit as a round begins with it
abbrev pub Begins : Graph → (ℕ → ℕ) → Air → ℕ → ℕ → ℕ → ReplayState → List VisitRecord → ReplayState → Type 0
Begins g level air now n i x ms y =
    (IsFinished g i (x.at i) → ⊥) × (m : VisitRecord) × (rest : List VisitRecord) × (mid : ReplayState) × (ms ≡ m ∷ rest) × (m.platform ≡ i) × IsVisitAt g level air now x m mid × ReplayRound g level air now n (suc i) mid rest y

pub round_leaves : (g : Graph) (level : ℕ → ℕ) (air : Air) (now n i : ℕ) (x : ReplayState) (ms : List VisitRecord) (y : ReplayState) → ReplayRound g level air now n i x ms y → (j : ℕ) → j < i → y.at j ≡ x.at j
round_leaves g level air now zero i x ms y r j lt = ap (λ (z : ReplayState). z.at j) r.1
round_leaves g level air now (suc n) i x ms y r j lt = ⊎_elim
    (λ (done : IsFinished g i (x.at i) × ReplayRound g level air now n (suc i) x ms y). round_leaves g level air now n (suc i) x ms y done.1 j (omega arith))
    (λ (one : Begins g level air now n i x ms y).
    round_leaves g level air now n (suc i) one.3 one.2 y one.7 j (omega arith) ∙ (others g level air now x one.1 one.3 one.6 j (λ e. is_below j i one.1.platform lt e one.5)).0)
    r

abbrev pub IsSettled : Graph → Air → ℕ → ReplayState → ℕ → Type 0
IsSettled g air now y j = IsFinished g j (y.at j) ⊎ IsCalm g air now j (y.at j) y.airways

pub quiet_round : (g : Graph) (level : ℕ → ℕ) (air : Air) (now n i : ℕ) (x : ReplayState) (ms : List VisitRecord) (y : ReplayState) → ReplayRound g level air now n i x ms y → Each (λ (m : VisitRecord). is_quiet m.turn ≡ true) ms → Each (λ (m : VisitRecord). m.fault ≡ false) ms → ((j : ℕ) → i ≤ j → (y.at j).closed ≡ (x.at j).closed) →
    ((l : ℕ) → y.airways l ≡ x.airways l) × ((j : ℕ) → i ≤ j → j < n + i → IsSettled g air now y j)
quiet_round g level air now zero i x ms y r quiet fine closed = ((λ l. ap (λ (z : ReplayState). z.airways l) r.1), (λ j a b. absurd (none_left i j a b)))
quiet_round g level air now (suc n) i x ms y r quiet fine closed = ⊎_elim
    (λ (done : IsFinished g i (x.at i) × ReplayRound g level air now n (suc i) x ms y).
    let on = quiet_round g level air now n (suc i) x ms y done.1 quiet fine (λ j le. closed j (omega arith)) in (
      on.0,
      λ j le lt.
          ⊎_elim
          (λ (here : j ≡ i). subst (IsSettled g air now y) (sym here) (inl (subst (IsFinished g i) (sym (round_leaves g level air now n (suc i) x ms y done.1 i (omega arith))) done.0)))
          (λ (there : j ≢ i). on.1 j (is_later i j le there) (one_fewer n i j lt))
          (cases_same j i),
    ))
    (λ (one : Begins g level air now n i x ms y).
    let m : VisitRecord = one.1 in
    let mid : ReplayState = one.3 in
    let q2 : Each (λ (z : VisitRecord). is_quiet z.turn ≡ true) (m ∷ one.2) = subst (Each (λ (z : VisitRecord). is_quiet z.turn ≡ true)) one.4 quiet in
    let f2 : Each (λ (z : VisitRecord). z.fault ≡ false) (m ∷ one.2) = subst (Each (λ (z : VisitRecord). z.fault ≡ false)) one.4 fine in
    let leaves : y.at m.platform ≡ mid.at m.platform = round_leaves g level air now n (suc i) mid one.2 y one.7 m.platform (is_passed m.platform i one.5) in
    let closed_here : (mid.at m.platform).closed ≡ (x.at m.platform).closed = ap (λ (z : State). z.closed) (sym leaves) ∙ closed m.platform (not_before m.platform i one.5) in
    let late : m.late ≡ false = not_late g level air now x m mid one.6 f2.0 in
    let calm = calm_visit g level air now x m mid one.6 q2.0 late f2.0 closed_here in
    let on = quiet_round g level air now n (suc i) mid one.2 y one.7 q2.1 f2.1
    (λ j le. closed j (omega arith) ∙ ap (λ (z : State). z.closed) (sym (others g level air now x m mid one.6 j (λ e. is_above j i m.platform le e one.5)).0)) in
    let way : (l : ℕ) → y.airways l ≡ x.airways l = λ l. on.0 l ∙ calm_airways g level air now x m mid one.6 q2.0 late f2.0 closed_here l in (
      way,
      λ j le lt.
          ⊎_elim
          (λ (here : j ≡ i).
          let whole : ◌≡◌ {A = ℕ → AirwayView} x.airways y.airways = λ k l. sym (way l) k in
          subst (IsSettled g air now y) (one.5 ∙ sym here)
          (inr (subst (λ z. IsCalm g air now m.platform z y.airways) (sym leaves) (subst (λ z. IsCalm g air now m.platform (mid.at m.platform) z) whole calm))))
          (λ (there : j ≢ i). on.1 j (is_later i j le there) (one_fewer n i j lt))
          (cases_same j i),
    ))
    r

nothing_in : (ms : List InAir) (m : InAir) → map (λ (z : InAir). z.message) ms ≡ [] → IsIn m ms → ⊥
nothing_in [] m e mem = mem
nothing_in (z ∷ zs) m e mem = never z.message (map (λ (w : InAir). w.message) zs) e
  where
    never : (z : Message) (zs : List Message) → z ∷ zs ≡ [] → ⊥
    never z zs h = cc

link_at : (xs : List Link) (l : ℕ) → l < length xs → (link : Link) × (slice_get xs l ≡ Some link)
link_at [] l lt = absurd (omega (arith, lt))
link_at (x ∷ xs) zero lt = (x, refl)
link_at (x ∷ xs) (suc l) lt = link_at xs l (omega (arith, lt))

-- all platforms after a quiet round
module _ (g : Graph) (level : ℕ → ℕ) (rows : ℕ → List Row) (air : Air) (wired : IsWired g) (are : AreLevels g level) (fits : FitRows g rows) (now : ℕ) (y : ReplayState) (h : IsSound g level rows 0 y) (settled : (j : ℕ) → j < length g.platforms → IsSettled g air now y j) where
  pub legal_of : (p : ℕ) → LegalOnTime g level p (opened g p rows) (y.did p) (y.at p)
  legal_of p = goes_on_time g level p (y.did p) (opened g p rows) (y.at p) (h.goes p (omega arith))

  -- nothing is on the way to a finished platform
  none_under_way : (l : ℕ) (link : Link) → slice_get g.links l ≡ Some link → IsFinished g (platform_of g link.to) (y.at (platform_of g link.to)) → under_way y l ≡ []
  none_under_way l link at done =
      let to : ℕ = platform_of g link.to in
      let ends : IsIn End (all_taken l (y.did to)) = subst (IsIn End) ((on_time_history g level to rows wired (levels_grow g level are) fits (y.did to) (y.at to) (legal_of to)).keeps.taken_is l) (done.ends l link at refl) in
      nothing_after_end (all_taken l (y.did to)) (under_way y l) ((y.at (platform_of g link.from)).outbox l) ends
      (subst (λ z. InOrder (z ++ (y.at (platform_of g link.from)).outbox l)) (h.linked l link at) (h.orderly l link at).0)

  -- each message on its way arrives later
  pub arrivals_later : (l : ℕ) (m : InAir) → l < length g.links → IsIn m (y.airways l).on_way → now < m.arrives
  arrivals_later l m lt mem =
      let (link, at) = link_at g.links l lt in
      ⊎_elim
      (λ (done : IsFinished g (platform_of g link.to) (y.at (platform_of g link.to))). absurd (nothing_in (y.airways l).on_way m (none_under_way l link at done) mem))
      (λ (calm : IsCalm g air now (platform_of g link.to) (y.at (platform_of g link.to)) y.airways).
      arrives_later g (platform_of g link.to) now l link (y.airways l) m at refl (calm.none_come l link at refl) mem)
      (settled (platform_of g link.to) (wired.homes link.to))

  -- a reading at which something can happen on an open platform comes later
  pub candidates_later : (i v : ℕ) → i < length g.platforms → (y.at i).closed ≡ false → IsCandidate g i (y.at i) v → v ≤ reading_at air i now → ⊥
  candidates_later i v lt open_still candidate le = ⊎_elim
      (λ (done : IsFinished g i (y.at i)). false≢true (sym open_still ∙ done.closed))
      (λ (calm : IsCalm g air now i (y.at i) y.airways).
      ⊎_elim
      (λ (row : (a : ℕ) × (row : Row) × (rest : List Row) × ((y.at i).left a ≡ row ∷ rest) × (v ≡ row.seen)).
      let later = calm.unseen row.0 row.1 row.2 row.3 in
      omega (arith, later, le, row.4))
      (λ (rest : ((u : Unit) × (t : Tag) × HasEvent g (y.at i).waits u t × ((w : Tag) → HasEvent g (y.at i).waits u w → UpTo t w) × ((y.at i).busy u ≡ None) × IsPaced g u t v) ⊎ IsClosing g i v).
      ⊎_elim
      (λ (event : (u : Unit) × (t : Tag) × HasEvent g (y.at i).waits u t × ((w : Tag) → HasEvent g (y.at i).waits u w → UpTo t w) × ((y.at i).busy u ≡ None) × IsPaced g u t v).
      calm.unsafe (λ nothing.
      nothing_met g level (y.at i) (reading_at air i now) (levels_grow g level are) calm.free nothing event.0 event.1 event.2
      (λ a b path feeds. paced_meets g event.0 event.1 v (reading_at air i now) event.5 le a b path feeds)))
      (λ (closing : IsClosing g i v).
      calm.unsafe (λ nothing.
      let home : Home g i (y.at i) (claims_of g (y.did i)) = home_on_time g level i rows (y.did i) (y.at i) wired (levels_grow g level are) fits (legal_of i) in
      let bounds = closing_bounds g i v (reading_at air i now) closing le in
      calm.stays_open open_still (record {
        was_open = open_still;
        bounds = bounds;
        nothing_open = calm.free;
        nothing_to_send = calm.sent_all;
        nothing_waits = λ a p t. absent ((y.at i).waits a p t) (λ value w.
            let at = home.waits a p t value w in
            nothing_met g level (y.at i) (reading_at air i now) (levels_grow g level are) calm.free nothing (at_input g a p) t (has_event g (y.at i).waits a p t value at.1 w)
            (λ s d path feeds.
            let low : g.until + d < reading_at air i now = bounds s d (goes_home g wired path (at_output g s 0) (at_input g a p) feeds.goes ∙ at.0) feeds.bound in
            let within : t.time ≤ g.until = at.2 in
            omega (arith, low, within)));
      })))
      rest)
      candidate)
      (settled i lt)

  -- so nothing can happen before a later true time
  pub happens_later : (t : ℕ) → CanHappen g air y t → now < t
  happens_later t can = ⊎_elim
      (λ (reading : (i : ℕ) × (i < length g.platforms) × ((y.at i).closed ≡ false) × (v : ℕ) × IsCandidate g i (y.at i) v × (t ≡ true_time air i v)).
      ⊎_elim
      (λ (lt : now < t). lt)
      (λ (le : t ≤ now). absurd (candidates_later reading.0 reading.3 reading.1 reading.2 reading.4 (has_come air reading.0 reading.3 now (subst (λ n. n ≤ now) reading.5 le))))
      (cases_lt now t))
      (λ (arrival : (l : ℕ) × (l < length g.links) × (m : InAir) × IsIn m (y.airways l).on_way × (t ≡ m.arrives)).
      subst (λ n. now < n) (sym arrival.4) (arrivals_later arrival.0 arrival.2 arrival.1 arrival.3))
      can
