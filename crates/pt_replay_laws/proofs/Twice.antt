-- No two quiet rounds of a replay follow one another.
use Rattle.std.proofs.Common.{◌≡◌, ◌≢◌, ℕ, zero, suc, ◌+◌, ◌<◌, ◌≤◌, Bool, true, false, List, [], ◌∷◌, length, arith, refl, sym, ap, subst, ◌∙◌, inl, inr, ⊎_elim, None}
use Rattle.std.proofs.lemmas.Bool.{false≢true}
use Rattle.pt_types.specs.declared.graph.Graph.{Graph}
use Rattle.pt_types.specs.declared.graph.Unit.{Unit}
use Rattle.pt_types.specs.declared.rows.Row.{Row}
use Rattle.pt_semantics.specs.Candidates.{HasMoved}
use Rattle.pt_semantics.specs.Candidates.HasMoved.{Claimed, Closed, Entered, Full, Posted}
use Rattle.pt_semantics.specs.History.{Legal}
use Rattle.pt_semantics.specs.Linked.{IsFinished}
use Rattle.pt_semantics.specs.Lists.{Each, IsIn}
use Rattle.pt_semantics.specs.Paced.{IsCandidate, IsNextReading}
use Rattle.pt_semantics.specs.Platform.{State, opened}
use Rattle.pt_semantics.specs.Ranks.{AreLevels}
use Rattle.pt_semantics.specs.Rows.{FitRows}
use Rattle.pt_semantics.specs.Safe.{NothingSafe}
use Rattle.pt_semantics.specs.Turn.{IsTurn, Turn, is_quiet}
use Rattle.pt_semantics.specs.Visits.{VisitRecord}
use Rattle.pt_semantics.specs.Wired.{IsWired}
use Rattle.pt_laws.proofs.Onward.{cases_same}
use Rattle.pt_laws.proofs.Progress.{turns_move}
use Rattle.pt_types.specs.declared.air.Air.{Air}
use Rattle.pt_types.specs.declared.air.InAir.{InAir}
use Rattle.pt_semantics.specs.Arrivals.{AirwayView}
use Rattle.pt_semantics.specs.TrueTime.{reading_at, true_time}
use Rattle.pt_replay_laws.specs.ReplayRounds.{ReplayRound, IsQuiet}
use Rattle.pt_replay_laws.specs.ReplayState.{IsVisitAt, IsNextTime, ReplayState}
use Rattle.pt_replay_laws.proofs.Calm.{HasNothing, IsCalm, has_come, quiet_parts, read_then}
use Rattle.pt_replay_laws.proofs.Quiet.{Begins, IsSettled, arrivals_later, quiet_round, round_leaves}
use Rattle.pt_replay_laws.proofs.Replays.{round_fine, settled}
use Rattle.pt_replay_laws.proofs.Sound.{IsSound, not_late, others, turn_of}
use Rattle.pt_paced_laws.proofs.Places.{is_above, is_later, is_passed, none_left, not_before, one_fewer}

-- an open platform with nothing to send, and its next reading
pub record IsReady (g : Graph) (level : ℕ → ℕ) (rows : ℕ → List Row) (v i : ℕ) (s : State) (turns : List Turn) : Type 0 where
  pub legal : Legal g level i (opened g i rows) turns s
  pub is_open : s.closed ≡ false
  pub nothing_to_send : (l : ℕ) → s.outbox l ≡ []
  pub next : IsNextReading g i s v

module _ (g : Graph) (level : ℕ → ℕ) (rows : ℕ → List Row) (air : Air) (wired : IsWired g) (are : AreLevels g level) (fits : FitRows g rows) (now v : ℕ) where
  -- its visit at that reading or later is not quiet
  visit_moves : (x : ReplayState) (m : VisitRecord) (y : ReplayState) → IsVisitAt g level air now x m y → IsReady g level rows v m.platform (x.at m.platform) (x.did m.platform) → v ≤ reading_at air m.platform now → is_quiet m.turn ≡ true → m.fault ≡ false → (y.at m.platform).closed ≡ (x.at m.platform).closed → ⊥
  visit_moves x m y f ready le quiet fine closed =
      never (moves m.late (not_late g level air now x m y f fine) (turn_of g level air now x m y f) f.visit.handed)
    where
      nothing : HasNothing m.turn
      nothing = quiet_parts m.turn quiet

      moves : (late : Bool) → late ≡ false → (is : IsTurn g level m.platform (x.at m.platform) m.turn late (y.at m.platform)) → ((u : Unit) → is.posted.busy u ≡ None) → HasMoved g (x.at m.platform) m.turn is.ready (y.at m.platform)
      moves true e is handed = absurd (false≢true (sym e))
      moves false e is handed =
          turns_move g level m.platform rows (x.did m.platform) m.turn (x.at m.platform) (y.at m.platform) v wired are fits ready.legal ready.is_open ready.nothing_to_send ready.next
          (subst (λ n. v ≤ n) (sym f.visit.last) le) is handed

      never : HasMoved g (x.at m.platform) m.turn f.visit.is.ready (y.at m.platform) → ⊥
      never (Posted p) = p nothing.posted
      never (Entered p) = p nothing.rows
      never (Claimed p) = p nothing.claimed
      never (Closed p) = false≢true (sym ready.is_open ∙ sym closed ∙ p)
      never (Full many unsafe) =
          false≢true (sym fine ∙ f.visit.faults.0 (inr (many, λ safe. unsafe (subst (λ n. NothingSafe g f.visit.is.ready.waits f.visit.is.ready.busy n) (sym f.visit.last) safe))))

  -- so a round is not quiet in which a ready platform is visited
  round_moves : (n i j : ℕ) (x : ReplayState) (ms : List VisitRecord) (y : ReplayState) → ReplayRound g level air now n i x ms y → i ≤ j → j < n + i → IsReady g level rows v j (x.at j) (x.did j) → v ≤ reading_at air j now → Each (λ (m : VisitRecord). is_quiet m.turn ≡ true) ms → Each (λ (m : VisitRecord). m.fault ≡ false) ms → ((k : ℕ) → i ≤ k → (y.at k).closed ≡ (x.at k).closed) → ⊥
  round_moves zero i j x ms y round from below ready le quiet fine closed = none_left i j from below
  round_moves (suc n) i j x ms y round from below ready le quiet fine closed = ⊎_elim
      (λ (done : IsFinished g i (x.at i) × ReplayRound g level air now n (suc i) x ms y).
      ⊎_elim
      (λ (here : j ≡ i). false≢true (sym ready.is_open ∙ ap (λ k. (x.at k).closed) here ∙ done.0.closed))
      (λ (there : j ≢ i). round_moves n (suc i) j x ms y done.1 (is_later i j from there) (one_fewer n i j below) ready le quiet fine (λ k past. closed k (omega (arith, past))))
      (cases_same j i))
      (λ (one : Begins g level air now n i x ms y).
      let m : VisitRecord = one.1 in
      let q2 : Each (λ (z : VisitRecord). is_quiet z.turn ≡ true) (m ∷ one.2) = subst (Each (λ (z : VisitRecord). is_quiet z.turn ≡ true)) one.4 quiet in
      let f2 : Each (λ (z : VisitRecord). z.fault ≡ false) (m ∷ one.2) = subst (Each (λ (z : VisitRecord). z.fault ≡ false)) one.4 fine in
      ⊎_elim
      (λ (here : j ≡ i).
      let same : j ≡ m.platform = here ∙ sym one.5 in
      visit_moves x m one.3 one.6
      (subst (λ k. IsReady g level rows v k (x.at k) (x.did k)) same ready)
      (subst (λ k. v ≤ reading_at air k now) same le)
      q2.0 f2.0
      (ap (λ (s : State). s.closed) (sym (round_leaves g level air now n (suc i) one.3 one.2 y one.7 m.platform (is_passed m.platform i one.5))) ∙ closed m.platform (not_before m.platform i one.5)))
      (λ (there : j ≢ i).
      let stays = others g level air now x m one.3 one.6 j (λ e. there (e ∙ one.5)) in
      round_moves n (suc i) j one.3 one.2 y one.7 (is_later i j from there) (one_fewer n i j below)
      (subst (λ t. IsReady g level rows v j (one.3.at j) t) (sym stays.1) (subst (λ s. IsReady g level rows v j s (x.did j)) (sym stays.0) ready))
      le q2.1 f2.1
      (λ k past. closed k (omega (arith, past)) ∙ ap (λ (s : State). s.closed) (sym (others g level air now x m one.3 one.6 k (λ e. is_above k i m.platform past e one.5)).0)))
      (cases_same j i))
      round

-- before this round a quiet one was made, and this one is at the next time
pub record FollowsQuiet (g : Graph) (air : Air) (now : ℕ) (x : ReplayState) : Type 0 where
  pub before : ℕ
  pub settled : (j : ℕ) → j < length g.platforms → IsSettled g air before x j
  pub next : IsNextTime g air x now

pub never_twice : (g : Graph) (level : ℕ → ℕ) (rows : ℕ → List Row) (air : Air) (now : ℕ) (x : ReplayState) (ms : List VisitRecord) (y : ReplayState) → IsWired g → AreLevels g level → FitRows g rows → IsSound g level rows 0 x → FollowsQuiet g air now x →
    ReplayRound g level air now (length g.platforms) 0 x ms y → Each (λ (m : VisitRecord). m.fault ≡ false) ms → IsQuiet x ms y → ⊥
never_twice g level rows air now x ms y wired are fits h follows round fine quiet = ⊎_elim
    (λ (reading : (i : ℕ) × (i < length g.platforms) × ((x.at i).closed ≡ false) × (v : ℕ) × IsCandidate g i (x.at i) v × (now ≡ true_time air i v)).
    round_moves g level rows air wired are fits now reading.3 (length g.platforms) 0 reading.0 x ms y round (omega arith) (omega (arith, reading.1))
    (ready reading.0 reading.3 reading.1 reading.2 reading.4 reading.5)
    (has_come air reading.0 reading.3 now (subst (λ n. n ≤ now) reading.5 (omega arith)))
    quiet.quiet fine (λ k past. quiet.closed k))
    (λ (arrival : (l : ℕ) × (l < length g.links) × (m : InAir) × IsIn m (x.airways l).on_way × (now ≡ m.arrives)).
    let same : y.airways arrival.0 ≡ x.airways arrival.0 = (quiet_round g level air now (length g.platforms) 0 x ms y round quiet.quiet fine (λ k le. quiet.closed k)).0 arrival.0 in
    let later : now < arrival.2.arrives =
    arrivals_later g level rows air wired are fits now y (round_fine g level rows air wired are fits now (length g.platforms) 0 x ms y h round fine)
    (settled g level rows air wired are fits now x ms y round fine quiet)
    arrival.0 arrival.2 arrival.1 (subst (λ (a : AirwayView). IsIn arrival.2 a.on_way) (sym same) arrival.3) in
    omega (arith, later, arrival.4))
    follows.next.0
  where
    nothing_to_send : (i : ℕ) → i < length g.platforms → (l : ℕ) → (x.at i).outbox l ≡ []
    nothing_to_send i lt l = ⊎_elim
        (λ (done : IsFinished g i (x.at i)). done.all_went l)
        (λ (calm : IsCalm g air follows.before i (x.at i) x.airways). calm.sent_all l)
        (follows.settled i lt)

    ready : (i v : ℕ) → i < length g.platforms → (x.at i).closed ≡ false → IsCandidate g i (x.at i) v → now ≡ true_time air i v → IsReady g level rows v i (x.at i) (x.did i)
    ready i v lt is_open candidate at = record {
      legal = h.legal i;
      is_open = is_open;
      nothing_to_send = nothing_to_send i lt;
      next = (
        candidate,
        λ d other.
            let least : now ≤ true_time air i d = follows.next.1 (true_time air i d) (inl (i, lt, is_open, d, other, refl)) in
            let low : v ≤ reading_at air i (true_time air i d) = has_come air i v (true_time air i d) (subst (λ n. n ≤ true_time air i d) at least) in
            let read = read_then air i d in
            omega (arith, low, read),
      );
    }
