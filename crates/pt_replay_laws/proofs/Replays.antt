-- What is true between the visits of a replayed run, and at its end.
use Rattle.std.proofs.Common.{◌≡◌, ◌≢◌, ◌-◌, ℕ, ◌<◌, ◌≤◌, ◌+◌, zero, suc, Some, false, List, [], ◌∷◌, ◌++◌, length, refl, sym, ap, subst, ◌∙◌, inl, inr, ⊎_elim, arith}
use Rattle.pt_types.specs.declared.graph.Graph.{Graph}
use Rattle.pt_types.specs.declared.rows.Row.{Row}
use Rattle.pt_types.specs.Lookups.{platform_of}
use Rattle.pt_semantics.specs.History.{IsLegal, LegalOnTime}
use Rattle.pt_semantics.specs.Kept.{kept}
use Rattle.pt_semantics.specs.Linked.{AreMatched, IsFinished}
use Rattle.pt_semantics.specs.Lists.{Each, IsIn}
use Rattle.pt_semantics.specs.Platform.{State, opened}
use Rattle.pt_semantics.specs.Ranks.{AreLevels}
use Rattle.pt_semantics.specs.Rows.{FitRows}
use Rattle.pt_semantics.specs.Visits.{VisitRecord}
use Rattle.pt_semantics.specs.Wired.{IsWired}
use Rattle.pt_semantics.proofs.Lookups.{none_some, same_some}
use Rattle.pt_laws.proofs.KeptTurns.{kept_is_legal}
use Rattle.pt_laws.proofs.Onward.{cases_same}
use Rattle.pt_types.specs.declared.air.Air.{Air}
use Rattle.pt_semantics.specs.TrueTime.{lag_of, reading_at}
use Rattle.pt_fixed_order_laws.proofs.Sound.{goes_on_time, turn_reading}
use Rattle.pt_fixed_order_laws.proofs.Whole.{linked_if_finished, push_time}
use Rattle.pt_replay_laws.specs.Between.{VisitsKeep, ReplaysAreLegal, under_way}
use Rattle.pt_replay_laws.specs.ReplayRounds.{ReplayRound, ReplayRounds, FollowsAt, IsQuiet, IsReplay}
use Rattle.pt_replay_laws.specs.ReplayState.{IsVisitAt, IsNextTime, ReplayState, replay_at_start}
use Rattle.pt_replay_laws.proofs.Quiet.{Begins, IsSettled, happens_later, quiet_round}
use Rattle.pt_replay_laws.proofs.Sound.{IsSound, joins, on_time, others, sound_at_start, sound_visit, sound_further, turn_of}
use Rattle.pt_paced_laws.proofs.Places.{not_before}

-- a turn on time adds to turns on time
visit_on_time : (g : Graph) (level : ℕ → ℕ) (rows : ℕ → List Row) (air : Air) (now p : ℕ) (x : ReplayState) (m : VisitRecord) (y : ReplayState) → IsVisitAt g level air now x m y → (m.platform ≡ p → m.late ≡ false) → LegalOnTime g level p (opened g p rows) (x.did p) (x.at p) → LegalOnTime g level p (opened g p rows) (y.did p) (y.at p)
visit_on_time g level rows air now p x m y f fine h = ⊎_elim
    (λ (e : p ≡ m.platform).
    subst (λ q. LegalOnTime g level q (opened g q rows) (y.did q) (y.at q)) (sym e)
    (subst (λ t. LegalOnTime g level m.platform (opened g m.platform rows) t (y.at m.platform)) (sym (joins g level air now x m y f))
    (push_time g level m.platform (x.did m.platform) m.turn (opened g m.platform rows) (x.at m.platform) (y.at m.platform)
    (subst (λ q. LegalOnTime g level q (opened g q rows) (x.did q) (x.at q)) e h) (on_time g level air now x m y f (fine (sym e))).0)))
    (λ (ne : p ≢ m.platform).
    let same = others g level air now x m y f p ne in
    subst (λ t. LegalOnTime g level p (opened g p rows) t (y.at p)) (sym same.1) (subst (LegalOnTime g level p (opened g p rows) (x.did p)) (sym same.0) h))
    (cases_same p m.platform)

round_on_time : (g : Graph) (level : ℕ → ℕ) (rows : ℕ → List Row) (air : Air) (now p n i : ℕ) (x : ReplayState) (ms : List VisitRecord) (y : ReplayState) → ReplayRound g level air now n i x ms y → ((m : VisitRecord) → IsIn m ms → m.platform ≡ p → m.late ≡ false) → LegalOnTime g level p (opened g p rows) (x.did p) (x.at p) → LegalOnTime g level p (opened g p rows) (y.did p) (y.at p)
round_on_time g level rows air now p zero i x ms y (none, same) fine h = subst (λ (z : ReplayState). LegalOnTime g level p (opened g p rows) (z.did p) (z.at p)) (sym same) h
round_on_time g level rows air now p (suc n) i x ms y round fine h = ⊎_elim
    (λ (done : IsFinished g i (x.at i) × ReplayRound g level air now n (suc i) x ms y). round_on_time g level rows air now p n (suc i) x ms y done.1 fine h)
    (λ (one : Begins g level air now n i x ms y).
    let all : (m : VisitRecord) → IsIn m (one.1 ∷ one.2) → m.platform ≡ p → m.late ≡ false = subst (λ z. (m : VisitRecord) → IsIn m z → m.platform ≡ p → m.late ≡ false) one.4 fine in
    round_on_time g level rows air now p n (suc i) one.3 one.2 y one.7 (λ m mem. all m (inr mem)) (visit_on_time g level rows air now p x one.1 one.3 one.6 (all one.1 (inl refl)) h))
    round

-- no platform has read more than its clock reads at this true time
abbrev pub HaveRead : Air → ℕ → ReplayState → Type 0
HaveRead air now x = (p r : ℕ) → (x.at p).reading ≡ Some r → r ≤ reading_at air p now

visit_read : (g : Graph) (level : ℕ → ℕ) (air : Air) (now : ℕ) (x : ReplayState) (m : VisitRecord) (y : ReplayState) → IsVisitAt g level air now x m y → HaveRead air now x → HaveRead air now y
visit_read g level air now x m y f h p r at = ⊎_elim
    (λ (e : p ≡ m.platform).
    let read : (y.at m.platform).reading ≡ Some m.turn.last = turn_reading g level m.platform (x.at m.platform) (y.at m.platform) m.turn m.late (turn_of g level air now x m y f) in
    let same : r ≡ m.turn.last = same_some r m.turn.last (sym at ∙ ap (λ q. (y.at q).reading) e ∙ read) in
    subst (λ q. r ≤ reading_at air q now) (sym e) (subst (λ n. n ≤ reading_at air m.platform now) (sym (same ∙ f.visit.last)) (omega arith)))
    (λ (ne : p ≢ m.platform). h p r (ap (λ (s : State). s.reading) (sym (others g level air now x m y f p ne).0) ∙ at))
    (cases_same p m.platform)

pub round_read : (g : Graph) (level : ℕ → ℕ) (air : Air) (now n i : ℕ) (x : ReplayState) (ms : List VisitRecord) (y : ReplayState) → ReplayRound g level air now n i x ms y → HaveRead air now x → HaveRead air now y
round_read g level air now zero i x ms y (none, same) h = subst (HaveRead air now) (sym same) h
round_read g level air now (suc n) i x ms y round h = ⊎_elim
    (λ (done : IsFinished g i (x.at i) × ReplayRound g level air now n (suc i) x ms y). round_read g level air now n (suc i) x ms y done.1 h)
    (λ (one : Begins g level air now n i x ms y). round_read g level air now n (suc i) one.3 one.2 y one.7 (visit_read g level air now x one.1 one.3 one.6 h))
    round

read_later : (air : Air) (now next : ℕ) (x : ReplayState) → now ≤ next → HaveRead air now x → HaveRead air next x
read_later air now next x le h p r at = let before : r ≤ now - lag_of air p = h p r at in omega (arith, le, before)

module _ (g : Graph) (level : ℕ → ℕ) (rows : ℕ → List Row) (air : Air) (wired : IsWired g) (are : AreLevels g level) (fits : FitRows g rows) where
  -- after the visits of platforms i to k - 1
  pub round_sound : (now n i k : ℕ) (x : ReplayState) (ms : List VisitRecord) (y : ReplayState) → n + i ≡ k → IsSound g level rows i x → ReplayRound g level air now n i x ms y → IsSound g level rows k y
  round_sound now zero i k x ms y e h (none, same) =
      let here : i ≡ k = omega (arith, e) in
      subst (IsSound g level rows k) (sym same) (subst (λ j. IsSound g level rows j x) here h)
  round_sound now (suc n) i k x ms y e h round = ⊎_elim
      (λ (done : IsFinished g i (x.at i) × ReplayRound g level air now n (suc i) x ms y). round_sound now n (suc i) k x ms y (omega (arith, e)) (sound_further g level rows i (suc i) x (omega arith) h) done.1)
      (λ (one : Begins g level air now n i x ms y).
      round_sound now n (suc i) k one.3 one.2 y (omega (arith, e))
      (sound_visit g level rows wired are fits air now i x one.1 one.3 h one.6 (not_before one.1.platform i one.5) (suc i) (omega arith) (λ low. absurd (over one.1.platform i one.5 low))) one.7)
      round
    where
      over : (p i : ℕ) → p ≡ i → suc i ≤ p → ⊥
      over p i e low = omega (arith, e, low)

  -- after visits without a fault
  pub round_fine : (now n i : ℕ) (x : ReplayState) (ms : List VisitRecord) (y : ReplayState) → IsSound g level rows 0 x → ReplayRound g level air now n i x ms y → Each (λ (m : VisitRecord). m.fault ≡ false) ms → IsSound g level rows 0 y
  round_fine now zero i x ms y h (none, same) fine = subst (IsSound g level rows 0) (sym same) h
  round_fine now (suc n) i x ms y h round fine = ⊎_elim
      (λ (done : IsFinished g i (x.at i) × ReplayRound g level air now n (suc i) x ms y). round_fine now n (suc i) x ms y h done.1 fine)
      (λ (one : Begins g level air now n i x ms y).
      let all : Each (λ (m : VisitRecord). m.fault ≡ false) (one.1 ∷ one.2) = subst (Each (λ (m : VisitRecord). m.fault ≡ false)) one.4 fine in
      round_fine now n (suc i) one.3 one.2 y (sound_visit g level rows wired are fits air now 0 x one.1 one.3 h one.6 (omega arith) 0 (omega arith) (λ low. all.0)) one.7 all.1)
      round

  pub rounds_sound : (rounds : List (List VisitRecord)) (now end : ℕ) (x y : ReplayState) → IsSound g level rows 0 x → ReplayRounds g level air now x rounds end y → IsSound g level rows 0 y
  rounds_sound [] now end x y h (e, same) = subst (IsSound g level rows 0) (sym same) h
  rounds_sound (ms ∷ rounds) now end x y h (next, mid, round, fine, going, follows, rest) =
      rounds_sound rounds next end mid y (round_fine now (length g.platforms) 0 x ms mid h round fine) rest

  pub run_sound : (rounds : List (List VisitRecord)) (now : ℕ) (y : ReplayState) → IsReplay g level air rows rounds now y → IsSound g level rows 0 y
  run_sound rounds now y run = rounds_sound rounds run.begins now (replay_at_start g rows) y (sound_at_start g level rows) run.goes

  -- after a quiet round without a fault
  pub settled : (now : ℕ) (x : ReplayState) (ms : List VisitRecord) (y : ReplayState) → ReplayRound g level air now (length g.platforms) 0 x ms y → Each (λ (m : VisitRecord). m.fault ≡ false) ms → IsQuiet x ms y → (j : ℕ) → j < length g.platforms → IsSettled g air now y j
  settled now x ms y round fine quiet j lt =
      (quiet_round g level air now (length g.platforms) 0 x ms y round quiet.quiet fine (λ k le. quiet.closed k)).1 j (omega arith) (omega (arith, lt))

  -- true time never falls
  pub rises : (now next : ℕ) (x : ReplayState) (ms : List VisitRecord) (y : ReplayState) → IsSound g level rows 0 x → ReplayRound g level air now (length g.platforms) 0 x ms y → Each (λ (m : VisitRecord). m.fault ≡ false) ms → FollowsAt g air now x ms y next → now ≤ next
  rises now next x ms y h round fine follows = ⊎_elim
      (λ (quiet : IsQuiet x ms y × IsNextTime g air y next).
      let later : now < next = happens_later g level rows air wired are fits now y (round_fine now (length g.platforms) 0 x ms y h round fine) (settled now x ms y round fine quiet.0) next quiet.1.0 in
      omega (arith, later))
      (λ (same : (IsQuiet x ms y → ⊥) × (next ≡ now)). let e : next ≡ now = same.1 in omega (arith, e))
      follows

  pub rounds_read : (rounds : List (List VisitRecord)) (now end : ℕ) (x y : ReplayState) → IsSound g level rows 0 x → HaveRead air now x → ReplayRounds g level air now x rounds end y → HaveRead air end y
  rounds_read [] now end x y h read (e, same) = subst (λ n. HaveRead air n y) (sym e) (subst (HaveRead air now) (sym same) read)
  rounds_read (ms ∷ rounds) now end x y h read (next, mid, round, fine, going, follows, rest) =
      rounds_read rounds next end mid y (round_fine now (length g.platforms) 0 x ms mid h round fine)
      (read_later air now next mid (rises now next x ms mid h round fine follows) (round_read g level air now (length g.platforms) 0 x ms mid round read)) rest

  pub run_read : (rounds : List (List VisitRecord)) (now : ℕ) (y : ReplayState) → IsReplay g level air rows rounds now y → HaveRead air now y
  run_read rounds now y run = rounds_read rounds run.begins now (replay_at_start g rows) y (sound_at_start g level rows) (λ p r at. absurd (none_some r at)) run.goes

pub visits_keep : VisitsKeep
visits_keep g level air rows rounds now n ms y wired are fits run =
    let before : IsSound g level rows 0 run.before = run_sound g level rows air wired are fits rounds now run.before run.run in
    let after : IsSound g level rows n y = round_sound g level rows air wired are fits now n 0 n run.before ms y (omega arith) before run.round in
    record {
      legal = λ p lt. after.legal p;
      on_time = λ p lt fine. round_on_time g level rows air now p n 0 run.before ms y run.round fine (goes_on_time g level p (run.before.did p) (opened g p rows) (run.before.at p) (before.goes p (omega arith)));
      own = λ p lt. after.own p;
      linked = after.linked;
      orderly = after.orderly;
      readings = λ p r lt at. round_read g level air now n 0 run.before ms y run.round (run_read g level rows air wired are fits rounds now run.before run.run) p r at;
    }

pub replays_are_legal : ReplaysAreLegal
replays_are_legal g level air rows y wired are fits run = (
  legal,
  matched,
  (λ done. linked_if_finished g level rows (λ p. kept (y.did p)) y.at wired are fits legal done matched),
)
  where
    after : IsSound g level rows (length g.platforms) y
    after = round_sound g level rows air wired are fits run.now (length g.platforms) 0 (length g.platforms) run.before run.made y (omega arith)
        (run_sound g level rows air wired are fits run.rounds run.now run.before run.run) run.round

    legal : (p : ℕ) → p < length g.platforms → IsLegal g level p rows (kept (y.did p)) (y.at p)
    legal p lt = (kept_is_legal g level p rows (y.did p) (y.at p) wired are fits (after.single p)).0 (after.legal p)

    matched : AreMatched g (λ p. kept (y.did p))
    matched l link at = (
      under_way y l,
      (kept_is_legal g level (platform_of g link.from) rows (y.did (platform_of g link.from)) (y.at (platform_of g link.from)) wired are fits (after.single (platform_of g link.from))).2.sent l
          ∙ after.linked l link at
          ∙ ap (λ z. z ++ under_way y l) (sym ((kept_is_legal g level (platform_of g link.to) rows (y.did (platform_of g link.to)) (y.at (platform_of g link.to)) wired are fits (after.single (platform_of g link.to))).2.taken l)),
    )
