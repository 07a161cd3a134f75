-- Two whole replays of one recording are the same, with the same faults in their last rounds.
use Rattle.std.proofs.Common.{◌≡◌, ℕ, zero, suc, ◌≤◌, ◌⊎◌, false, List, [], ◌∷◌, length, arith, sym, ap, ap₂, subst, ◌∙◌, ⊎_elim}
use Rattle.pt_types.specs.declared.graph.Graph.{Graph}
use Rattle.pt_semantics.specs.Closing.{on_link}
use Rattle.pt_semantics.specs.Linked.{IsFinished}
use Rattle.pt_semantics.specs.Lists.{Each}
use Rattle.pt_semantics.specs.Visits.{IsVisit, VisitRecord, RunState}
use Rattle.pt_paced_laws.proofs.SameTurn.{made, together}
use Rattle.pt_types.specs.declared.air.Air.{Air}
use Rattle.pt_semantics.specs.TrueTime.{put_link, reading_at}
use Rattle.pt_replay_laws.specs.ReplayRounds.{ReplayRound, ReplayRounds, FollowsAt, IsQuiet}
use Rattle.pt_replay_laws.specs.OneReplay.{ReplaysAreOne}
use Rattle.pt_replay_laws.specs.ReplayState.{AllFinished, IsVisitAt, IsNextTime, ReplayState, come_to, replay_at_start, taken_off}

-- the least next time is one
next_one : (g : Graph) (air : Air) (x : ReplayState) (a b : ℕ) → IsNextTime g air x a → IsNextTime g air x b → a ≡ b
next_one g air x a b ha hb =
    let up : a ≤ b = ha.1 b hb.0 in
    let down : b ≤ a = hb.1 a ha.0 in
    omega (arith, up, down)

follows_one : (g : Graph) (air : Air) (now : ℕ) (x : ReplayState) (ms : List VisitRecord) (y : ReplayState) (a b : ℕ) → FollowsAt g air now x ms y a → FollowsAt g air now x ms y b → a ≡ b
follows_one g air now x ms y a b ha hb =
    ⊎_elim
    (λ (p : IsQuiet x ms y × IsNextTime g air y a).
    ⊎_elim (λ (q : IsQuiet x ms y × IsNextTime g air y b). next_one g air y a b p.1 q.1) (λ (q : (IsQuiet x ms y → ⊥) × (b ≡ now)). absurd (q.0 p.0)) hb)
    (λ (p : (IsQuiet x ms y → ⊥) × (a ≡ now)).
    ⊎_elim (λ (q : IsQuiet x ms y × IsNextTime g air y b). absurd (p.0 q.0)) (λ (q : (IsQuiet x ms y → ⊥) × (b ≡ now)). p.1 ∙ sym q.1) hb)
    ha

-- the end of a replay: all platforms are finished, or one has a fault
abbrev Ends : Graph → List VisitRecord → ReplayState → Type 0
Ends g ms y = AllFinished g y ⊎ (Each (λ (m : VisitRecord). m.fault ≡ false) ms → ⊥)

module _ (g : Graph) (level : ℕ → ℕ) (air : Air) where
  -- two visits of one platform at one time
  visit_one : (now : ℕ) (x : ReplayState) (m n : VisitRecord) (y z : ReplayState) → m.platform ≡ n.platform → IsVisitAt g level air now x m y → IsVisitAt g level air now x n z → (m ≡ n) × (y ≡ z)
  visit_one now x m n y z platform k j = (same, λ i. record { at = states i; did = turns i; airways = λ l. airways l i })
    where
      visit : IsVisit g level 64 (λ l. 64) (reading_at air m.platform now) (come_to g m.platform now x) n j.after
      visit = subst (λ p. IsVisit g level 64 (λ l. 64) (reading_at air p now) (come_to g p now x) n j.after) (sym platform) j.visit

      same : m ≡ n
      same = made g level 64 (λ l. 64) (reading_at air m.platform now) (come_to g m.platform now x) m n k.after j.after k.visit visit platform

      after : k.after ≡ j.after
      after = together g level 64 (λ l. 64) (reading_at air m.platform now) (come_to g m.platform now x) m n k.after j.after k.visit visit platform

      states : y.at ≡ z.at
      states = k.states ∙ ap (λ (t : RunState). t.at) after ∙ sym j.states

      turns : y.did ≡ z.did
      turns = k.turns ∙ ap (λ (t : RunState). t.did) after ∙ sym j.turns

      airways : (l : ℕ) → y.airways l ≡ z.airways l
      airways l = k.airways l ∙ ap (λ (o : VisitRecord). put_link air g now l (on_link l o.turn.sent) (taken_off (on_link l o.turn.taken) (x.airways l))) same ∙ sym (j.airways l)

  round_one : (now n i : ℕ) (x y z : ReplayState) (ms ns : List VisitRecord) → ReplayRound g level air now n i x ms y → ReplayRound g level air now n i x ns z → (ms ≡ ns) × (y ≡ z)
  round_one now zero i x y z ms ns (em, ey) (en, ez) = (em ∙ sym en, ey ∙ sym ez)
  round_one now (suc n) i x y z ms ns r q =
      ⊎_elim
      (λ (skip : IsFinished g i (x.at i) × ReplayRound g level air now n (suc i) x ms y).
      ⊎_elim
      (λ (skip2 : IsFinished g i (x.at i) × ReplayRound g level air now n (suc i) x ns z). round_one now n (suc i) x y z ms ns skip.1 skip2.1)
      (λ (two : (IsFinished g i (x.at i) → ⊥) × (m : VisitRecord) × (rest : List VisitRecord) × (mid : ReplayState) × (ns ≡ m ∷ rest) × (m.platform ≡ i) × IsVisitAt g level air now x m mid × ReplayRound g level air now n (suc i) mid rest z). absurd (two.0 skip.0))
      q)
      (λ (one : (IsFinished g i (x.at i) → ⊥) × (m : VisitRecord) × (rest : List VisitRecord) × (mid : ReplayState) × (ms ≡ m ∷ rest) × (m.platform ≡ i) × IsVisitAt g level air now x m mid × ReplayRound g level air now n (suc i) mid rest y).
      ⊎_elim
      (λ (skip2 : IsFinished g i (x.at i) × ReplayRound g level air now n (suc i) x ns z). absurd (one.0 skip2.0))
      (λ (two : (IsFinished g i (x.at i) → ⊥) × (m : VisitRecord) × (rest : List VisitRecord) × (mid : ReplayState) × (ns ≡ m ∷ rest) × (m.platform ≡ i) × IsVisitAt g level air now x m mid × ReplayRound g level air now n (suc i) mid rest z).
      let same = visit_one now x one.1 two.1 one.3 two.3 (one.5 ∙ sym two.5) one.6 two.6 in
      let rest = round_one now n (suc i) one.3 y z one.2 two.2 one.7 (subst (λ w. ReplayRound g level air now n (suc i) w two.2 z) (sym same.1) two.7) in
      (one.4 ∙ ap₂ (λ a b. a ∷ b) same.0 rest.0 ∙ sym two.4, rest.1))
      q)
      r

  -- a replay that ended goes no further
  no_more : (now : ℕ) (x y mid : ReplayState) (ms ns : List VisitRecord) → ReplayRound g level air now (length g.platforms) 0 x ms y → Ends g ms y → ReplayRound g level air now (length g.platforms) 0 x ns mid → Each (λ (m : VisitRecord). m.fault ≡ false) ns → (AllFinished g mid → ⊥) → ⊥
  no_more now x y mid ms ns r ends q fine going =
      let same = round_one now (length g.platforms) 0 x y mid ms ns r q in
      ⊎_elim
      (λ (done : AllFinished g y). going (subst (AllFinished g) same.1 done))
      (λ (faulty : Each (λ (m : VisitRecord). m.fault ≡ false) ms → ⊥). faulty (subst (Each (λ (m : VisitRecord). m.fault ≡ false)) (sym same.0) fine))
      ends

  -- the last round begins where the rounds before it end
  at_last : (now d : ℕ) (x v y : ReplayState) (ms : List VisitRecord) → d ≡ now → v ≡ x → ReplayRound g level air d (length g.platforms) 0 v ms y → ReplayRound g level air now (length g.platforms) 0 x ms y
  at_last now d x v y ms ed ev r = subst (λ n. ReplayRound g level air n (length g.platforms) 0 x ms y) ed (subst (λ s. ReplayRound g level air d (length g.platforms) 0 s ms y) ev r)

  whole_one : (rounds others : List (List VisitRecord)) (now d e : ℕ) (x v w y z : ReplayState) (ms ns : List VisitRecord) →
      ReplayRounds g level air now x rounds d v → ReplayRound g level air d (length g.platforms) 0 v ms y → Ends g ms y →
      ReplayRounds g level air now x others e w → ReplayRound g level air e (length g.platforms) 0 w ns z → Ends g ns z → (ms ≡ ns) × (y ≡ z)
  whole_one [] [] now d e x v w y z ms ns (ed, ev) r ends (ee, ew) q ends2 = round_one now (length g.platforms) 0 x y z ms ns (at_last now d x v y ms ed ev r) (at_last now e x w z ns ee ew q)
  whole_one [] (os ∷ others) now d e x v w y z ms ns (ed, ev) r ends (b, mid, round, fine, going, follows, rest) q ends2 = absurd (no_more now x y mid ms os (at_last now d x v y ms ed ev r) ends round fine going)
  whole_one (rs ∷ rounds) [] now d e x v w y z ms ns (b, mid, round, fine, going, follows, rest) r ends (ee, ew) q ends2 = absurd (no_more now x z mid ns rs (at_last now e x w z ns ee ew q) ends2 round fine going)
  whole_one (rs ∷ rounds) (os ∷ others) now d e x v w y z ms ns (b, mid, round, fine, going, follows, rest) r ends (b2, mid2, round2, fine2, going2, follows2, rest2) q ends2 =
      let same = round_one now (length g.platforms) 0 x mid mid2 rs os round round2 in
      let follows3 : FollowsAt g air now x rs mid b2 = subst (λ l. FollowsAt g air now x l mid b2) (sym same.0) (subst (λ s. FollowsAt g air now x os s b2) (sym same.1) follows2) in
      let time : b ≡ b2 = follows_one g air now x rs mid b b2 follows follows3 in
      whole_one rounds others b d e mid v w y z ms ns rest r ends
      (subst (λ n. ReplayRounds g level air n mid others e w) (sym time) (subst (λ s. ReplayRounds g level air b2 s others e w) (sym same.1) rest2)) q ends2

pub replays_are_one : ReplaysAreOne
replays_are_one g level air rows y z a b =
    let start : a.run.begins ≡ b.run.begins = next_one g air (replay_at_start g rows) a.run.begins b.run.begins a.run.begins_at b.run.begins_at in
    let same = whole_one g level air a.rounds b.rounds a.run.begins a.now b.now (replay_at_start g rows) a.before b.before y z a.made b.made
    a.run.goes a.round a.ends
    (subst (λ n. ReplayRounds g level air n (replay_at_start g rows) b.rounds b.now b.before) (sym start) b.run.goes) b.round b.ends in
    (same.1, same.0)
