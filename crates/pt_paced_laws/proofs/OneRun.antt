-- Two whole runs are the same, with the same faults in their last rounds.
use Rattle.std.proofs.Common.{◌-◌, ◌≡◌, ℕ, zero, suc, ◌+◌, ◌<◌, ◌≤◌, ◌⊎◌, false, List, [], ◌∷◌, Option, ℤ, length, arith, sym, ap₂, subst, ◌∙◌, refl, ⊎_elim, ap}
use Rattle.pt_types.specs.declared.graph.Graph.{Graph}
use Rattle.pt_types.specs.declared.graph.Unit.{Unit}
use Rattle.pt_types.specs.declared.rows.Row.{Row}
use Rattle.pt_semantics.specs.Lists.{Each}
use Rattle.pt_semantics.specs.Ranks.{AreLevels}
use Rattle.pt_semantics.specs.Offsets.{HasOffset, IsFeasible}
use Rattle.pt_semantics.specs.Wired.{IsWired}
use Rattle.pt_semantics.specs.Rows.{FitRows}
use Rattle.pt_semantics.specs.Linked.{IsFinished}
use Rattle.pt_semantics.specs.Visits.{RunState, run_at_start, VisitRecord, AreFinished}
use Rattle.pt_semantics.specs.Rounds.{Makes, Round, Rounds, Follows, IsQuietRound, IsLeastNext, IsWholeRun}
use Rattle.pt_laws.proofs.Onward.{Onward, makes_onward}
use Rattle.pt_paced_laws.proofs.PacedRuns.{start_onward, rounds_onward}
use Rattle.pt_paced_laws.proofs.SameTurn.{made, together}
use Rattle.pt_semantics.specs.Kept.{kept}
use Rattle.pt_paced_laws.specs.PacedTheorems.{PacedIsOne}
use Rattle.pt_paced_laws.specs.WholeRuns.{WholeRunsAreOne}

-- the least next reading is one
next_one : (g : Graph) (x : RunState) (a b : ℕ) → IsLeastNext g x a → IsLeastNext g x b → a ≡ b
next_one g x a b ha hb =
    let up : a ≤ b = ha.least hb.one.0 b hb.one.1 hb.one.2 hb.one.3 in
    let down : b ≤ a = hb.least ha.one.0 a ha.one.1 ha.one.2 ha.one.3 in
    omega (arith, up, down)

follows_one : (g : Graph) (c : ℕ) (x : RunState) (ms : List VisitRecord) (y : RunState) (a b : ℕ) → Follows g c x ms y a → Follows g c x ms y b → a ≡ b
follows_one g c x ms y a b ha hb =
    ⊎_elim
    (λ (p : IsQuietRound x ms y × IsLeastNext g y a).
    ⊎_elim (λ (q : IsQuietRound x ms y × IsLeastNext g y b). next_one g y a b p.1 q.1) (λ (q : (IsQuietRound x ms y → ⊥) × (b ≡ c)). absurd (q.0 p.0)) hb)
    (λ (p : (IsQuietRound x ms y → ⊥) × (a ≡ c)).
    ⊎_elim (λ (q : IsQuietRound x ms y × IsLeastNext g y b). absurd (p.0 q.0)) (λ (q : (IsQuietRound x ms y → ⊥) × (b ≡ c)). p.1 ∙ sym q.1) hb)
    ha

-- the end of a run: all platforms are finished, or one has a fault
abbrev Ends : Graph → List VisitRecord → RunState → Type 0
Ends g ms y = AreFinished g y ⊎ (Each (λ (m : VisitRecord). m.fault ≡ false) ms → ⊥)

module _ (g : Graph) (level : ℕ → ℕ) (rows : ℕ → List Row) (offset : Unit → Option ℤ) (wired : IsWired g) (are : AreLevels g level) (fits : FitRows g rows) (feasible : IsFeasible g) (has : (u : Unit) → HasOffset g u (offset u)) where
  round_one : (c n i : ℕ) (x y z : RunState) (ms ns : List VisitRecord) → n + i ≤ length g.platforms → Onward g level rows offset c x → Round g level c n i x ms y → Round g level c n i x ns z → (ms ≡ ns) × (y ≡ z)
  round_one c zero i x y z ms ns le h (em, ey) (en, ez) = (em ∙ sym en, ey ∙ sym ez)
  round_one c (suc n) i x y z ms ns le h r q =
      ⊎_elim
      (λ (skip : IsFinished g i (x.at i) × Round g level c n (suc i) x ms y).
      ⊎_elim
      (λ (skip2 : IsFinished g i (x.at i) × Round g level c n (suc i) x ns z). round_one c n (suc i) x y z ms ns (omega (arith, le)) h skip.1 skip2.1)
      (λ (two : (IsFinished g i (x.at i) → ⊥) × (m : VisitRecord) × (rest : List VisitRecord) × (mid : RunState) × (ns ≡ m ∷ rest) × (m.platform ≡ i) × Makes g level c x m mid × Round g level c n (suc i) mid rest z). absurd (two.0 skip.0))
      q)
      (λ (one : (IsFinished g i (x.at i) → ⊥) × (m : VisitRecord) × (rest : List VisitRecord) × (mid : RunState) × (ms ≡ m ∷ rest) × (m.platform ≡ i) × Makes g level c x m mid × Round g level c n (suc i) mid rest y).
      ⊎_elim
      (λ (skip2 : IsFinished g i (x.at i) × Round g level c n (suc i) x ns z). absurd (one.0 skip2.0))
      (λ (two : (IsFinished g i (x.at i) → ⊥) × (m : VisitRecord) × (rest : List VisitRecord) × (mid : RunState) × (ns ≡ m ∷ rest) × (m.platform ≡ i) × Makes g level c x m mid × Round g level c n (suc i) mid rest z).
      let here : one.1.platform < length g.platforms = subst (λ p. p < length g.platforms) (sym one.5) (omega (arith, le)) in
      let on = makes_onward g level rows offset has wired feasible c x one.3 one.1 here h one.6 in
      let same = made g level 64 (λ l. 64 - length (x.on_way l)) c x one.1 two.1 one.3 two.3 one.6 two.6 (one.5 ∙ sym two.5) in
      let mids = together g level 64 (λ l. 64 - length (x.on_way l)) c x one.1 two.1 one.3 two.3 one.6 two.6 (one.5 ∙ sym two.5) in
      let rest = round_one c n (suc i) one.3 y z one.2 two.2 (omega (arith, le)) on.1 one.7 (subst (λ w. Round g level c n (suc i) w two.2 z) (sym mids) two.7) in
      (one.4 ∙ ap₂ (λ a b. a ∷ b) same rest.0 ∙ sym two.4, rest.1))
      q)
      r

  -- a run that ended goes no further
  no_more : (c b : ℕ) (x y mid : RunState) (ms ns : List VisitRecord) → Onward g level rows offset c x → Round g level c (length g.platforms) 0 x ms y → Ends g ms y → Round g level c (length g.platforms) 0 x ns mid → Each (λ (m : VisitRecord). m.fault ≡ false) ns → (AreFinished g mid → ⊥) → ⊥
  no_more c b x y mid ms ns h r ends q fine going =
      let same = round_one c (length g.platforms) 0 x y mid ms ns (omega arith) h r q in
      ⊎_elim
      (λ (done : AreFinished g y). going (subst (AreFinished g) same.1 done))
      (λ (faulty : Each (λ (m : VisitRecord). m.fault ≡ false) ms → ⊥). faulty (subst (Each (λ (m : VisitRecord). m.fault ≡ false)) (sym same.0) fine))
      ends

  whole_one : (rounds others : List (List VisitRecord)) (c d e : ℕ) (x v w y z : RunState) (ms ns : List VisitRecord) → Onward g level rows offset c x →
      Rounds g level c x rounds d v → Round g level d (length g.platforms) 0 v ms y → Ends g ms y →
      Rounds g level c x others e w → Round g level e (length g.platforms) 0 w ns z → Ends g ns z → (ms ≡ ns) × (y ≡ z)
  whole_one [] [] c d e x v w y z ms ns h (ed, ev) r ends (ee, ew) q ends2 =
      round_one c (length g.platforms) 0 x y z ms ns (omega arith) h
      (subst (λ n. Round g level n (length g.platforms) 0 x ms y) ed (subst (λ s. Round g level d (length g.platforms) 0 s ms y) ev r))
      (subst (λ n. Round g level n (length g.platforms) 0 x ns z) ee (subst (λ s. Round g level e (length g.platforms) 0 s ns z) ew q))
  whole_one [] (os ∷ others) c d e x v w y z ms ns h (ed, ev) r ends (b, mid, round, fine, going, follows, rest) q ends2 =
      absurd (no_more c b x y mid ms os h (subst (λ n. Round g level n (length g.platforms) 0 x ms y) ed (subst (λ s. Round g level d (length g.platforms) 0 s ms y) ev r)) ends round fine going)
  whole_one (rs ∷ rounds) [] c d e x v w y z ms ns h (b, mid, round, fine, going, follows, rest) r ends (ee, ew) q ends2 =
      absurd (no_more c b x z mid ns rs h (subst (λ n. Round g level n (length g.platforms) 0 x ns z) ee (subst (λ s. Round g level e (length g.platforms) 0 s ns z) ew q)) ends2 round fine going)
  whole_one (rs ∷ rounds) (os ∷ others) c d e x v w y z ms ns h (b, mid, round, fine, going, follows, rest) r ends (b2, mid2, round2, fine2, going2, follows2, rest2) q ends2 =
      let same = round_one c (length g.platforms) 0 x mid mid2 rs os (omega arith) h round round2 in
      let follows3 : Follows g c x rs mid b2 = subst (λ l. Follows g c x l mid b2) (sym same.0) (subst (λ s. Follows g c x os s b2) (sym same.1) follows2) in
      let reading : b ≡ b2 = follows_one g c x rs mid b b2 follows follows3 in
      let on : Onward g level rows offset b mid = rounds_onward g level rows offset wired are fits feasible has (rs ∷ []) c b x mid h (b, mid, round, fine, going, follows, (refl, refl)) in
      whole_one rounds others b d e mid v w y z ms ns on rest r ends
      (subst (λ n. Rounds g level n mid others e w) (sym reading) (subst (λ s. Rounds g level b2 s others e w) (sym same.1) rest2)) q ends2

  runs_one : (y z : RunState) (a : IsWholeRun g level rows y) (b : IsWholeRun g level rows z) → (a.made ≡ b.made) × (y ≡ z)
  runs_one y z a b =
      let start : a.run.begins ≡ b.run.begins = next_one g (run_at_start g rows) a.run.begins b.run.begins a.run.begins_at b.run.begins_at in
      whole_one a.rounds b.rounds a.run.begins a.reading b.reading (run_at_start g rows) a.before b.before y z a.made b.made
      (start_onward g level rows offset wired are fits feasible has a.run.begins a.run.begins_at)
      a.run.goes a.round a.ends
      (subst (λ n. Rounds g level n (run_at_start g rows) b.rounds b.reading b.before) (sym start) b.run.goes) b.round b.ends

pub runs_are_one : WholeRunsAreOne
runs_are_one g level rows y z a b =
    let same = runs_one g level rows a.offset a.wired a.levels a.fit a.feasible a.offsets y z a.run b.run in
    (same.1, same.0)

pub paced_is_one : PacedIsOne
paced_is_one g level rows offset histories others wired are fits feasible has a b i lt =
    a.2 i lt ∙ ap (λ (y : RunState). kept (y.did i)) (runs_one g level rows offset wired are fits feasible has a.0 b.0 a.1 b.1).1 ∙ sym (b.2 i lt)
