-- A replayed run within its bounds does the same as the paced run.
use Rattle.std.proofs.Common.{◌≡◌, ℕ, zero, suc, ◌<◌, ◌≤◌, ◌+◌, true, false, List, ◌∷◌, length, sym, subst, ◌∙◌, ⊎_elim, arith}
use Rattle.std.proofs.lemmas.Bool.{cases_Bool}
use Rattle.pt_types.specs.declared.graph.Graph.{Graph}
use Rattle.pt_types.specs.declared.rows.Row.{Row}
use Rattle.pt_semantics.specs.Counts.{unit_firings}
use Rattle.pt_semantics.specs.Linked.{IsFinished}
use Rattle.pt_semantics.specs.Lists.{Each}
use Rattle.pt_semantics.specs.Meaning.{ActorFiring, IsMeaning}
use Rattle.pt_semantics.specs.Parts.{parts}
use Rattle.pt_semantics.specs.Ranks.{AreRanks}
use Rattle.pt_semantics.specs.Visits.{AreFinished, VisitRecord, RunState}
use Rattle.pt_semantics.proofs.Acyclic.{levels_forbid_cycles, ranks_exist}
use Rattle.pt_laws.proofs.Onward.{AdvanceRound, Advances, round_advances as paced_advances}
use Rattle.pt_paced_laws.specs.NearClocks.{KeepsPace}
use Rattle.pt_paced_laws.specs.WholeRuns.{IsEnd}
use Rattle.pt_paced_laws.proofs.Existing.{meanings_exist}
use Rattle.pt_paced_laws.proofs.Kept.{claimed_as_meant, missed_as_meant}
use Rattle.pt_paced_laws.proofs.Long.{long_exactly}
use Rattle.pt_types.specs.declared.air.Air.{Air}
use Rattle.pt_semantics.specs.TrueTime.{reading_at}
use Rattle.pt_replay_laws.specs.ReplayRounds.{IsWholeReplay}
use Rattle.pt_replay_laws.specs.ReplayState.{ReplayState}
use Rattle.pt_replay_laws.specs.InBounds.AsPaced.{DoTheSame, ReplaysInBoundsAreAsPaced}
use Rattle.pt_replay_laws.specs.InBounds.InBounds.{IsInBounds, without_arrivals}
use Rattle.pt_replay_laws.proofs.InBounds.Replays.{faults_are_long, replays_keep_pace}
use Rattle.pt_replay_laws.proofs.InBounds.Rounds.{round_advances}

-- where no platform has more firings than it may claim, no turn of a round has a fault
module _ (g : Graph) (level : ℕ → ℕ) (c many : ℕ → ℕ) (few : (p : ℕ) → p < length g.platforms → many p ≤ g.claims) where
  abbrev IsLong : VisitRecord → Type 0
  IsLong m = m.fault ≡ true → g.claims < many m.platform

  none_faulty : (n i : ℕ) (x : RunState) (ms : List VisitRecord) (y : RunState) → n + i ≤ length g.platforms → AdvanceRound g level c n i x ms y → Each IsLong ms → Each (λ (m : VisitRecord). m.fault ≡ false) ms
  none_faulty zero i x ms y le (none, same) long = subst (Each (λ (m : VisitRecord). m.fault ≡ false)) (sym none) tt
  none_faulty (suc n) i x ms y le round long = ⊎_elim
      (λ (done : IsFinished g i (x.at i) × AdvanceRound g level c n (suc i) x ms y). none_faulty n (suc i) x ms y (omega (arith, le)) done.1 long)
      (λ (one : (IsFinished g i (x.at i) → ⊥) × (m : VisitRecord) × (rest : List VisitRecord) × (mid : RunState) × (ms ≡ m ∷ rest) × (m.platform ≡ i) × Advances g level (c m.platform) x m mid × AdvanceRound g level c n (suc i) mid rest y).
      let all : Each IsLong (one.1 ∷ one.2) = subst (Each IsLong) one.4 long in
      let lt : one.1.platform < length g.platforms = subst (λ p. p < length g.platforms) (sym one.5) (omega (arith, le)) in
      subst (Each (λ (m : VisitRecord). m.fault ≡ false)) (sym one.4) (no_fault one.1 lt all.0, none_faulty n (suc i) one.3 one.2 y (omega (arith, le)) one.7 all.1))
      round
    where
      no_fault : (m : VisitRecord) → m.platform < length g.platforms → IsLong m → m.fault ≡ false
      no_fault m lt long = ⊎_elim
          (λ (e : m.fault ≡ true).
          let more : g.claims < many m.platform = long e in
          let less : many m.platform ≤ g.claims = few m.platform lt in
          absurd (omega (arith, more, less)))
          (λ (e : m.fault ≡ false). e)
          (cases_Bool m.fault)

module _ (g : Graph) (level : ℕ → ℕ) (air : Air) (rows : ℕ → List Row) (y : ReplayState) (z : RunState) (inside : IsInBounds g level air rows) (run : IsWholeReplay g level air rows y) (paced : IsEnd g level rows z) (rank : ℕ → ℕ) (xs : List ActorFiring) (ranks : AreRanks g rank) (meaning : IsMeaning g rank rows xs) where
  abbrev many : ℕ → ℕ
  many p = unit_firings g p (parts g xs)

  replayed : KeepsPace g level rows (without_arrivals y)
  replayed = replays_keep_pace g level air rows y inside run

  long_paced : Each (λ (m : VisitRecord). m.fault ≡ true → g.claims < many m.platform) paced.run.made × (AreFinished g z → (p : ℕ) → p < length g.platforms → many p ≤ g.claims)
  long_paced = long_exactly g level rank rows paced.offset paced.run.rounds paced.run.reading (length g.platforms) paced.run.made z xs paced.wired paced.levels ranks paced.fit paced.feasible paced.offsets
      (record { before = paced.run.before; run = paced.run.run; some = omega arith; round = paced.run.round }) meaning

  long_replayed : Each (λ (m : VisitRecord). m.fault ≡ true → g.claims < many m.platform) run.made
  long_replayed = faults_are_long g level air rows run.rounds run.now (length g.platforms) run.made y inside
      (record { before = run.before; run = run.run; some = omega arith; round = run.round }) rank xs ranks meaning

  paced_is_finished : AreFinished g (without_arrivals y) → AreFinished g z
  paced_is_finished done = ⊎_elim
      (λ (all : AreFinished g z). all)
      (λ (faulty : Each (λ (m : VisitRecord). m.fault ≡ false) paced.run.made → ⊥).
      absurd (faulty (none_faulty g level (λ p. paced.run.reading) many (replayed.none_long done rank xs ranks meaning) (length g.platforms) 0 paced.run.before paced.run.made z (omega arith)
      (paced_advances g level paced.run.reading (length g.platforms) 0 paced.run.before paced.run.made z paced.run.round) long_paced.0)))
      paced.run.ends

  replay_is_finished : AreFinished g z → AreFinished g (without_arrivals y)
  replay_is_finished done = ⊎_elim
      (λ (all : AreFinished g (without_arrivals y)). all)
      (λ (faulty : Each (λ (m : VisitRecord). m.fault ≡ false) run.made → ⊥).
      absurd (faulty (none_faulty g level (λ p. reading_at air p run.now) many (long_paced.1 done) (length g.platforms) 0 (without_arrivals run.before) run.made (without_arrivals y) (omega arith)
      (round_advances g level air run.now (length g.platforms) 0 run.before run.made y run.round) long_replayed)))
      run.ends

  the_same : DoTheSame g (without_arrivals y) z
  the_same = record {
    finished = (paced_is_finished, replay_is_finished);
    claims = λ done u. replayed.all_claimed (replay_is_finished done) rank xs ranks meaning u ∙ sym ((claimed_as_meant g level rank rows z xs paced ranks meaning).1 done u);
    misses = λ done a t reading limit.
        let here = replayed.missed_as_meant (replay_is_finished done) rank xs ranks meaning a t reading limit in
        let there = missed_as_meant g level rank rows z xs paced done ranks meaning a t reading limit in
        ((λ missed. there.1 (here.0 missed)), (λ missed. here.1 (there.0 missed)));
  }

pub as_paced : ReplaysInBoundsAreAsPaced
as_paced g level air rows y z inside run paced =
    let (rank, ranks) = ranks_exist g inside.wired (levels_forbid_cycles g level inside.levels) in
    let (xs, meaning) = meanings_exist g level rank rows inside.wired inside.levels ranks inside.fit in
    the_same g level air rows y z inside run paced rank xs ranks meaning
