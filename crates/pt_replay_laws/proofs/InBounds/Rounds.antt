-- Rounds of a replay within its bounds: true time rises no further than to what is still to be done, and to what still arrives.
use Rattle.std.proofs.Common.{◌≡◌, ℕ, zero, suc, ◌<◌, ◌≤◌, ◌+◌, ◌-◌, None, false, List, [], ◌∷◌, ℤ, Some, length, map, slice_get, refl, sym, ap, subst, inl, inr, ⊎_elim, arith}
use Rattle.std.proofs.lemmas.Option.{slice_get_within}
use Rattle.pt_tags.specs.declared.message.Message.TheVariants.{Event}
use Rattle.pt_tags.specs.declared.tag.Tag.{Tag}
use Rattle.pt_types.specs.declared.graph.Graph.{Graph}
use Rattle.pt_types.specs.declared.graph.Link.{Link}
use Rattle.pt_types.specs.declared.graph.Unit.{Unit}
use Rattle.pt_types.specs.declared.rows.Row.{Row}
use Rattle.pt_types.specs.Lookups.{platform_of}
use Rattle.pt_semantics.specs.Bounds.{link_bound}
use Rattle.pt_semantics.specs.Linked.{IsFinished}
use Rattle.pt_semantics.specs.Lists.{Each, IsIn}
use Rattle.pt_semantics.specs.Paced.{IsCandidate}
use Rattle.pt_semantics.specs.Visits.{VisitRecord}
use Rattle.pt_semantics.proofs.Longest.{levels_grow}
use Rattle.pt_laws.proofs.Onward.{AdvanceRound}
use Rattle.pt_laws.proofs.Raise.{raise_near, start_near}
use Rattle.pt_laws.proofs.Walks.{on_time_history}
use Rattle.pt_types.specs.declared.air.Air.{Air}
use Rattle.pt_types.specs.declared.air.InAir.{InAir}
use Rattle.pt_semantics.specs.TrueTime.{lag_of, reading_at, true_time}
use Rattle.pt_replay_laws.specs.ReplayRounds.{ReplayRound, ReplayRounds, IsQuiet, IsReplay}
use Rattle.pt_replay_laws.specs.ReplayState.{IsNextTime, ReplayState, replay_at_start}
use Rattle.pt_replay_laws.proofs.Calm.{IsCalm, read_then}
use Rattle.pt_replay_laws.proofs.Quiet.{Begins, IsSettled}
use Rattle.pt_replay_laws.proofs.Replays.{rises, round_fine, settled}
use Rattle.pt_replay_laws.proofs.Sound.{IsSound, sound_at_start, sound_visit, sound_further}
use Rattle.pt_replay_laws.specs.InBounds.InBounds.{IsInBounds, without_arrivals}
use Rattle.pt_replay_laws.proofs.InBounds.Visits.{IsPaceful, visit_advances, visit_paceful}
use Rattle.pt_replay_laws.proofs.InBounds.Ways.{nothing_in_time}
use Rattle.pt_paced_laws.proofs.Places.{not_before}

-- a round is one of turns at each platform's own reading
pub round_advances : (g : Graph) (level : ℕ → ℕ) (air : Air) (now n i : ℕ) (x : ReplayState) (ms : List VisitRecord) (y : ReplayState) → ReplayRound g level air now n i x ms y → AdvanceRound g level (λ j. reading_at air j now) n i (without_arrivals x) ms (without_arrivals y)
round_advances g level air now zero i x ms y (none, same) = (none, ap without_arrivals same)
round_advances g level air now (suc n) i x ms y round = ⊎_elim
    (λ (done : IsFinished g i (x.at i) × ReplayRound g level air now n (suc i) x ms y). inl (done.0, round_advances g level air now n (suc i) x ms y done.1))
    (λ (one : Begins g level air now n i x ms y).
    inr (one.0, one.1, one.2, without_arrivals one.3, one.4, one.5, visit_advances g level air now x one.1 one.3 one.6, round_advances g level air now n (suc i) one.3 one.2 y one.7))
    round

carried_by : (ms : List InAir) (t : Tag) (v : ℤ) → IsIn (Event t v) (map (λ (m : InAir). m.message) ms) → (m : InAir) × IsIn m ms × (m.message ≡ Event t v)
carried_by [] t v mem = absurd mem
carried_by (m ∷ ms) t v mem = ⊎_elim
    (λ (here : Event t v ≡ m.message). (m, inl refl, sym here))
    (λ (later : IsIn (Event t v) (map (λ (z : InAir). z.message) ms)). let found = carried_by ms t v later in (found.0, inr found.1, found.2))
    mem

-- up to the next true time at which something can happen, no platform's clock is past its next reading
no_later : (g : Graph) (air : Air) (next : ℕ) (x : ReplayState) → IsNextTime g air x next → (i : ℕ) → i < length g.platforms → (x.at i).closed ≡ false → (d : ℕ) → IsCandidate g i (x.at i) d → reading_at air i next ≤ d
no_later g air next x least i lt still d candidate =
    let le : next ≤ true_time air i d = least.1 (true_time air i d) (inl (i, lt, still, d, candidate, refl)) in
    let then : true_time air i d - lag_of air i ≤ d = read_then air i d in
    sums next (true_time air i d) (lag_of air i) d le then
  where
    sums : (a b c e : ℕ) → a ≤ b → b - c ≤ e → a - c ≤ e
    sums a b c e p q = omega (arith, p, q)

module _ (g : Graph) (level : ℕ → ℕ) (air : Air) (rows : ℕ → List Row) (inside : IsInBounds g level air rows) where
  pub round_paceful : (now n i : ℕ) (x : ReplayState) (ms : List VisitRecord) (y : ReplayState) → n + i ≤ length g.platforms → IsSound g level rows i x → IsPaceful g level air rows inside.offset now x → ReplayRound g level air now n i x ms y →
      Each (λ (m : VisitRecord). m.late ≡ false) ms × IsPaceful g level air rows inside.offset now y
  round_paceful now zero i x ms y le sound h (none, same) = (
    subst (Each (λ (m : VisitRecord). m.late ≡ false)) (sym none) tt,
    subst (IsPaceful g level air rows inside.offset now) (sym same) h,
  )
  round_paceful now (suc n) i x ms y le sound h round = ⊎_elim
      (λ (done : IsFinished g i (x.at i) × ReplayRound g level air now n (suc i) x ms y).
      round_paceful now n (suc i) x ms y (omega (arith, le)) (sound_further g level rows i (suc i) x (omega arith) sound) h done.1)
      (λ (one : Begins g level air now n i x ms y).
      let lt : one.1.platform < length g.platforms = subst (λ p. p < length g.platforms) (sym one.5) (omega (arith, le)) in
      let from : i ≤ one.1.platform = not_before one.1.platform i one.5 in
      let visit = visit_paceful g level air rows inside now i x one.1 one.3 sound one.6 from lt h in
      let after : IsSound g level rows (suc i) one.3 = sound_visit g level rows inside.wired inside.levels inside.fit air now i x one.1 one.3 sound one.6 from (suc i) (omega arith) (λ low. absurd (over one.1.platform i one.5 low)) in
      let on = round_paceful now n (suc i) one.3 one.2 y (omega (arith, le)) after visit.1 one.7 in
      (subst (Each (λ (m : VisitRecord). m.late ≡ false)) (sym one.4) (visit.0, on.0), on.1))
      round
    where
      over : (p i : ℕ) → p ≡ i → suc i ≤ p → ⊥
      over p i e low = omega (arith, e, low)

  start_paceful : (begins : ℕ) → IsNextTime g air (replay_at_start g rows) begins → IsPaceful g level air rows inside.offset begins (replay_at_start g rows)
  start_paceful begins least = record {
    onward = start_near g level rows inside.offset inside.offsets inside.wired (levels_grow g level inside.levels) inside.fit (λ i. reading_at air i begins)
        (λ i lt d candidate. no_later g air begins (replay_at_start g rows) least i lt refl d candidate);
    in_time = λ l link at. nothing_in_time g air link;
  }

  -- after a quiet round all that is on its way arrives at the next true time or later, and in time
  raise_paceful : (now next : ℕ) (y : ReplayState) → IsPaceful g level air rows inside.offset now y → now ≤ next → ((i : ℕ) → i < length g.platforms → IsSettled g air now y i) → IsNextTime g air y next → IsPaceful g level air rows inside.offset next y
  raise_paceful now next y h le calm least = record {
    onward = raise_near g level rows inside.offset inside.offsets inside.wired (levels_grow g level inside.levels) inside.fit (λ i. reading_at air i now) (λ i. reading_at air i next) (without_arrivals y) h.onward
        (λ i lt. omega (arith, le)) free all_sent (no_later g air next y least) way;
    in_time = h.in_time;
  }
    where
      free : (i : ℕ) → i < length g.platforms → (u : Unit) → (y.at i).busy u ≡ None
      free i lt u = ⊎_elim
          (λ (done : IsFinished g i (y.at i)). ((on_time_history g level i rows inside.wired (levels_grow g level inside.levels) inside.fit (y.did i) (y.at i) (h.onward.legal i lt)).keeps.is_shut done.closed).busy u)
          (λ (rests : IsCalm g air now i (y.at i) y.airways). rests.free u)
          (calm i lt)

      all_sent : (i : ℕ) → i < length g.platforms → (l : ℕ) → (y.at i).outbox l ≡ []
      all_sent i lt l = ⊎_elim
          (λ (done : IsFinished g i (y.at i)). done.all_went l)
          (λ (rests : IsCalm g air now i (y.at i) y.airways). rests.sent_all l)
          (calm i lt)

      way : (l : ℕ) (link : Link) (t : Tag) (v : ℤ) → slice_get g.links l ≡ Some link → IsIn (Event t v) ((without_arrivals y).on_way l) → reading_at air (platform_of g link.to) next ≤ t.time + link_bound g link
      way l link t v at mem =
          let (m, there, is) = carried_by (y.airways l).on_way t v mem in
          let before : next ≤ m.arrives = least.1 m.arrives (inr (l, slice_get_within g.links l link at, m, there, refl)) in
          let due : m.arrives ≤ lag_of air (platform_of g link.to) + (t.time + link_bound g link) = (h.in_time l link at).arrives m t v there is in
          sums next m.arrives (lag_of air (platform_of g link.to)) (t.time + link_bound g link) before due
        where
          sums : (a b c d : ℕ) → a ≤ b → b ≤ c + d → a - c ≤ d
          sums a b c d p q = omega (arith, p, q)

  rounds_paceful : (rounds : List (List VisitRecord)) (now end : ℕ) (x y : ReplayState) → IsSound g level rows 0 x → IsPaceful g level air rows inside.offset now x → ReplayRounds g level air now x rounds end y → IsPaceful g level air rows inside.offset end y
  rounds_paceful [] now end x y sound h (e, same) = subst (λ t. IsPaceful g level air rows inside.offset t y) (sym e) (subst (IsPaceful g level air rows inside.offset now) (sym same) h)
  rounds_paceful (ms ∷ rounds) now end x y sound h (next, mid, round, fine, going, follows, rest) =
      let on : IsPaceful g level air rows inside.offset now mid = (round_paceful now (length g.platforms) 0 x ms mid (omega arith) sound h round).1 in
      let still : IsSound g level rows 0 mid = round_fine g level rows air inside.wired inside.levels inside.fit now (length g.platforms) 0 x ms mid sound round fine in
      let risen : IsPaceful g level air rows inside.offset next mid =
      ⊎_elim
      (λ (quiet : IsQuiet x ms mid × IsNextTime g air mid next).
      raise_paceful now next mid on (rises g level rows air inside.wired inside.levels inside.fit now next x ms mid sound round fine follows)
      (settled g level rows air inside.wired inside.levels inside.fit now x ms mid round fine quiet.0) quiet.1)
      (λ (same : (IsQuiet x ms mid → ⊥) × (next ≡ now)). subst (λ t. IsPaceful g level air rows inside.offset t mid) (sym same.1) on)
      follows in
      rounds_paceful rounds next end mid y still risen rest

  pub run_paceful : (rounds : List (List VisitRecord)) (now : ℕ) (y : ReplayState) → IsReplay g level air rows rounds now y → IsPaceful g level air rows inside.offset now y
  run_paceful rounds now y run = rounds_paceful rounds run.begins now (replay_at_start g rows) y (sound_at_start g level rows) (start_paceful run.begins run.begins_at) run.goes
