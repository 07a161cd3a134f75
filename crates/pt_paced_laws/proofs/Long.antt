-- A run stops for too many claims exactly where the meaning has that many unit firings on a platform.
use Rattle.std.proofs.Common.{◌≡◌, ℕ, zero, suc, ◌+◌, ◌<◌, ◌≤◌, ◌==◌, ◌≢◌, Bool, true, false, if◌then◌else◌, List, [], ◌∷◌, ◌++◌, Option, ℤ, length, arith, refl, sym, ap, subst, ◌∙◌, ⊎_elim, eqb-true, length-append}
use Rattle.std.proofs.lemmas.Bool.{cases_lt, false≢true}
use Rattle.std.proofs.lemmas.Grind.{flat_map-append}
use Rattle.pt_tags.specs.declared.tag.Tag.{Tag}
use Rattle.pt_types.specs.declared.graph.Graph.{Graph}
use Rattle.pt_types.specs.declared.graph.Unit.{Unit}
use Rattle.pt_types.specs.declared.rows.Row.{Row}
use Rattle.pt_semantics.specs.Lists.{Each}
use Rattle.pt_types.specs.Lookups.{platform_of, kind_of}
use Rattle.pt_semantics.specs.Units.{groups}
use Rattle.pt_semantics.specs.Ranks.{AreLevels, AreRanks}
use Rattle.pt_semantics.specs.Offsets.{HasOffset, IsFeasible}
use Rattle.pt_semantics.specs.Wired.{IsWired}
use Rattle.pt_semantics.specs.Rows.{FitRows}
use Rattle.pt_semantics.specs.Meaning.{ActorFiring, IsMeaning}
use Rattle.pt_semantics.specs.Behaviours.{Firings}
use Rattle.pt_semantics.specs.Parts.{parts}
use Rattle.pt_semantics.specs.Platform.{State, opened}
use Rattle.pt_semantics.specs.Safe.{IsSafe, NothingSafe}
use Rattle.pt_semantics.specs.Closing.{CanClose, shut, unsent}
use Rattle.pt_semantics.specs.Turn.{Turn}
use Rattle.pt_semantics.specs.History.{claims_of}
use Rattle.pt_semantics.specs.Linked.{IsFinished, all_claims}
use Rattle.pt_semantics.specs.Counts.{actor_firings, unit_firings}
use Rattle.pt_semantics.specs.Visits.{RunState, VisitRecord, AreFinished}
use Rattle.pt_paced_laws.specs.PacedTheorems.{LongExactly}
use Rattle.pt_semantics.proofs.Longest.{levels_grow}
use Rattle.pt_semantics.proofs.Lookups.{none_some}
use Rattle.pt_semantics.proofs.Claiming.{event_found}
use Rattle.pt_laws.specs.NearClocks.{AreNear}
use Rattle.pt_laws.proofs.NearClocks.{one_is_near}
use Rattle.pt_laws.proofs.Onward.{AdvanceRound, Advances, Onward, OnwardNear, advance_onward, cases_same, round_advances, round_onward}
use Rattle.pt_paced_laws.proofs.Few.{claims_few}
use Rattle.pt_paced_laws.proofs.PacedRuns.{run_onward}
use Rattle.pt_paced_laws.proofs.Prefix.{prefixes}
use Rattle.pt_laws.proofs.Sums.{sum_same}
use Rattle.pt_laws.proofs.Counting.{Counted, counted, count_le, count_lt}
use Rattle.pt_paced_laws.proofs.Ahead.{has_more}

module _ (g : Graph) (level rank : ℕ → ℕ) (rows : ℕ → List Row) (offset : Unit → Option ℤ) (wired : IsWired g) (are : AreLevels g level) (ranks : AreRanks g rank) (fits : FitRows g rows) (feasible : IsFeasible g) (has : (u : Unit) → HasOffset g u (offset u)) (xs : List ActorFiring) (meaning : IsMeaning g rank rows xs) (c : ℕ → ℕ) (near : AreNear g c) where
  -- what is claimed is a front of the meaning
  claims_le : (y : RunState) → OnwardNear g level rows offset c y → (u : Unit) → length (all_claims g y.did u) ≤ length (parts g xs u)
  claims_le y h u =
      let front = (prefixes g level rows offset wired are fits feasible has c near y h rank xs ranks meaning u).0 in
      subst (λ n. length (all_claims g y.did u) ≤ n) (sym (ap length front.1 ∙ length-append (all_claims g y.did u) front.0)) (omega arith)

  here : (y : RunState) → OnwardNear g level rows offset c y → (i : ℕ) → i < length g.platforms → Counted g i (y.at i) (claims_of g (y.did i))
  here y h i lt = counted g level i rows (y.did i) (y.at i) wired (levels_grow g level are) fits (h.legal i lt)

  -- the claims of a platform are those of its units
  pub claims_are : (y : RunState) → OnwardNear g level rows offset c y → (i : ℕ) → i < length g.platforms → unit_firings g i (all_claims g y.did) ≡ (y.at i).claims
  claims_are y h i lt = sum_same _ _ (length g.actors) (λ a l. by_home a (platform_of g a == i) refl) ∙ (here y h i lt).count
    where
      by_home : (a : ℕ) (b : Bool) → (platform_of g a == i) ≡ b → (if platform_of g a == i then actor_firings g (all_claims g y.did) a else 0) ≡ (if platform_of g a == i then actor_firings g (claims_of g (y.did i)) a else 0)
      by_home a true e = ap (λ n. if platform_of g a == i then n else 0) (sum_same _ _ (groups (kind_of g a)) (λ k l. ap (λ j. length (claims_of g (y.did j) (record { actor = a; group = k }))) (eqb-true (platform_of g a) i e)))
      by_home a false e = subst (λ z. (if z then actor_firings g (all_claims g y.did) a else 0) ≡ (if z then actor_firings g (claims_of g (y.did i)) a else 0)) (sym e) refl

  -- a turn adds to the claims
  grow : (x y : RunState) (m : VisitRecord) → Advances g level (c m.platform) x m y → (u : Unit) → length (all_claims g x.did u) ≤ length (all_claims g y.did u)
  grow x y m k u =
      ⊎_elim
      (λ (same : platform_of g u.actor ≡ m.platform).
      subst (λ j. length (claims_of g (x.did j) u) ≤ length (claims_of g (y.did j) u)) (sym same)
      (subst (λ z. length (claims_of g (x.did m.platform) u) ≤ length (claims_of g z u)) (sym k.joins) (more (x.did m.platform))))
      (λ (other : platform_of g u.actor ≢ m.platform).
      subst (λ z. length (claims_of g (x.did (platform_of g u.actor)) u) ≤ length (claims_of g z u)) (sym (k.others (platform_of g u.actor) other).1) (omega arith))
      (cases_same (platform_of g u.actor) m.platform)
    where
      more : (turns : List Turn) → length (claims_of g turns u) ≤ length (claims_of g (turns ++ m.turn ∷ []) u)
      more turns = subst (λ n. length (claims_of g turns u) ≤ n) (sym (ap length (flat_map-append _ turns (m.turn ∷ [])) ∙ length-append (claims_of g turns u) _)) (omega arith)

  -- where a platform has a fault
  pub long_of : (x y : RunState) (m : VisitRecord) → m.platform < length g.platforms → OnwardNear g level rows offset c x → Advances g level (c m.platform) x m y → m.fault ≡ true → g.claims < unit_firings g m.platform (parts g xs)
  long_of x y m lt h k fault =
      ⊎_elim
      (λ (late : m.late ≡ true). absurd (false≢true (sym on.0 ∙ late)))
      (λ (full : (g.claims ≤ (x.at m.platform).claims) × (NothingSafe g k.is.ready.waits k.is.ready.busy (c m.platform) → ⊥)).
      ⊎_elim
      (λ (many : g.claims < unit_firings g m.platform (parts g xs)). many)
      (λ (few : unit_firings g m.platform (parts g xs) ≤ g.claims). absurd (full.1 (λ u t safe. too_few full.0 few u t safe)))
      (cases_lt g.claims (unit_firings g m.platform (parts g xs))))
      (k.faults.1 fault)
    where
      on : (m.late ≡ false) × OnwardNear g level rows offset c y
      on = advance_onward g level rows offset has wired feasible c near x y m lt h k

      new_is : (u : Unit) (t : Tag) → IsSafe g k.is.ready.waits k.is.ready.busy (c m.platform) u t → y.at m.platform ≡ unsent k.is.ready k.is.sends.0
      new_is u t safe =
          let at = event_found g k.is.ready.waits u t safe.event in
          k.is.sends.1 ∙ ap (λ z. unsent z k.is.sends.0)
          (⊎_elim
          (λ (shuts : CanClose g m.platform k.is.ready m.turn.last × (m.late ≡ false) × (k.is.done ≡ shut g m.platform k.is.ready)). absurd (none_some at.value (sym (shuts.0.nothing_waits u.actor at.port t) ∙ at.waits_there)))
          (λ (stays : (CanClose g m.platform k.is.ready m.turn.last → m.late ≡ true) × (k.is.done ≡ k.is.ready)). stays.1)
          k.is.closes)

      too_few : g.claims ≤ (x.at m.platform).claims → unit_firings g m.platform (parts g xs) ≤ g.claims → (u : Unit) (t : Tag) → IsSafe g k.is.ready.waits k.is.ready.busy (c m.platform) u t → ⊥
      too_few many few u t safe =
          let safe_y : IsSafe g (y.at m.platform).waits (y.at m.platform).busy (c m.platform) u t = subst (λ (z : State). IsSafe g z.waits z.busy (c m.platform) u t) (sym (new_is u t safe)) safe in
          let at = event_found g (y.at m.platform).waits u t safe_y.event in
          let those = here y on.1 m.platform lt in
          let home : platform_of g u.actor ≡ m.platform = (those.home.waits u.actor at.port t at.value at.waits_there).0 in
          let inside = those.inside u.actor at.port t at.value at.waits_there in
          let safe_home : IsSafe g (y.at (platform_of g u.actor)).waits (y.at (platform_of g u.actor)).busy (c (platform_of g u.actor)) u t = subst (λ j. IsSafe g (y.at j).waits (y.at j).busy (c j) u t) (sym home) safe_y in
          let less : length (all_claims g y.did u) < length (parts g xs u) = has_more g level rows offset wired are fits feasible has c near y on.1 u t safe_home rank xs ranks meaning in
          let over : unit_firings g (platform_of g u.actor) (all_claims g y.did) < unit_firings g (platform_of g u.actor) (parts g xs) = count_lt g (all_claims g y.did) (parts g xs) u (claims_le y on.1) inside.actor (subst (λ (v : Unit). v.group < groups (kind_of g u.actor)) at.unit inside.group) less in
          let over2 : unit_firings g m.platform (all_claims g y.did) < unit_firings g m.platform (parts g xs) = subst (λ j. unit_firings g j (all_claims g y.did) < unit_firings g j (parts g xs)) home over in
          let grew : unit_firings g m.platform (all_claims g x.did) ≤ unit_firings g m.platform (all_claims g y.did) = count_le g m.platform (all_claims g x.did) (all_claims g y.did) (grow x y m k) in
          let before : unit_firings g m.platform (all_claims g x.did) ≡ (x.at m.platform).claims = claims_are x h m.platform lt in
          sums (unit_firings g m.platform (all_claims g x.did)) (unit_firings g m.platform (all_claims g y.did)) (unit_firings g m.platform (parts g xs)) (x.at m.platform).claims many before grew over2 few
        where
          sums : (a b p n : ℕ) → g.claims ≤ n → a ≡ n → a ≤ b → b < p → p ≤ g.claims → ⊥
          sums a b p n h1 h2 h3 h4 h5 = omega (arith, h1, h2, h3, h4, h5)

  pub long_in_round : (n i : ℕ) (x y : RunState) (ms : List VisitRecord) → n + i ≤ length g.platforms → OnwardNear g level rows offset c x → AdvanceRound g level c n i x ms y → Each (λ (m : VisitRecord). m.fault ≡ true → g.claims < unit_firings g m.platform (parts g xs)) ms
  long_in_round zero i x y ms le h (none, same) = subst (Each (λ (m : VisitRecord). m.fault ≡ true → g.claims < unit_firings g m.platform (parts g xs))) (sym none) tt
  long_in_round (suc n) i x y ms le h round =
      ⊎_elim
      (λ (skip : IsFinished g i (x.at i) × AdvanceRound g level c n (suc i) x ms y). long_in_round n (suc i) x y ms (omega (arith, le)) h skip.1)
      (λ (one : (IsFinished g i (x.at i) → ⊥) × (m : VisitRecord) × (rest : List VisitRecord) × (mid : RunState) × (ms ≡ m ∷ rest) × (m.platform ≡ i) × Advances g level (c m.platform) x m mid × AdvanceRound g level c n (suc i) mid rest y).
      let lt : one.1.platform < length g.platforms = subst (λ j. j < length g.platforms) (sym one.5) (omega (arith, le)) in
      subst (Each (λ (m : VisitRecord). m.fault ≡ true → g.claims < unit_firings g m.platform (parts g xs))) (sym one.4) (
        long_of x one.3 one.1 lt h one.6,
        long_in_round n (suc i) one.3 y one.2 (omega (arith, le)) (advance_onward g level rows offset has wired feasible c near x one.3 one.1 lt h one.6).1 one.7,
      ))
      round

  -- where all platforms are finished, no platform has too many
  pub none_long : (y : RunState) → OnwardNear g level rows offset c y → AreFinished g y → (i : ℕ) → i < length g.platforms → unit_firings g i (parts g xs) ≤ g.claims
  none_long y h done i lt =
      let all = λ (u : Unit). (prefixes g level rows offset wired are fits feasible has c near y h rank xs ranks meaning u).1 done in
      let same : ◌≡◌ {A = Firings} (all_claims g y.did) (parts g xs) = λ k u. all u k in
      subst (λ f. unit_firings g i f ≤ g.claims) same
      (subst (λ n. n ≤ g.claims) (sym (claims_are y h i lt)) (claims_few g level i (y.did i) (opened g i rows) (y.at i) (omega arith) (h.legal i lt)))

pub long_exactly : LongExactly
long_exactly g level rank rows offset rounds c n ms y xs wired are ranks fits feasible has r meaning =
    let some : n ≤ length g.platforms = r.some in
    let begin : Onward g level rows offset c r.before = run_onward g level rows offset wired are fits feasible has rounds c r.before r.run in
    let on = round_onward g level rows offset has wired feasible c n 0 r.before y ms (omega (arith, some)) begin r.round in (
      long_in_round g level rank rows offset wired are ranks fits feasible has xs meaning (λ i. c) (one_is_near g c) n 0 r.before y ms (omega (arith, some)) begin (round_advances g level c n 0 r.before ms y r.round),
      none_long g level rank rows offset wired are ranks fits feasible has xs meaning (λ i. c) (one_is_near g c) y on.1,
    )
