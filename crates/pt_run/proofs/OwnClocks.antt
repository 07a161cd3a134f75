-- Platforms after a run by clocks of their own.
use Rattle.std.proofs.Common.{◌≡◌, ℕ, zero, suc, ◌+◌, ◌<◌, ◌≤◌, ◌^◌, List, [], ◌∷◌, ◌++◌, Option, None, Some, Result, Ok, Err, IfOk, length, replicate, take, drop, slice_get, refl, sym, ap, ap₂, subst, ◌∙◌, arith}
use Rattle.std.proofs.lemmas.List.{length-append, length-map, length-replicate, length-take-le, map-append, take-append-drop}
use Rattle.pt_io.specs.Clocks.{AreAsAhead, ClockView, HandedOut, first_readings, step_reading, viewed}
use Rattle.pt_types.specs.declared.rows.Row.{Row}
use Rattle.pt_offsets.specs.Plans.{Parts}
use Rattle.pt_turn.specs.declared.fault.TurnFault.{TurnFault}
use Rattle.pt_turn.specs.All.{AreReady, IsReady}
use Rattle.pt_turn.specs.Platforms.{PlatformView}
use Rattle.pt_engine.specs.declared.rounds.ClockedRounds.{ClockedRounds}
use Rattle.pt_engine.specs.Outcome.{IsOutcome as IsOutcomeByClocks}
use Rattle.pt_fixed_order.specs.Outcome.{IsOutcome as IsOutcomeInTurn}
use Rattle.pt_run.specs.Readings.{HandsOut, step_clock}
use Rattle.pt_run.specs.Runs.{IsKept, IsOutcomeBy, clocks_by, steps_by}
use Rattle.pt_run.specs.Workers.{IsOutcomeOfWorkers}

-- places in lists
in_replicate : {X : Type 0} (n : ℕ) (x : X) (i : ℕ) → i < n → slice_get (replicate n x) i ≡ Some x
in_replicate zero x i lt = absurd (omega arith)
in_replicate (suc n) x zero lt = refl
in_replicate (suc n) x (suc i) lt = in_replicate n x i (omega arith)

some_at : {X : Type 0} (xs : List X) (i : ℕ) → i < length xs → (x : X) × (slice_get xs i ≡ Some x)
some_at [] i lt = absurd (omega arith)
some_at (x ∷ xs) zero lt = (x, refl)
some_at (x ∷ xs) (suc i) lt = some_at xs i (omega arith)

within : {X : Type 0} (xs : List X) (i : ℕ) (x : X) → slice_get xs i ≡ Some x → i < length xs
within [] i x e = absurd cc
within (y ∷ xs) zero x e = omega arith
within (y ∷ xs) (suc i) x e = let l = within xs i x e in omega (arith, l)

in_front : {X : Type 0} (xs ys : List X) (i : ℕ) → i < length xs → slice_get (xs ++ ys) i ≡ slice_get xs i
in_front [] ys i lt = absurd (omega arith)
in_front (x ∷ xs) ys zero lt = refl
in_front (x ∷ xs) ys (suc i) lt = in_front xs ys i (omega arith)

past_front : {X : Type 0} (xs ys zs : List X) (i : ℕ) → length xs ≡ length ys → length xs ≤ i → slice_get (xs ++ zs) i ≡ slice_get (ys ++ zs) i
past_front [] [] zs i same le = refl
past_front [] (y ∷ ys) zs i same le = absurd (omega (arith, same))
past_front (x ∷ xs) [] zs i same le = absurd (omega (arith, same))
past_front (x ∷ xs) (y ∷ ys) zs zero same le = absurd (omega (arith, le))
past_front (x ∷ xs) (y ∷ ys) zs (suc i) same le = past_front xs ys zs i (omega (arith, same)) (omega (arith, le))

-- what all clocks share
kept : (plan : Parts) (rows : ℕ → List Row) (began now : List ClockView) (platforms : List PlatformView) (fault : Option (ℕ × TurnFault)) → IsOutcomeByClocks plan rows began now platforms fault → IsKept plan rows platforms fault
kept plan rows began now platforms fault outcome = record { all = outcome.all; legal = outcome.legal; matched = outcome.matched; linked = outcome.linked; ends = outcome.ends }

-- readings of a clock of steps
as_steps : (start step : ℕ) (reported : Option (List ℕ)) (readings : List ℕ) → HandedOut (Some []) reported readings → AreAsAhead (Some (step_reading start step)) (Some []) reported readings → length readings < 2 ^ 64 →
    readings ≡ first_readings (step_reading start step) (length readings)
as_steps start step None readings handed ahead few = absurd (past (length readings) handed few)
  where
    past : (n : ℕ) → 2 ^ 64 ≤ 0 + n → n < 2 ^ 64 → ⊥
    past n le lt = omega arith
as_steps start step (Some all) readings handed ahead few = ahead refl

-- clocks of steps, one for each platform
pub outcome_by_steps : (workers start step : ℕ) (plan : Parts) (rows : ℕ → List Row) (began now : List ClockView) (platforms : List PlatformView) (fault : Option (ℕ × TurnFault)) → began ≡ replicate (length platforms) (step_clock start step) →
    IsOutcomeInTurn plan rows 8 began now platforms fault → IsOutcomeBy (steps_by workers start step) plan rows platforms fault
outcome_by_steps workers start step plan rows began now platforms fault are outcome = record {
  kept = kept plan rows began now platforms fault outcome.by_clocks;
  readings = record {
    readings = outcome.by_clocks.readings;
    steps = λ i v at few.
        let lt : i < length platforms = within platforms i v at in
        let (n, there) = some_at now i (subst (λ k. i < k) (sym outcome.by_clocks.count) lt) in
        let both = outcome.by_clocks.handed i (step_clock start step) n (ap (λ xs. slice_get xs i) are ∙ in_replicate (length platforms) (step_clock start step) i lt) there in
        as_steps start step n.readings (outcome.by_clocks.readings i) both.0 both.1 few;
    read = outcome.by_clocks.read;
    in_turn = record { visits = outcome.in_turn; last = outcome.last };
  };
  paced = λ e. absurd cc;
}

-- the first of the clocks handed in, one for each platform, with others after them
outcome_by_clocks : (workers : ℕ) (plan : Parts) (rows : ℕ → List Row) (own read others before after : List ClockView) (platforms : List PlatformView) (fault : Option (ℕ × TurnFault)) → length own ≡ length platforms → before ≡ own ++ others → after ≡ read ++ others →
    IsOutcomeOfWorkers workers plan rows own read platforms fault → IsOutcomeBy (clocks_by workers before after) plan rows platforms fault
outcome_by_clocks workers plan rows own read others before after platforms fault own_count before_is after_is h = record {
  kept = kept plan rows own read platforms fault h.by_clocks;
  readings = record {
    readings = h.by_clocks.readings;
    handed = λ i v at.
        let lt : i < length platforms = within platforms i v at in
        let lt_own : i < length own = subst (λ k. i < k) (sym own_count) lt in
        let lt_read : i < length read = subst (λ k. i < k) (sym h.by_clocks.count) lt in
        let (b, first) = some_at own i lt_own in
        let (n, last) = some_at read i lt_read in
        let began : slice_get before i ≡ Some b = ap (λ xs. slice_get xs i) before_is ∙ in_front own others i lt_own ∙ first in
        let ended : slice_get after i ≡ Some n = ap (λ xs. slice_get xs i) after_is ∙ in_front read others i lt_read ∙ last in
        subst (λ o. HandsOut o (slice_get after i) (h.by_clocks.readings i)) (sym began) (subst (λ o. HandsOut (Some b) o (h.by_clocks.readings i)) (sym ended) (h.by_clocks.handed i b n first last));
    read = h.by_clocks.read;
    in_turn = h.in_turn;
    others = λ i le.
        ap (λ xs. slice_get xs i) after_is ∙ past_front read own others i (h.by_clocks.count ∙ sym own_count) (subst (λ k. k ≤ i) (sym h.by_clocks.count) le) ∙ ap (λ xs. slice_get xs i) (sym before_is);
  };
  paced = λ e. absurd cc;
}

-- one worker visits the platforms in turn
pub one_worker : {C F : Type 0} (reported : C → Option (List ℕ)) (ahead : C → Option (ℕ → ℕ)) (workers : ℕ) (result : Result (ClockedRounds C) F) (opened : List PlatformView) (clocks : List C) →
    IfOk result (λ e. (plan : Parts) (rows : ℕ → List Row) → AreReady plan rows opened → IsOutcomeInTurn plan rows 8 (viewed reported ahead clocks) (viewed reported ahead e.clocks.items) e.rounds.platforms.items e.rounds.fault) →
    IfOk result (λ e. (plan : Parts) (rows : ℕ → List Row) → AreReady plan rows opened → IsOutcomeOfWorkers workers plan rows (viewed reported ahead clocks) (viewed reported ahead e.clocks.items) e.rounds.platforms.items e.rounds.fault)
one_worker reported ahead workers (Ok e) opened clocks h = λ plan rows ready. record { by_clocks = (h plan rows ready).by_clocks; in_turn = λ one. record { visits = (h plan rows ready).in_turn; last = (h plan rows ready).last } }
one_worker reported ahead workers (Err f) opened clocks h = tt

-- as many clocks as views
pub count_of : {C : Type 0} (reported : C → Option (List ℕ)) (ahead : C → Option (ℕ → ℕ)) (clocks : List C) (n : ℕ) (v : ClockView) → viewed reported ahead clocks ≡ replicate n v → length clocks ≡ n
count_of reported ahead clocks n v are = sym (length-map clocks (λ c. record { readings = reported c; ahead = ahead c })) ∙ ap length are ∙ length-replicate n v

-- as many platforms as were opened
pub as_many : (plan : Parts) (rows : ℕ → List Row) (began now : List ClockView) (opened platforms : List PlatformView) (fault : Option (ℕ × TurnFault)) → AreReady plan rows opened → IsOutcomeByClocks plan rows began now platforms fault → length opened ≡ length platforms
as_many plan rows began now opened platforms fault ready outcome = ready.all.count ∙ sym outcome.all.count

-- `before` are the clocks handed in, and the first of them go with the platforms
module _ {C : Type 0} (reported : C → Option (List ℕ)) (ahead : C → Option (ℕ → ℕ)) (n : ℕ) (before handed own others : List C) (opened : List PlatformView) (same : handed ≡ before) (count : n ≡ length opened) (fits : length opened ≤ length before)
    (parts : (own ≡ take n handed) × (others ≡ drop n handed)) where
  seen : (first rest : List C) → viewed reported ahead (first ++ rest) ≡ viewed reported ahead first ++ viewed reported ahead rest
  seen first rest = map-append (λ (c : C). record { readings = reported c; ahead = ahead c }) first rest

  many : (xs : List C) → length (viewed reported ahead xs) ≡ length xs
  many xs = length-map xs (λ (c : C). record { readings = reported c; ahead = ahead c })

  pub one_each : length own ≡ length opened
  one_each = ap length parts.0 ∙ length-take-le n handed (subst (λ k. k ≤ length handed) (sym count) (subst (λ xs. length opened ≤ length xs) (sym same) fits)) ∙ count

  are_before : before ≡ own ++ others
  are_before = sym same ∙ sym (take-append-drop n handed) ∙ ap₂ (λ xs ys. xs ++ ys) (sym parts.0) (sym parts.1)

  module _ (workers : ℕ) (read now : List C) (platforms : List PlatformView) (fault : Option (ℕ × TurnFault)) (joined : now ≡ read ++ others)
      (ran : (plan : Parts) (rows : ℕ → List Row) → AreReady plan rows opened → IsOutcomeOfWorkers workers plan rows (viewed reported ahead own) (viewed reported ahead read) platforms fault) where
    -- the platforms after the run, and as many clocks
    pub outcome_by_first : (plan : Parts) (rows : ℕ → List Row) → AreReady plan rows opened → IsOutcomeBy (clocks_by workers (viewed reported ahead before) (viewed reported ahead now)) plan rows platforms fault
    outcome_by_first plan rows ready =
        let h = ran plan rows ready in
        outcome_by_clocks workers plan rows (viewed reported ahead own) (viewed reported ahead read) (viewed reported ahead others) (viewed reported ahead before) (viewed reported ahead now) platforms fault
        (many own ∙ one_each ∙ as_many plan rows (viewed reported ahead own) (viewed reported ahead read) opened platforms fault ready h.by_clocks)
        (ap (viewed reported ahead) are_before ∙ seen own others) (ap (viewed reported ahead) joined ∙ seen read others) h

    pub all_back : IsReady opened → length now ≡ length before
    all_back (plan, rows, ready) =
        let h = ran plan rows ready in
        let counted : length read ≡ length own = sym (many read) ∙ h.by_clocks.count ∙ sym (as_many plan rows (viewed reported ahead own) (viewed reported ahead read) opened platforms fault ready h.by_clocks) ∙ sym one_each in
        ap length joined ∙ length-append read others ∙ ap (λ k. k + length others) counted ∙ sym (length-append own others) ∙ ap length (sym are_before)
