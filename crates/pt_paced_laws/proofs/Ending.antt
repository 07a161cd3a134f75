-- Every paced run ends.
use Rattle.std.proofs.Common.{◌≡◌, ℕ, zero, suc, ◌+◌, ◌-◌, ◌*◌, ◌<◌, ◌≤◌, ◌==◌, Bool, true, false, if◌then◌else◌, List, [], ◌∷◌, ◌++◌, Option, ℤ, length, arith, refl, subst, ⊎_elim}
use Rattle.pt_types.specs.declared.graph.Graph.{Graph}
use Rattle.pt_types.specs.declared.graph.Unit.{Unit}
use Rattle.pt_types.specs.declared.rows.Row.{Row}
use Rattle.pt_semantics.specs.Linked.{all_sent, all_taken}
use Rattle.pt_semantics.specs.Counts.{sum_below}
use Rattle.pt_types.specs.Lookups.{platform_of}
use Rattle.pt_semantics.specs.Lists.{Each}
use Rattle.pt_semantics.specs.Offsets.{HasOffset, IsFeasible}
use Rattle.pt_semantics.specs.Platform.{opened}
use Rattle.pt_semantics.specs.Ranks.{AreLevels}
use Rattle.pt_semantics.specs.Rows.{FitRows}
use Rattle.pt_semantics.specs.Rounds.{Follows, IsLeastNext, IsPacedRun, IsQuietRound, Round, Rounds}
use Rattle.pt_semantics.specs.Visits.{AreFinished, VisitRecord, RunState, run_at_start}
use Rattle.pt_semantics.specs.Wired.{IsWired}
use Rattle.pt_laws.proofs.Onward.{Onward}
use Rattle.pt_paced_laws.proofs.PacedRuns.{run_onward}
use Rattle.pt_paced_laws.proofs.Quiet.{no_two_quiet}
use Rattle.pt_laws.proofs.Sums.{sum_le}
use Rattle.pt_paced_laws.specs.Ending.{RoundsEnd, most_moves}
use Rattle.pt_paced_laws.proofs.Moves.{Falls, IsFree, IsStillRound, all_to_do, to_do}
use Rattle.pt_paced_laws.proofs.Rounds.{quiet_still, round_falls, round_frees, round_posts_nothing}

-- rounds with one more at their end
rounds_push : (g : Graph) (level : ℕ → ℕ) (rounds : List (List VisitRecord)) (c d b : ℕ) (x y z : RunState) (ms : List VisitRecord) → Rounds g level c x rounds d y → Round g level d (length g.platforms) 0 y ms z → Each (λ (m : VisitRecord). m.fault ≡ false) ms → (AreFinished g z → ⊥) → Follows g d y ms z b → Rounds g level c x (rounds ++ ms ∷ []) b z
rounds_push g level [] c d b x y z ms (e, same) round fine on follows =
    subst (λ n. Rounds g level n x (ms ∷ []) b z) e
    (subst (λ w. Rounds g level d w (ms ∷ []) b z) same
    (b, z, round, fine, on, follows, (refl, refl)))
rounds_push g level (ns ∷ rounds) c d b x y z ms (a, mid, round1, fine1, on1, follows1, rest) round fine on follows =
    (a, mid, round1, fine1, on1, follows1, rounds_push g level rounds a d b mid y z ms rest round fine on follows)

-- a paced run with one round more
pub run_push : (g : Graph) (level : ℕ → ℕ) (rows : ℕ → List Row) (rounds : List (List VisitRecord)) (c b : ℕ) (x y : RunState) (ms : List VisitRecord) → IsPacedRun g level rows rounds c x → Round g level c (length g.platforms) 0 x ms y → Each (λ (m : VisitRecord). m.fault ≡ false) ms → (AreFinished g y → ⊥) → Follows g c x ms y b → IsPacedRun g level rows (rounds ++ ms ∷ []) b y
run_push g level rows rounds c b x y ms run round fine on follows =
    record { begins = run.begins; begins_at = run.begins_at; goes = rounds_push g level rounds run.begins c b (run_at_start g rows) x y ms run.goes round fine on follows }

-- how many rounds can follow if so much is left to do: three for each move left, and two; one fewer if nothing is open, since a
-- round without a move is quiet then; and two fewer if the last round was quiet besides, since no two quiet ones follow one another
pub record AreShort (Free AfterQuiet : Type 0) (left n : ℕ) : Type 0 where
  pub any : n ≤ 3 * left + 2
  pub free : Free → n ≤ 3 * left + 1
  pub quiet : Free → AfterQuiet → n ≤ 3 * left

-- so it is with one round more before the others
pub one_more_round : (Free FreeThen AfterQuiet AfterQuietThen Still : Type 0) (left less n : ℕ) → AreShort FreeThen AfterQuietThen less n → Falls Still left less → (Still → FreeThen) → (Still → Free → AfterQuietThen) → (Still → Free → AfterQuiet → ⊥) → AreShort Free AfterQuiet left (suc n)
one_more_round Free FreeThen AfterQuiet AfterQuietThen Still left less n later (le, one) frees quiet never = ⊎_elim
    (λ (still : Still).
    let short = later.free (frees still) in
    record {
      any = omega (arith, short, le);
      free = λ f. let shorter = later.quiet (frees still) (quiet still f) in omega (arith, shorter, le);
      quiet = λ f q. absurd (never still f q);
    })
    (λ (fewer : less < left).
    let short = later.any in
    record { any = omega (arith, short, fewer); free = λ f. omega (arith, short, fewer); quiet = λ f q. omega (arith, short, fewer) })
    one

module _ (g : Graph) (level : ℕ → ℕ) (rows : ℕ → List Row) (offset : Unit → Option ℤ) (wired : IsWired g) (are : AreLevels g level) (fits : FitRows g rows) (feasible : IsFeasible g) (has : (u : Unit) → HasOffset g u (offset u)) where
  -- a paced run whose last round was quiet
  record EndsQuiet (c : ℕ) (x : RunState) : Type 0 where
    rounds : List (List VisitRecord)
    reading : ℕ
    before : RunState
    run : IsPacedRun g level rows rounds reading before
    made : List VisitRecord
    round : Round g level reading (length g.platforms) 0 before made x
    fine : Each (λ (m : VisitRecord). m.fault ≡ false) made
    quiet : IsQuietRound before made x
    next : IsLeastNext g x c

  rounds_short : (before rounds : List (List VisitRecord)) (c d : ℕ) (x y : RunState) → IsPacedRun g level rows before c x → Rounds g level c x rounds d y → AreShort (IsFree x.at (length g.platforms) 0) (EndsQuiet c x) (all_to_do g x.at x.did) (length rounds)
  rounds_short before [] c d x y run goes = record { any = omega arith; free = λ f. omega arith; quiet = λ f q. omega arith }
  rounds_short before (ms ∷ rounds) c d x y run (b, mid, round, fine, on_going, follows, rest) =
      one_more_round _ (IsFree mid.at (length g.platforms) 0) _ (EndsQuiet b mid) (IsStillRound x.at ms mid.at) (all_to_do g x.at x.did) (all_to_do g mid.at mid.did) (length rounds)
      (rounds_short (before ++ ms ∷ []) rounds b d mid y (run_push g level rows before c b x mid ms run round fine on_going follows) rest)
      (round_falls g level rows offset wired are fits feasible has c (length g.platforms) 0 x mid ms (omega arith) at_x round)
      (λ still. round_frees g level rows offset wired are fits feasible has c (length g.platforms) 0 x mid ms (omega arith) at_x round still.turns)
      (λ still f. ends_quiet (quiet_if_free still f))
      (λ still f q. never_two (quiet_if_free still f) q)
    where
      at_x : Onward g level rows offset c x
      at_x = run_onward g level rows offset wired are fits feasible has before c x run

      quiet_if_free : IsStillRound x.at ms mid.at → IsFree x.at (length g.platforms) 0 → IsQuietRound x ms mid
      quiet_if_free still free = quiet_still x mid ms still (round_posts_nothing g level c (length g.platforms) 0 x mid ms round free)

      next_if_quiet : IsQuietRound x ms mid → IsLeastNext g mid b
      next_if_quiet quiet =
          ⊎_elim
          (λ (q : IsQuietRound x ms mid × IsLeastNext g mid b). q.1)
          (λ (other : (IsQuietRound x ms mid → ⊥) × (b ≡ c)). absurd (other.0 quiet))
          follows

      ends_quiet : IsQuietRound x ms mid → EndsQuiet b mid
      ends_quiet quiet = record { rounds = before; reading = c; before = x; run = run; made = ms; round = round; fine = fine; quiet = quiet; next = next_if_quiet quiet }

      never_two : IsQuietRound x ms mid → EndsQuiet c x → ⊥
      never_two quiet e = no_two_quiet g level rows offset e.rounds e.reading c e.made ms e.before x mid wired are fits feasible has e.run e.round e.fine e.quiet e.next round fine quiet

-- a sum of numbers that are no more than k
pub sum_at_most : (f : ℕ → ℕ) (n k : ℕ) → ((j : ℕ) → f j ≤ k) → sum_below f n ≤ n * k
sum_at_most f zero k le = omega arith
sum_at_most f (suc n) k le =
    let here = le n in
    let rest = sum_at_most f n k le in
    omega (arith, here, rest)

-- what is left to do at the start
pub start_to_do : (g : Graph) (rows : ℕ → List Row) → all_to_do g (λ i. opened g i rows) (λ i. []) ≤ length g.platforms * most_moves g rows
start_to_do g rows = sum_at_most (λ i. to_do g (opened g i rows) []) (length g.platforms) (most_moves g rows) one
  where
    no_more : (b : Bool) (a : ℕ) → length (if b then rows a else []) ≤ length (rows a)
    no_more true a = omega arith
    no_more false a = omega arith

    one : (i : ℕ) → to_do g (opened g i rows) [] ≤ most_moves g rows
    one i =
        let left = sum_le (λ a. length (if platform_of g a == i then rows a else [])) (λ a. length (rows a)) (length g.actors) (λ a. no_more (platform_of g a == i) a) in
        let sends = sum_at_most (λ l. (g.claims + 1) - length (all_sent l [])) (length g.links) (g.claims + 1) (λ l. omega arith) in
        let takes = sum_at_most (λ l. (g.claims + 1) - length (all_taken l [])) (length g.links) (g.claims + 1) (λ l. omega arith) in
        omega (arith, left, sends, takes)

pub rounds_end : RoundsEnd
rounds_end g level rows offset rounds c x wired are fits feasible has run =
    let short = (rounds_short g level rows offset wired are fits feasible has [] rounds run.begins c (run_at_start g rows) x (record { begins = run.begins; begins_at = run.begins_at; goes = (refl, refl) }) run.goes).any in
    let start = start_to_do g rows in
    omega (arith, short, start)
