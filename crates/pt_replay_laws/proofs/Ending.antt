-- Every replay ends.
use Rattle.std.proofs.Common.{◌≡◌, ℕ, List, [], ◌∷◌, length, arith, ⊎_elim}
use Rattle.pt_types.specs.declared.graph.Graph.{Graph}
use Rattle.pt_types.specs.declared.rows.Row.{Row}
use Rattle.pt_semantics.specs.Ranks.{AreLevels}
use Rattle.pt_semantics.specs.Rows.{FitRows}
use Rattle.pt_semantics.specs.Visits.{VisitRecord}
use Rattle.pt_semantics.specs.Wired.{IsWired}
use Rattle.pt_paced_laws.proofs.Ending.{AreShort, one_more_round, start_to_do}
use Rattle.pt_paced_laws.proofs.Moves.{IsFree, IsStillRound, all_to_do}
use Rattle.pt_types.specs.declared.air.Air.{Air}
use Rattle.pt_replay_laws.specs.Ending.{ReplaysEnd}
use Rattle.pt_replay_laws.specs.ReplayRounds.{ReplayRounds, IsQuiet}
use Rattle.pt_replay_laws.specs.ReplayState.{IsNextTime, ReplayState, replay_at_start}
use Rattle.pt_replay_laws.proofs.Falling.{quiet_still, round_falls, round_frees, round_posts_nothing}
use Rattle.pt_replay_laws.proofs.Replays.{round_fine, settled}
use Rattle.pt_replay_laws.proofs.Sound.{IsSound, sound_at_start}
use Rattle.pt_replay_laws.proofs.Twice.{FollowsQuiet, never_twice}

module _ (g : Graph) (level : ℕ → ℕ) (rows : ℕ → List Row) (air : Air) (wired : IsWired g) (are : AreLevels g level) (fits : FitRows g rows) where
  rounds_short : (rounds : List (List VisitRecord)) (now end : ℕ) (x y : ReplayState) → IsSound g level rows 0 x → ReplayRounds g level air now x rounds end y → AreShort (IsFree x.at (length g.platforms) 0) (FollowsQuiet g air now x) (all_to_do g x.at x.did) (length rounds)
  rounds_short [] now end x y h goes = record { any = omega arith; free = λ f. omega arith; quiet = λ f q. omega arith }
  rounds_short (ms ∷ rounds) now end x y h (next, mid, round, fine, on_going, follows, rest) =
      one_more_round _ (IsFree mid.at (length g.platforms) 0) _ (FollowsQuiet g air next mid) (IsStillRound x.at ms mid.at) (all_to_do g x.at x.did) (all_to_do g mid.at mid.did) (length rounds)
      (rounds_short rounds next end mid y (round_fine g level rows air wired are fits now (length g.platforms) 0 x ms mid h round fine) rest)
      (round_falls g level rows air wired are fits now (length g.platforms) 0 x ms mid (omega arith) h round fine)
      (λ still. round_frees g level rows air wired are fits now (length g.platforms) 0 x ms mid h round fine still.turns)
      (λ still f. follows_quiet (quiet_if_free still f))
      (λ still f q. never_twice g level rows air now x ms mid wired are fits h q round fine (quiet_if_free still f))
    where
      quiet_if_free : IsStillRound x.at ms mid.at → IsFree x.at (length g.platforms) 0 → IsQuiet x ms mid
      quiet_if_free still free = quiet_still x ms mid still (round_posts_nothing g level air now (length g.platforms) 0 x ms mid round free)

      follows_quiet : IsQuiet x ms mid → FollowsQuiet g air next mid
      follows_quiet quiet = record {
        before = now;
        settled = settled g level rows air wired are fits now x ms mid round fine quiet;
        next = ⊎_elim
            (λ (q : IsQuiet x ms mid × IsNextTime g air mid next). q.1)
            (λ (other : (IsQuiet x ms mid → ⊥) × (next ≡ now)). absurd (other.0 quiet))
            follows;
      }

pub replays_end : ReplaysEnd
replays_end g level air rows rounds now x wired are fits run =
    let short = (rounds_short g level rows air wired are fits rounds run.begins now (replay_at_start g rows) x (sound_at_start g level rows) run.goes).any in
    let start = start_to_do g rows in
    omega (arith, short, start)
