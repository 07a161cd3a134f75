-- Replayed runs within their bounds, up to a point within a round and at their end.
use Rattle.std.proofs.Common.{ℕ, ◌≤◌, List, length, arith}
use Rattle.pt_types.specs.declared.graph.Graph.{Graph}
use Rattle.pt_types.specs.declared.rows.Row.{Row}
use Rattle.pt_semantics.specs.Visits.{VisitRecord}
use Rattle.pt_paced_laws.proofs.Kept.{keeps_pace}
use Rattle.pt_paced_laws.proofs.Long.{long_in_round}
use Rattle.pt_types.specs.declared.air.Air.{Air}
use Rattle.pt_semantics.specs.TrueTime.{reading_at}
use Rattle.pt_replay_laws.specs.ReplayRounds.{IsReplay}
use Rattle.pt_replay_laws.specs.ReplayState.{ReplayState}
use Rattle.pt_replay_laws.proofs.Replays.{round_sound, run_sound}
use Rattle.pt_replay_laws.proofs.Sound.{IsSound}
use Rattle.pt_replay_laws.specs.InBounds.InBounds.{FaultsInBoundsAreLong, IsInBounds, NoneIsLateInBounds, ReplaysInBoundsKeepPace, without_arrivals}
use Rattle.pt_replay_laws.proofs.InBounds.Rounds.{round_advances, round_paceful, run_paceful}
use Rattle.pt_replay_laws.proofs.InBounds.Ways.{clocks_are_near}

sound_before : (g : Graph) (level : ℕ → ℕ) (air : Air) (rows : ℕ → List Row) (rounds : List (List VisitRecord)) (now : ℕ) (x : ReplayState) → IsInBounds g level air rows → IsReplay g level air rows rounds now x → IsSound g level rows 0 x
sound_before g level air rows rounds now x inside run = run_sound g level rows air inside.wired inside.levels inside.fit rounds now x run

pub none_is_late : NoneIsLateInBounds
none_is_late g level air rows rounds now n ms y inside run =
    let le : n ≤ length g.platforms = run.some in
    let on = round_paceful g level air rows inside now n 0 run.before ms y (omega (arith, le)) (sound_before g level air rows rounds now run.before inside run.run)
    (run_paceful g level air rows inside rounds now run.before run.run) run.round in
    (on.0, on.1.onward.legal)

pub faults_are_long : FaultsInBoundsAreLong
faults_are_long g level air rows rounds now n ms y inside run rank xs ranks meaning =
    let le : n ≤ length g.platforms = run.some in
    long_in_round g level rank rows inside.offset inside.wired inside.levels ranks inside.fit inside.feasible inside.offsets xs meaning (λ i. reading_at air i now) (clocks_are_near g air inside.bounds now) n 0 (without_arrivals run.before) (without_arrivals y) ms (omega (arith, le))
    (run_paceful g level air rows inside rounds now run.before run.run).onward (round_advances g level air now n 0 run.before ms y run.round)

pub replays_keep_pace : ReplaysInBoundsKeepPace
replays_keep_pace g level air rows y inside run = keeps_pace g level rows (without_arrivals y) (record {
  wired = inside.wired;
  levels = inside.levels;
  fit = inside.fit;
  feasible = inside.feasible;
  offset = inside.offset;
  offsets = inside.offsets;
  clock = λ i. reading_at air i run.now;
  near = clocks_are_near g air inside.bounds run.now;
  onward = (round_paceful g level air rows inside run.now (length g.platforms) 0 run.before run.made y (omega arith) before
      (run_paceful g level air rows inside run.rounds run.now run.before run.run) run.round).1.onward;
  single = (round_sound g level rows air inside.wired inside.levels inside.fit run.now (length g.platforms) 0 (length g.platforms) run.before run.made y (omega arith) before run.round).single;
})
  where
    before : IsSound g level rows 0 run.before
    before = sound_before g level air rows run.rounds run.now run.before inside run.run
