-- True times of a replay.
use Rattle.std.proofs.Common.{length, arith}
use Rattle.pt_replay_laws.specs.Times.{ArrivalsNeverFall, HappensLater, TimeNeverFalls}
use Rattle.pt_replay_laws.proofs.Quiet.{happens_later}
use Rattle.pt_replay_laws.proofs.Replays.{rises, round_fine, round_sound, run_sound, settled}

pub all_later : HappensLater
all_later g level air rows rounds now x ms y wired are fits run round fine quiet =
    happens_later g level rows air wired are fits now y
    (round_fine g level rows air wired are fits now (length g.platforms) 0 x ms y (run_sound g level rows air wired are fits rounds now x run) round fine)
    (settled g level rows air wired are fits now x ms y round fine quiet)

pub never_falls : TimeNeverFalls
never_falls g level air rows rounds now next x ms y wired are fits run round fine follows =
    rises g level rows air wired are fits now next x ms y (run_sound g level rows air wired are fits rounds now x run) round fine follows

pub arrivals_never_fall : ArrivalsNeverFall
arrivals_never_fall g level air rows rounds now n ms y wired are fits run =
    (round_sound g level rows air wired are fits now n 0 n run.before ms y (omega arith) (run_sound g level rows air wired are fits rounds now run.before run.run) run.round).falls
