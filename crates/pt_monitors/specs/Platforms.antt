-- The misses of a platform.
use Rattle.std.specs.Prelude.{List}
use Rattle.pt_history.specs.declared.miss.Miss.{Miss}
use Rattle.pt_turn.specs.Platforms.{PlatformView}
use Rattle.pt_monitors.specs.Misses.{missed_of}

-- the misses of all its recorded turns, with the graph of its plan
abbrev pub missed_by : PlatformView → List Miss
missed_by v = missed_of v.plan.graph v.turns
