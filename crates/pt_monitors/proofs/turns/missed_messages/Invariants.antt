use Rattle.std.proofs.Common.{◌≡◌, ◌++◌, filter_map, take}
use Rattle.pt_monitors.specs.Misses.{miss_of_message}
use Rattle.pt_monitors.proofs.turns.missed_messages.Given as goal

abbrev pub invariant-loop-message : goal.invariant-loop-message
invariant-loop-message l = l.misses.items ≡ l.fn.misses.items ++ filter_map (miss_of_message l.graph l.reading) (take l.message-index l.sent)
