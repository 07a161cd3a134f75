use Rattle.std.proofs.Common.{◌≡◌, filter_map}
use Rattle.std.specs.List.{range_with_len}
use Rattle.pt_turn.specs.Live.{empty_entry}
use Rattle.pt_turn.proofs.live_entries.empty_entries.Given as goal

abbrev pub invariant-loop-actor : goal.invariant-loop-actor
invariant-loop-actor l = l.entries.items ≡ filter_map (empty_entry l.graph l.number) (range_with_len 0 l.actor)
