use Rattle.std.proofs.Common.{◌≡◌, take}
use Rattle.pt_turn.specs.Platforms.{messages_of}
use Rattle.pt_cases.proofs.platforms.arrivals.taken_in.Given as goal

abbrev pub invariant-loop-number : goal.invariant-loop-number
invariant-loop-number l = l.messages.items ≡ messages_of (take l.number l.history.turns)
