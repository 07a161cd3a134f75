use Rattle.std.proofs.Common.{◌≡◌, take}
use Rattle.std.specs.Prelude.{flat_map}
use Rattle.pt_semantics.specs.Closing.{on_link}
use Rattle.pt_semantics.specs.Turn.{Turn}
use Rattle.pt_audit.proofs.linking.taken_on.Given as goal

abbrev pub invariant-loop-turn : goal.invariant-loop-turn
invariant-loop-turn l = l.messages.items ≡ flat_map (λ (t : Turn). on_link l.link t.taken) (take l.turn l.history.turns)
