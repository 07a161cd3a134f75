use Rattle.std.proofs.Common.{flat_map, option_map, take}
use Rattle.std.specs.Fmt.{HasWritten, IsPlainFormatter}
use Rattle.pt_run.specs.Notes.{name_after_space}
use Rattle.pt_run.proofs.fault_line.NamesDisplay.fmt.Given as goal

abbrev pub invariant-loop-actor : goal.invariant-loop-actor
invariant-loop-actor g l =
    IsPlainFormatter l.initial.f → HasWritten g.W.Write.write_str_gives l.initial.f (flat_map (name_after_space (option_map (λ g. g.now) l.self.graph)) (take l.actor-index l.actor-items)) l.f
