use Rattle.std.proofs.Common.{rules, ◌≡◌, ◌++◌}
use Rattle.pt_cases.proofs.Taken.{taken_more}
use Rattle.pt_cases.proofs.platforms.arrivals.taken_in.Goals as goal

pub loop-number-preserved : goal.loop-number-preserved
loop-number-preserved c =
    let grew : c.extend_from_slice.new.self.items ≡ c.loop-number.messages.items ++ c.taken.result.now = search rules in
    taken_more c.args.history.now.turns c.loop-number.number c.loop-number.messages.items c.extend_from_slice.new.self.items c.taken.result.now c.loop-number.invariant c.taken.ensures grew
