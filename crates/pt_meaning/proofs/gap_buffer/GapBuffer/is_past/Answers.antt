use Rattle.std.proofs.Common.{◌<◌, length, rules}
use Rattle.pt_meaning.specs.Waiting.{place_cmp}
use Rattle.pt_meaning.proofs.Lines.{place_total, both_before, rising_back}
use Rattle.pt_meaning.proofs.gap_buffer.GapBuffer.is_past.Goals as goal

pub returns-then-not-is_empty : goal.returns-then-not-is_empty
returns-then-not-is_empty c = λ before.
    let xs = c.self.inside.before.items in let ys = c.self.inside.after.items in
    let some : 0 < length c.self.inside.after.items = search rules in
    rw (← c.self.view_is) (both_before place_cmp place_total xs ys c.args.place some c.self.invariant (c.ends_before.ensures before (rising_back place_cmp place_total xs ys c.self.invariant)))
