use Rattle.std.proofs.Common.{◌≡◌, ◌<◌, length, ap, sym, ◌∙◌, arith}
use Rattle.pt_history.specs.Lists.{RoomyEnds, starts_of}
use Rattle.pt_history.proofs.Starts.{length-ends, some_lists}
use Rattle.pt_history.proofs.ends.Ends.list_before.Goals as goal

pub returns-clause-within : goal.returns-clause-within
returns-clause-within c =
    let total = c.self.inside.total in
    let starts = starts_of c.self.inside.starts.items c.self.inside.pending total in
    let many : length c.args.self.now.ends ≡ length starts = ap (λ (v : RoomyEnds). length v.ends) (sym c.self.view_is) ∙ length-ends starts total in
    let all : c.args.self.now.total ≡ total = ap (λ (v : RoomyEnds). v.total) (sym c.self.view_is) in
    let some : 0 < length starts = some_lists starts total c.self.invariant.0 (omega (arith, all, c.requires)) in
    omega (arith, some, many)
