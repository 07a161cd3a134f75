use Rattle.std.proofs.Common.{◌≡◌, length, ap, sym, ◌∙◌}
use Rattle.pt_history.specs.declared.claims.Mark.{Mark}
use Rattle.pt_history.specs.Indices.{RoomyItems}
use Rattle.pt_history.specs.Marks.{mark_numbers}
use Rattle.pt_history.proofs.MarkLists.{length-marks, length-numbers}
use Rattle.pt_history.proofs.marks.Marks.len.Goals as goal

pub returns : goal.returns
returns c =
    let tags = c.self.inside.tags.items in
    let actors = c.self.inside.actors.items in
    let numbers = mark_numbers (length tags) c.self.inside.numbers.items in
    let many : length numbers ≡ length tags = length-numbers (length tags) c.self.inside.numbers.items c.self.invariant.numbers in
    let lists : length c.args.self.now.items ≡ length tags = ap (λ (v : RoomyItems Mark). length v.items) (sym c.self.view_is) ∙ length-marks tags actors numbers c.self.invariant.actors many in
    c.len.ensures ∙ sym lists
