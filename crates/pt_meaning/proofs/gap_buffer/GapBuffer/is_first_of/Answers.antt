use Rattle.std.proofs.Common.{◌≡◌, ◌∙◌, ◌<◌, length, rules, ap}
use Rattle.pt_meaning.specs.Line.{begins_with}
use Rattle.pt_meaning.proofs.Lines.{begins_back, begins_front}
use Rattle.pt_meaning.proofs.gap_buffer.GapBuffer.is_first_of.Goals as goal

pub returns-then-is_empty-clause-is : goal.returns-then-is_empty-clause-is
returns-then-is_empty-clause-is c =
    let none : length c.self.inside.before.items ≡ 0 = search rules in
    c.begins_with.ensures ∙ begins_back c.args.tag c.args.actor c.self.inside.before.items c.self.inside.after.items none ∙ ap (begins_with c.args.tag c.args.actor) c.self.view_is

pub returns-else-is_empty-clause-is : goal.returns-else-is_empty-clause-is
returns-else-is_empty-clause-is c =
    let some : 0 < length c.self.inside.before.items = search rules in
    c.begins_with-else-is_empty.ensures ∙ begins_front c.args.tag c.args.actor c.self.inside.before.items c.self.inside.after.items some ∙ ap (begins_with c.args.tag c.args.actor) c.self.view_is
