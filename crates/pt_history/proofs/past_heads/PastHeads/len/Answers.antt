use Rattle.std.proofs.Common.{length, ap, sym, ◌∙◌}
use Rattle.pt_history.specs.declared.head.Head.{Head}
use Rattle.pt_history.specs.Indices.{RoomyItems}
use Rattle.pt_history.proofs.HeadLists.{length-heads}
use Rattle.pt_history.proofs.past_heads.PastHeads.len.Goals as goal

pub returns : goal.returns
returns c = c.len.ensures ∙ sym (ap (λ (v : RoomyItems Head). length v.items) (sym c.self.view_is) ∙ length-heads c.self.inside.lasts.items c.self.inside.runs.lists c.self.invariant.same)
