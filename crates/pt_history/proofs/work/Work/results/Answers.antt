use Rattle.std.proofs.Common.{length, ap, sym, ◌∙◌}
use Rattle.pt_history.specs.Works.{RoomyWork}
use Rattle.pt_history.proofs.DoneLists.{length-dones}
use Rattle.pt_history.proofs.work.Work.results.Goals as goal

pub returns : goal.returns
returns c =
    c.len.ensures
    ∙ sym (length-dones c.self.inside.claims.tasks c.self.inside.others.items c.self.inside.sources.items c.self.inside.fired.cells c.self.invariant.same)
    ∙ ap (λ (v : RoomyWork). length v.dones) c.self.view_is
