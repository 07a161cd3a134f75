use Rattle.std.proofs.Common.{ap, sym}
use Rattle.pt_history.specs.declared.head.Head.{Head}
use Rattle.pt_history.specs.Heads.{single}
use Rattle.pt_history.specs.Indices.{RoomyItems}
use Rattle.pt_history.proofs.LastTwo.{replaced}
use Rattle.pt_history.proofs.heads.Heads.replace.Goals as goal

pub returns-clause-items : goal.returns-clause-items
returns-clause-items c =
    let items = ap (λ (v : RoomyItems Head). v.items) c.self.view_is in
    replaced c.self.inside.past.items c.self.inside.recent c.args.self.now.items c.args.before (single c.args.reading) (sym items) c.requires c.self.invariant.recent
