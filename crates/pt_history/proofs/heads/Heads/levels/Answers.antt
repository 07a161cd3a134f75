use Rattle.std.proofs.Common.{subst}
use Rattle.pt_history.specs.declared.head.Head.{Head}
use Rattle.pt_history.specs.Indices.{RoomyItems}
use Rattle.pt_history.specs.Levels.{IsSingleAfter}
use Rattle.pt_history.specs.Recents.{heads_in}
use Rattle.pt_history.proofs.Level.{single_in}
use Rattle.pt_history.proofs.heads.Heads.levels.Goals as goal

pub returns : goal.returns
returns c = λ n at is. subst (λ (v : RoomyItems Head). IsSingleAfter v.items n) c.self.view_is (single_in c.self.inside.past.items (heads_in c.self.inside.recent) n (c.levels.ensures n at is))
