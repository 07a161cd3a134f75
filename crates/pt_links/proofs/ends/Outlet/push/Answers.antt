use Rattle.std.proofs.Common.{rules}
use Rattle.pt_links.proofs.Moves.{sends, full}
use Rattle.pt_links.proofs.ends.Outlet.push.Goals as goal

pub push_as-requires-clause-rule : goal.push_as-requires-clause-rule
push_as-requires-clause-rule g c = (sends _ _ _ _ c.self.invariant.1 (search rules), full _ _ c.self.invariant.1)
