use Rattle.std.proofs.Common.{rules}
use Rattle.pt_links.proofs.Moves.{begins, forks}
use Rattle.pt_links.proofs.ends.link_by.Goals as goal

pub ruled-requires-clause-rule : goal.ruled-requires-clause-rule
ruled-requires-clause-rule g c = begins

pub another-other-requires-clause-rule : goal.another-other-requires-clause-rule
another-other-requires-clause-rule g c = forks _ _ _ (search rules) (search rules) (search rules)
