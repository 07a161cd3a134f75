use Rattle.std.proofs.Common.{◌∙◌, sym, arith, rules}
use Rattle.pt_links.proofs.Windows.{window_before_take}
use Rattle.pt_links.proofs.pipe.Pipe.take.Goals as goal

-- what was held is the message at the oldest place, and then what is held now
pub returns-clause-oldest : goal.returns-clause-oldest
returns-clause-oldest c =
    sym c.self.view_is
    ∙ window_before_take 64 _ _ c.self.inside.places c.self.invariant.0 c.self.invariant.1 (search rules) _ (omega arith)
