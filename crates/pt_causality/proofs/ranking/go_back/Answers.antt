use Rattle.std.proofs.Common.{refl}
use Rattle.pt_causality.proofs.Steps.{pushed}
use Rattle.pt_causality.proofs.ranking.go_back.Goals as goal

pub returns : goal.returns
returns c = record { edge = c.in_ok-edge.edge; last = pushed c.pop.new.self.items c.args.trail.now.items c.in_ok-edge.edge c.in_ok-edge.ensures.items; to = refl }
