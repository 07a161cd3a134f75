use Rattle.std.proofs.Common.{List, arith, subst, sym}
use Rattle.pt_causality.specs.declared.places.SearchState.{SearchState}
use Rattle.pt_causality.specs.Ranking.{Rests}
use Rattle.pt_causality.proofs.Found.{fresh_rests}
use Rattle.pt_causality.proofs.ranking.visit_all.Goals as goal

pub loop-actor-init : goal.loop-actor-init
loop-actor-init c = record {
  rests = subst (λ (ps : List SearchState). Rests c.args.incoming.now ps) (sym c.in_ok-places.ensures) (fresh_rests c.args.incoming.now);
  done = λ a below. absurd (omega (arith, below));
}
