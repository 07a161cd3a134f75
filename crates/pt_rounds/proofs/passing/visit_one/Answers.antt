use Rattle.std.proofs.Common.{◌∙◌, sym}
use Rattle.pt_semantics.specs.Kept.{settled}
use Rattle.pt_engine.proofs.Passing.{same_test}
use Rattle.pt_rounds.proofs.passing.visit_one.Goals as goal

pub returns-then-closed : goal.returns-then-closed
returns-then-closed g c =
    let visited = c.in_ok-visit_knowing.ensures.visited in
    let same = c.was_quiet.ensures (settled c.args.platform.now.turns) visited.turn visited.turns in
    record {
      visited = record {
        visited = visited;
        still_is = ((λ e. (sym same ∙ e, sym c.closed.ensures ∙ (same_test c.closed.result c.closed-closed.result c.if-closed.true ∙ c.closed-closed.ensures))), (λ both. same ∙ both.0));
      };
      none = c.in_ok-visit_knowing.ensures.none;
    }
