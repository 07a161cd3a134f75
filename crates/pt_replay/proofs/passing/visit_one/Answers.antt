use Rattle.std.proofs.Common.{◌∙◌, sym}
use Rattle.pt_semantics.specs.Kept.{settled}
use Rattle.pt_engine.proofs.Passing.{same_test}
use Rattle.pt_replay.proofs.passing.visit_one.Goals as goal

pub returns-then-closed : goal.returns-then-closed
returns-then-closed g c =
    let visit = c.in_ok-visit_at.ensures.visit in
    let same = c.was_quiet.ensures (settled c.args.platform.now.turns) visit.visited.turn visit.visited.turns in
    record {
      visit = record {
        visit = visit;
        still_is = ((λ e. (sym same ∙ e, sym c.closed.ensures ∙ (same_test c.closed.result c.closed-closed.result c.if-closed.true ∙ c.closed-closed.ensures))), (λ both. same ∙ both.0));
      };
      arrivals = c.in_ok-visit_at.ensures.arrivals;
      pipes = c.in_ok-visit_at.ensures.pipes;
    }
