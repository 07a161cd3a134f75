use Rattle.std.proofs.Common.{◌<◌, sym, ◌∙◌, arith}
use Rattle.std.specs.Prelude.{slice_index_or}
use Rattle.pt_replay.proofs.Visits.Resting.{all_left, all_none, before_arrivals, no_pipes}
use Rattle.pt_replay.proofs.visit.delivering.deliver.Goals as goal

-- before the next arrival no message has come
pub returns-then-now-arrival_at : goal.returns-then-now-arrival_at
returns-then-now-arrival_at c =
    let early : c.args.now < slice_index_or c.args.arrivals.now c.args.number 0 = omega (arith, c.if-now-arrival_at.true, c.arrival_at.ensures) in
    let none = before_arrivals c.args.graph.now c.args.number c.args.now c.args.arrivals.now c.args.airways.now c.requires.arrivals early in
    record {
      pipes = sym (all_none c.args.graph.now c.args.number c.args.now 0 c.args.airways.now none ∙ no_pipes c.args.airways.now c.args.pipes.now (c.requires.airways ∙ sym c.requires.pipes) c.requires.empty);
      airways = sym (all_left c.args.graph.now c.args.number c.args.now 0 c.args.airways.now none);
    }
