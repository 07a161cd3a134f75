use Rattle.std.proofs.Common.{[], append-nil, sym, arith}
use Rattle.std.proofs.lemmas.Option.{get_or_from_slice_get, slice_get_within}
use Rattle.pt_history.specs.Tasks.{no_task}
use Rattle.pt_history.proofs.work.source_of.Goals as goal

pub returns-in-Some-clause-stored : goal.returns-in-Some-clause-stored
returns-in-Some-clause-stored c = record {
  more = [];
  grows = sym (append-nil c.args.others.now.items);
  few = omega arith;
  within = (slice_get_within c.args.claims.now.tasks c.in-Some.number c.args.task.now c.in-Some.ensures.is, tt);
  is = get_or_from_slice_get c.args.claims.now.tasks c.in-Some.number c.args.task.now no_task c.in-Some.ensures.is;
}
