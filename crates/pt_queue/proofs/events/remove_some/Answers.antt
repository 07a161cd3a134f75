use Rattle.std.proofs.Common.{rules, not}
use Rattle.std.proofs.lemmas.Fn.{filter_same}
use Rattle.pt_types.specs.declared.firing.Event.{Event}
use Rattle.pt_queue.specs.Scans.{is_at}
use Rattle.pt_queue.proofs.events.remove_some.Goals as goal

pub returns-clause-left : goal.returns-clause-left
returns-clause-left c = filter_same _ (λ (e : Event). not (is_at c.args.table.now c.args.unit c.args.tag e)) _ (λ x b f' k. search rules) _ _ c.retain.ensures.filtered
