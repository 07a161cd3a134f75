use Rattle.std.proofs.Common.{rules, not}
use Rattle.std.proofs.lemmas.Fn.{filter_same}
use Rattle.pt_tags.specs.Tags.{same_tag}
use Rattle.pt_types.specs.declared.firing.Event.{Event}
use Rattle.pt_queue.proofs.line.take_behind.Goals as goal

pub returns-clause-left : goal.returns-clause-left
returns-clause-left c = filter_same _ (λ (e : Event). not (same_tag c.args.tag e.tag)) _ (λ x b f' k. search rules) _ _ c.retain.ensures.filtered
