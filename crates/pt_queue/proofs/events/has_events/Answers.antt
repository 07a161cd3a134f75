use Rattle.std.proofs.Common.{◌==◌, sym, ap, ◌∙◌}
use Rattle.std.specs.List.{list_any}
use Rattle.pt_queue.specs.Scans.{is_for}
use Rattle.pt_queue.proofs.Quiet.{no_events}
use Rattle.pt_queue.proofs.events.has_events.Goals as goal

pub returns-then-is_empty : goal.returns-then-is_empty
returns-then-is_empty c = sym (ap (list_any (is_for c.args.actor)) (no_events c.args.events.now.items (sym (c.is_empty.ensures ∙ ap (λ n. n == 0) c.args.events.now.ok.0) ∙ c.if-is_empty.true)))
