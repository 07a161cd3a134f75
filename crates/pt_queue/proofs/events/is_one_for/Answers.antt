use Rattle.std.proofs.Common.{rules, tests, ap, ◌∙◌}
use Rattle.std.specs.List.{list_any}
use Rattle.std.proofs.lemmas.Iterator.{YieldsList-from_slice}
use Rattle.std.proofs.lemmas.Iterator.Consumers.{YieldsList-from_chain}
use Rattle.std.proofs.lemmas.Iterator.Search.{any_from_yields_List}
use Rattle.pt_queue.specs.Scans.{is_for}
use Rattle.pt_queue.proofs.events.is_one_for.Goals as goal

pub returns : goal.returns
returns c =
    any_from_yields_List (is_for c.args.actor) _ _ c.any.result c.any.ensures.ran
    (YieldsList-from_chain (YieldsList-from_slice c.as_slices.result.0.now (cc)) (YieldsList-from_slice c.as_slices.result.1.now (cc)) (cc) (cc)) (λ x b q k. search (rules, tests))
    ∙ ap (list_any (is_for c.args.actor)) c.as_slices.ensures.items
