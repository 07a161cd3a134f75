use Rattle.std.proofs.Common.{rules, tests, ap, ◌∙◌}
use Rattle.std.specs.List.{list_any}
use Rattle.std.proofs.lemmas.Iterator.{YieldsList-from_slice}
use Rattle.std.proofs.lemmas.Iterator.Consumers.{YieldsList-from_chain}
use Rattle.std.proofs.lemmas.Iterator.Search.{any_from_yields_List}
use Rattle.pt_causality.specs.Delays.{least_of}
use Rattle.pt_turn.specs.Claims.Safe.{may_lead_to}
use Rattle.pt_turn.proofs.claim.safe.is_held_up.Goals as goal

pub returns : goal.returns
returns c =
    any_from_yields_List (may_lead_to (least_of c.args.least.now) c.args.unit c.args.tag) _ _ c.any.result c.any.ensures.ran
    (YieldsList-from_chain (YieldsList-from_slice c.as_slices.result.0.now (cc)) (YieldsList-from_slice c.as_slices.result.1.now (cc)) (cc) (cc)) (λ x b q k. search (rules, tests))
    ∙ ap (list_any (may_lead_to (least_of c.args.least.now) c.args.unit c.args.tag)) c.as_slices.ensures
