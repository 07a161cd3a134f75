use Rattle.std.proofs.Common.{◌<◌, length, sym, subst, ◌∙◌}
use Rattle.pt_semantics.specs.Lists.{Each}
use Rattle.pt_queue.specs.declared.waiting.Waiting.{Waiting}
use Rattle.pt_turn.specs.Claims.Fronts.{IsAhead}
use Rattle.pt_turn.proofs.Claims.Ordering.{inserted_last, not_full}
use Rattle.pt_turn.proofs.claim.order.put.Goals as goal

pub returns-then-all_come_before : goal.returns-then-all_come_before
returns-then-all_come_before c =
    let old = c.args.units.now.items in
    let less : length old < 64 = not_full (length old) c.is_full.ensures.fits (sym c.is_full.ensures.value ∙ c.if-not-is_full.true) in
    let before : Each (λ (d : Waiting). IsAhead d c.args.next) old = subst (Each (λ (d : Waiting). IsAhead d c.args.next)) c.as_slice.ensures.value (c.all_come_before.ensures c.if-all_come_before.true) in
    inserted_last old c.push.new.self.items c.args.next less before c.push.ensures.items
