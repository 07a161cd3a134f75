use Rattle.std.proofs.Common.{sym, ◌∙◌}
use Rattle.pt_turn.specs.Fields.State.{busy_in}
use Rattle.pt_turn.proofs.Claims.SafeTags.{not_some}
use Rattle.pt_turn.proofs.claim.paced.sooner_of_unit.Goals as goal

pub sooner_of_free_unit-requires-clause-free : goal.sooner_of_free_unit-requires-clause-free
sooner_of_free_unit-requires-clause-free c = not_some (busy_in c.args.fields.now.open_claims.items c.args.waiting.unit) (sym c.has.ensures ∙ c.if-has.false)
