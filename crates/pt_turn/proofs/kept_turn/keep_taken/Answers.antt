use Rattle.std.proofs.Common.{◌≡◌, [], length, sym, ◌∙◌, eqb-true}
use Rattle.pt_turn.proofs.Changing.{empty_is, takes_none}
use Rattle.pt_turn.proofs.kept_turn.keep_taken.Goals as goal

pub returns-then-is_empty-clause-turns : goal.returns-then-is_empty-clause-turns
returns-then-is_empty-clause-turns c =
    let none : c.args.messages.now.items ≡ [] = empty_is c.as_slice.result.now c.args.messages.now.items c.as_slice.ensures.value (eqb-true (length c.as_slice.result.now) 0 (sym c.is_empty.ensures ∙ c.if-is_empty.true)) in
    takes_none c.args.messages.now.items c.args.history.now.turns none

pub returns-then-is_empty-clause-empty : goal.returns-then-is_empty-clause-empty
returns-then-is_empty-clause-empty c = empty_is c.as_slice.result.now c.args.messages.now.items c.as_slice.ensures.value (eqb-true (length c.as_slice.result.now) 0 (sym c.is_empty.ensures ∙ c.if-is_empty.true))
