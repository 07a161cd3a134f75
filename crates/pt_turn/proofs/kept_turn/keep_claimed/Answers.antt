use Rattle.std.proofs.Common.{◌≡◌, ◌++◌, [], List, length, sym, ap, ◌∙◌, eqb-true}
use Rattle.std.proofs.lemmas.List.{append-nil}
use Rattle.pt_types.specs.declared.firing.Task.{Task}
use Rattle.pt_turn.proofs.Changing.{empty_is, claims_none}
use Rattle.pt_turn.proofs.kept_turn.keep_claimed.Goals as goal

pub returns-then-is_empty-clause-turns : goal.returns-then-is_empty-clause-turns
returns-then-is_empty-clause-turns c =
    let none : c.args.claimed.now.items ≡ [] = empty_is c.as_slice.result.now c.args.claimed.now.items c.as_slice.ensures.value (eqb-true (length c.as_slice.result.now) 0 (sym c.is_empty.ensures ∙ c.if-is_empty.true)) in
    claims_none c.args.claimed.now.items c.args.history.now.turns none

pub returns-then-is_empty-clause-empty : goal.returns-then-is_empty-clause-empty
returns-then-is_empty-clause-empty c = empty_is c.as_slice.result.now c.args.claimed.now.items c.as_slice.ensures.value (eqb-true (length c.as_slice.result.now) 0 (sym c.is_empty.ensures ∙ c.if-is_empty.true))

pub returns-then-is_empty-clause-tasks : goal.returns-then-is_empty-clause-tasks
returns-then-is_empty-clause-tasks c =
    let none : c.args.claimed.now.items ≡ [] = empty_is c.as_slice.result.now c.args.claimed.now.items c.as_slice.ensures.value (eqb-true (length c.as_slice.result.now) 0 (sym c.is_empty.ensures ∙ c.if-is_empty.true)) in
    sym (append-nil c.args.tasks.now.tasks) ∙ ap (λ (ts : List Task). c.args.tasks.now.tasks ++ ts) (sym none)
