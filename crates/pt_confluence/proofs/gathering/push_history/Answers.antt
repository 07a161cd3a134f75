use Rattle.std.proofs.Common.{◌≤◌, ◌++◌, ◌∷◌, [], List, length, take, sym, ap, ◌∙◌, append_assoc, arith}
use Rattle.std.specs.List.{flat_map}
use Rattle.std.proofs.lemmas.List.{take_all}
use Rattle.pt_types.specs.declared.firing.Task.{Task}
use Rattle.pt_semantics.specs.Turn.{Turn}
use Rattle.pt_history.proofs.InTurn.{take_next}
use Rattle.pt_confluence.proofs.gathering.push_history.Goals as goal

pub task-requires : goal.task-requires
task-requires c = omega (arith, c.loop-number-test.true, c.claims-number-end.ensures)

pub loop-number-preserved : goal.loop-number-preserved
loop-number-preserved c =
    let tasks : List Task = flat_map (λ (turn : Turn). turn.claimed) c.args.history.now.turns in
    c.in_ok-push.ensures.items
    ∙ ap (λ ts. ts ++ c.task.result ∷ []) c.loop-number.invariant
    ∙ append_assoc c.args.tasks.now.items (take c.loop-number.number tasks) (c.task.result ∷ [])
    ∙ ap (λ ts. c.args.tasks.now.items ++ ts) (sym (take_next tasks c.loop-number.number c.task.result c.task.ensures))

pub returns : goal.returns
returns c =
    let tasks : List Task = flat_map (λ (turn : Turn). turn.claimed) c.args.history.now.turns in
    let past : length tasks ≤ c.loop-number.number = omega (arith, c.loop-number-test.false, c.claims-number-end.ensures) in
    c.loop-number.invariant ∙ ap (λ ts. c.args.tasks.now.items ++ ts) (take_all c.loop-number.number tasks past)
