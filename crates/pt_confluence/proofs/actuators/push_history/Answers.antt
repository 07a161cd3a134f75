use Rattle.std.proofs.Common.{◌<◌, ◌≤◌, ◌++◌, List, length, map, take, ap, ◌∙◌, arith}
use Rattle.std.specs.List.{flat_map}
use Rattle.std.proofs.lemmas.List.{take_all}
use Rattle.pt_types.specs.declared.firing.Task.{Task}
use Rattle.pt_semantics.specs.Turn.{Turn}
use Rattle.pt_tables.specs.Gathered.{texts_from}
use Rattle.pt_confluence.specs.Gathered.{by_task}
use Rattle.pt_confluence.proofs.Lines.{next_task}
use Rattle.pt_confluence.proofs.actuators.push_history.Goals as goal

pub push_claim-requires : goal.push_claim-requires
push_claim-requires c = omega (arith, c.loop-number-test.true, c.claims-number-end.ensures)

pub loop-number-preserved : goal.loop-number-preserved
loop-number-preserved c = λ xs were.
    let tasks : List Task = flat_map (λ (turn : Turn). turn.claimed) c.args.history.now.turns in
    let within : c.loop-number.number < length tasks = omega (arith, c.loop-number-test.true, c.claims-number-end.ensures) in
    let (task, at, puts) = next_task tasks c.loop-number.number within in
    c.in_ok-push_claim.ensures (xs ++ map by_task (take c.loop-number.number tasks)) task at (c.loop-number.invariant xs were)
    ∙ ap (texts_from 0 c.args.actors.now) (puts xs)

pub returns : goal.returns
returns c = λ xs were.
    let tasks : List Task = flat_map (λ (turn : Turn). turn.claimed) c.args.history.now.turns in
    let past : length tasks ≤ c.loop-number.number = omega (arith, c.loop-number-test.false, c.claims-number-end.ensures) in
    c.loop-number.invariant xs were ∙ ap (λ ts. texts_from 0 c.args.actors.now (xs ++ map by_task ts)) (take_all c.loop-number.number tasks past)
