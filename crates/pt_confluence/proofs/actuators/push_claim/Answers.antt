use Rattle.std.proofs.Common.{◌≡◌, ◌++◌, ◌∷◌, [], refl, sym, ap, subst, ◌∙◌, option_map, w64}
use Rattle.std.specs.Prelude.{OnOk}
use Rattle.std.proofs.lemmas.Int.{to_z-of_z}
use Rattle.pt_types.specs.declared.firing.Task.{Task}
use Rattle.pt_semantics.proofs.Lookups.{same_some}
use Rattle.pt_history.specs.declared.claims.Mark.{Mark}
use Rattle.pt_history.specs.Tasks.{mark_of}
use Rattle.pt_tables.specs.Gathered.{has_table, texts_from}
use Rattle.pt_tables.proofs.Gathering.{adds_nothing}
use Rattle.pt_confluence.specs.Gathered.{by_task}
use Rattle.pt_confluence.proofs.actuators.push_claim.Goals as goal

pub returns-then-not-has_table : goal.returns-then-not-has_table
returns-then-not-has_table c = λ xs task at were.
    let is : mark_of task ≡ c.mark.result = same_some (mark_of task) c.mark.result (sym (ap (option_map mark_of) at) ∙ c.mark.ensures) in
    were ∙ sym (adds_nothing c.args.actors.now xs (by_task task) (ap (λ (m : Mark). has_table c.args.actors.now m.actor) is ∙ sym c.has_table.ensures ∙ c.if-not-has_table.true))

pub returns : goal.returns
returns c = λ xs task at were.
    let same : c.task-task.result ≡ task = same_some c.task-task.result task (sym c.task-task.ensures ∙ at) in
    subst (λ (t : Task). OnOk c.push.result (c.push.new.self ≡ texts_from 0 c.args.actors.now (xs ++ by_task t ∷ []))) same
    (c.push.ensures xs (by_task c.task-task.result) were
    (record { by = refl; at = refl; with_value = sym (to_z-of_z w64 c.first_value.result (record { sfits = c.first_value.type_inv }) ∙ c.first_value.ensures) }))
