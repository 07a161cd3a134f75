use Rattle.std.proofs.Common.{◌≡◌, List, [], ◌∷◌, length, map, refl, sym, ap, subst, ◌∙◌, eqb-true, arith}
use Rattle.pt_types.specs.declared.firing.Done.{Done as Finished}
use Rattle.pt_types.specs.declared.firing.Task.{Task}
use Rattle.pt_turn.specs.Posts.Posted.{AreDone}
use Rattle.pt_visits.proofs.firing.fire_all.Goals as goal

no_tasks : (tasks : List Task) → length tasks ≡ 0 → tasks ≡ []
no_tasks [] none = refl
no_tasks (task ∷ tasks) none = absurd (omega (arith, none))

pub returns-then-is_empty-clause-tasks : goal.returns-then-is_empty-clause-tasks
returns-then-is_empty-clause-tasks g c =
    let none : c.args.tasks.now ≡ [] = no_tasks c.args.tasks.now (eqb-true (length c.args.tasks.now) 0 (sym c.is_empty.ensures ∙ c.if-is_empty.true)) in
    ap (λ (ds : List Finished). map (λ (d : Finished). d.task) ds) c.clear.ensures.items ∙ sym none

pub returns-then-is_empty-clause-done : goal.returns-then-is_empty-clause-done
returns-then-is_empty-clause-done g c = subst (AreDone c.args.graph.now) (sym c.clear.ensures.items) tt
