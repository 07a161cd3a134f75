use Rattle.std.proofs.Common.{List, Bor, map, sym, ap₂, subst, ◌∙◌}
use Rattle.std.specs.List.{flat_map}
use Rattle.std.proofs.lemmas.Result.{IfOk-weaker}
use Rattle.pt_types.specs.declared.firing.Task.{Task}
use Rattle.pt_semantics.specs.Meaning.{IsMeaning}
use Rattle.pt_causality.specs.declared.ranks.Ranks.{Ranks}
use Rattle.pt_types.specs.declared.graph.Graph.{Graph}
use Rattle.pt_causality.specs.Ranked.{rank_of}
use Rattle.pt_confluence.specs.Gathered.{claimed_tasks}
use Rattle.pt_confluence.specs.Joined.{neighbours_joined, whole_firing}
use Rattle.pt_confluence.proofs.All.{claimed_of}
use Rattle.pt_confluence.proofs.Ordering.{AreOrdered}
use Rattle.pt_confluence.proofs.Sorting.{sorted_tasks}
use Rattle.pt_confluence.proofs.Tables.{meaning_is}
use Rattle.pt_confluence.proofs.gathering.gather.Goals as goal

pub returns-clause-meaning : goal.returns-clause-meaning
returns-clause-meaning c =
    let sorted : AreOrdered (rank_of c.args.plan.now.ranks) (map (λ (task : Bor Task). task.now) c.in_ok-sorted.sorted.items) (map (λ (task : Bor Task). task.now) c.sort.new.tasks.items) =
    subst (λ (r : Ranks). AreOrdered (rank_of r) (map (λ (task : Bor Task). task.now) c.in_ok-sorted.sorted.items) (map (λ (task : Bor Task). task.now) c.sort.new.tasks.items)) c.ranks.ensures.value
    (sorted_tasks (λ (task : Bor Task). task.now) (rank_of c.ranks.result.now) c.in_ok-sorted.sorted.items c.sort.new.tasks.items c.sort.ensures.permutation c.sort.ensures.sorted) in
    let ordered : AreOrdered (rank_of c.args.plan.now.ranks) (flat_map claimed_tasks c.args.platforms.now) (map (λ (task : Bor Task). task.now) c.sort.new.tasks.items) =
    subst (λ ts. AreOrdered (rank_of c.args.plan.now.ranks) ts (map (λ (task : Bor Task). task.now) c.sort.new.tasks.items)) (c.in_ok-sorted.ensures ∙ c.as_slice.ensures.value ∙ c.in_ok-tasks.ensures.tasks) sorted in
    IfOk-weaker c.join.result _ _ (λ firings is rows run.
    subst (IsMeaning c.args.plan.now.graph (rank_of c.args.plan.now.ranks) rows)
    (ap₂ (λ (g : Graph) (ts : List (Bor Task)). map (whole_firing g) (neighbours_joined (map (λ (task : Bor Task). task.now) ts))) (sym c.graph.ensures.value) (sym c.as_slice-2.ensures.value) ∙ sym is)
    (meaning_is c.args.plan.now rows c.args.platforms.now c.graph.ensures.admitted run c.in_ok-tasks.ensures.legal (map (λ (task : Bor Task). task.now) c.sort.new.tasks.items) ordered)) c.join.ensures

pub returns-clause-claimed : goal.returns-clause-claimed
returns-clause-claimed c = IfOk-weaker c.join.result _ _ (λ firings is rows run. claimed_of c.args.plan.now rows c.args.platforms.now c.graph.ensures.admitted run c.in_ok-tasks.ensures.legal firings (is rows run)) (returns-clause-meaning c)
