use Rattle.std.proofs.Common.{◌<◌, ℕ, List, length, length-append, ap, sym, subst, ◌++◌, ◌∙◌, eqb-true}
use Rattle.pt_types.specs.declared.firing.Task.{Task}
use Rattle.pt_history.specs.Lists.{on_last}
use Rattle.pt_history.specs.WorkLists.{AreListEnds, RoomyWorkLists}
use Rattle.pt_history.proofs.Cutting.{length-pieces}
use Rattle.pt_history.proofs.Ended.{ends_grow, lists_grow}
use Rattle.pt_history.proofs.LastMember.{on_last-nothing}
use Rattle.pt_history.proofs.work_lists.WorkLists.claim.Goals as goal

pub invariant_of-self : goal.invariant_of-self
invariant_of-self c =
    let some : 0 < length c.self.inside.claimed.ends = subst (λ k. 0 < k) (ap (λ (v : RoomyWorkLists). length v.claimed.lists) (sym c.self.view_is) ∙ length-pieces 0 c.self.inside.claimed.ends c.self.inside.work.tasks) c.requires.begun in
    let grown = ends_grow c.self.inside.claimed c.grow.new.self (length c.self.inside.work.tasks) (length c.args.tasks.now) (length c.claim_all.new.self.tasks) c.self.inside.work.spare_tasks c.claim_all.new.self.spare_tasks c.self.invariant.claimed some c.grow.ensures.ends c.grow.ensures.total
    (ap length c.claim_all.ensures.tasks ∙ length-append c.self.inside.work.tasks c.args.tasks.now) c.claim_all.ensures.claims in
    record { claimed = grown; posted = subst (λ (n : ℕ). AreListEnds c.self.inside.posted n c.claim_all.new.self.spare_dones) (sym (ap length c.claim_all.ensures.dones)) (subst (AreListEnds c.self.inside.posted (length c.self.inside.work.dones)) (sym c.claim_all.ensures.results) c.self.invariant.posted) }

pub returns-clause-lists : goal.returns-clause-lists
returns-clause-lists c =
    let some : 0 < length c.self.inside.claimed.ends = subst (λ k. 0 < k) (ap (λ (v : RoomyWorkLists). length v.claimed.lists) (sym c.self.view_is) ∙ length-pieces 0 c.self.inside.claimed.ends c.self.inside.work.tasks) c.requires.begun in
    lists_grow c.self.inside.claimed c.grow.new.self c.self.inside.work.tasks c.args.tasks.now c.claim_all.new.self.tasks c.self.inside.work.spare_tasks c.self.invariant.claimed some c.grow.ensures.ends c.claim_all.ensures.tasks
    ∙ ap (λ (v : RoomyWorkLists). on_last (λ (l : List Task). l ++ c.args.tasks.now) v.claimed.lists) c.self.view_is

pub returns-then-is_empty-clause-lists : goal.returns-then-is_empty-clause-lists
returns-then-is_empty-clause-lists c = sym (on_last-nothing c.args.tasks.now c.args.self.now.claimed.lists (eqb-true (length c.args.tasks.now) 0 (sym c.is_empty.ensures ∙ c.if-is_empty.true)))
