use Rattle.std.proofs.Common.{◌<◌, ℕ, List, length, length-append, ap, sym, subst, ◌++◌, ◌∙◌, eqb-true}
use Rattle.pt_types.specs.declared.firing.Done.{Done}
use Rattle.pt_history.specs.Lists.{on_last}
use Rattle.pt_history.specs.WorkLists.{AreListEnds, RoomyWorkLists}
use Rattle.pt_history.proofs.Cutting.{length-pieces}
use Rattle.pt_history.proofs.Ended.{ends_grow, lists_grow}
use Rattle.pt_history.proofs.LastMember.{on_last-nothing}
use Rattle.pt_history.proofs.work_lists.WorkLists.post.Goals as goal

pub invariant_of-self : goal.invariant_of-self
invariant_of-self c =
    let some : 0 < length c.self.inside.posted.ends = subst (λ k. 0 < k) (ap (λ (v : RoomyWorkLists). length v.posted.lists) (sym c.self.view_is) ∙ length-pieces 0 c.self.inside.posted.ends c.self.inside.work.dones) c.requires.begun in
    let grown = ends_grow c.self.inside.posted c.grow.new.self (length c.self.inside.work.dones) (length c.args.dones.now) (length c.post_all.new.self.dones) c.self.inside.work.spare_dones c.post_all.new.self.spare_dones c.self.invariant.posted some c.grow.ensures.ends c.grow.ensures.total
    (ap length c.post_all.ensures.dones ∙ length-append c.self.inside.work.dones c.args.dones.now) c.post_all.ensures.results in
    record { posted = grown; claimed = subst (λ (n : ℕ). AreListEnds c.self.inside.claimed n c.post_all.new.self.spare_tasks) (sym (ap length c.post_all.ensures.tasks)) (subst (AreListEnds c.self.inside.claimed (length c.self.inside.work.tasks)) (sym c.post_all.ensures.claims) c.self.invariant.claimed) }

pub returns-clause-lists : goal.returns-clause-lists
returns-clause-lists c =
    let some : 0 < length c.self.inside.posted.ends = subst (λ k. 0 < k) (ap (λ (v : RoomyWorkLists). length v.posted.lists) (sym c.self.view_is) ∙ length-pieces 0 c.self.inside.posted.ends c.self.inside.work.dones) c.requires.begun in
    lists_grow c.self.inside.posted c.grow.new.self c.self.inside.work.dones c.args.dones.now c.post_all.new.self.dones c.self.inside.work.spare_dones c.self.invariant.posted some c.grow.ensures.ends c.post_all.ensures.dones
    ∙ ap (λ (v : RoomyWorkLists). on_last (λ (l : List Done). l ++ c.args.dones.now) v.posted.lists) c.self.view_is

pub returns-then-is_empty-clause-lists : goal.returns-then-is_empty-clause-lists
returns-then-is_empty-clause-lists c = sym (on_last-nothing c.args.dones.now c.args.self.now.posted.lists (eqb-true (length c.args.dones.now) 0 (sym c.is_empty.ensures ∙ c.if-is_empty.true)))
