use Rattle.std.proofs.Common.{length, ap, ◌++◌, ◌∷◌, [], ◌∙◌}
use Rattle.pt_history.specs.WorkLists.{RoomyWorkLists}
use Rattle.pt_history.proofs.Ended.{ends_begin, lists_begin}
use Rattle.pt_history.proofs.work_lists.WorkLists.begin.Goals as goal

pub invariant_of-self : goal.invariant_of-self
invariant_of-self c = record {
  claimed = ends_begin c.self.inside.claimed c.begin.new.self (length c.self.inside.work.tasks) c.self.inside.work.spare_tasks c.self.invariant.claimed c.begin.ensures.ends c.begin.ensures.total;
  posted = ends_begin c.self.inside.posted c.begin-2.new.self (length c.self.inside.work.dones) c.self.inside.work.spare_dones c.self.invariant.posted c.begin-2.ensures.ends c.begin-2.ensures.total;
}

pub returns-clause-claimed : goal.returns-clause-claimed
returns-clause-claimed c =
    lists_begin c.self.inside.claimed c.begin.new.self c.self.inside.work.tasks c.self.inside.work.spare_tasks c.self.invariant.claimed c.begin.ensures.ends
    ∙ ap (λ (v : RoomyWorkLists). v.claimed.lists ++ [] ∷ []) c.self.view_is

pub returns-clause-posted : goal.returns-clause-posted
returns-clause-posted c =
    lists_begin c.self.inside.posted c.begin-2.new.self c.self.inside.work.dones c.self.inside.work.spare_dones c.self.invariant.posted c.begin-2.ensures.ends
    ∙ ap (λ (v : RoomyWorkLists). v.posted.lists ++ [] ∷ []) c.self.view_is
