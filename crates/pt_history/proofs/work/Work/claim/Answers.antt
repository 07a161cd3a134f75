use Rattle.std.proofs.Common.{◌≡◌, ◌∷◌, ◌+◌, [], length, length-append, ap, ◌∙◌, arith}
use Rattle.pt_history.specs.Works.{RoomyWork}
use Rattle.pt_history.proofs.DoneLists.{dones_stay, within_more}
use Rattle.pt_history.proofs.work.Work.claim.Goals as goal

pub invariant_of-self : goal.invariant_of-self
invariant_of-self c =
    let many : length c.push.new.self.tasks ≡ length c.self.inside.claims.tasks + 1 = ap length c.push.ensures.tasks ∙ length-append c.self.inside.claims.tasks (c.args.task.now ∷ []) in
    record {
      same = c.self.invariant.same;
      within = within_more (length c.self.inside.claims.tasks) (length c.self.inside.others.items) (length c.push.new.self.tasks) (length c.self.inside.others.items) c.self.inside.sources.items (omega (arith, many)) (omega arith) c.self.invariant.within;
      sources = c.self.invariant.sources;
      others = c.self.invariant.others;
      cells = c.self.invariant.cells;
      fits = c.self.invariant.fits;
    }

pub returns-clause-dones : goal.returns-clause-dones
returns-clause-dones c =
    dones_stay c.self.inside.claims.tasks c.push.new.self.tasks c.self.inside.others.items c.args.task.now c.self.inside.sources.items c.self.inside.fired.cells c.self.invariant.within c.push.ensures.tasks
    ∙ ap (λ (v : RoomyWork). v.dones) c.self.view_is
