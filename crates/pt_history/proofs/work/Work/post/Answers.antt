use Rattle.std.proofs.Common.{◌≡◌, ◌∷◌, ◌++◌, ◌+◌, [], length, length-append, ap, subst, sym, ◌∙◌, arith, rules}
use Rattle.pt_history.specs.Cells.{cells_of}
use Rattle.pt_history.specs.Works.{RoomyWork, SourcesAreWithin, dones_of}
use Rattle.pt_history.specs.Tasks.{RoomyTasks}
use Rattle.pt_history.proofs.DoneLists.{dones_post, within_post}
use Rattle.pt_history.proofs.work.Work.post.Goals as goal

pub invariant_of-self : goal.invariant_of-self
invariant_of-self c =
    let stored = c.source_of-source.ensures.stored in
    let sources : length c.push.new.self.items ≡ length c.self.inside.sources.items + 1 = ap length c.push.ensures.items ∙ length-append c.self.inside.sources.items (c.source_of-source.result ∷ []) in
    let more : c.push-2.new.self.cells ≡ c.self.inside.fired.cells ++ cells_of c.args.done.now.fired.outputs c.args.done.now.fired.state ∷ [] = search rules in
    let cells : length c.push-2.new.self.cells ≡ length c.self.inside.fired.cells + 1 = ap length more ∙ length-append c.self.inside.fired.cells (cells_of c.args.done.now.fired.outputs c.args.done.now.fired.state ∷ []) in
    let others : length c.source_of-source.new.others.items ≡ length c.self.inside.others.items + length stored.more = ap length stored.grows ∙ length-append c.self.inside.others.items stored.more in
    let spare : c.args.self.now.spare_dones ≡ c.self.inside.spare = ap (λ (v : RoomyWork). v.spare_dones) (sym c.self.view_is) in
    record {
      same = omega (arith, sources, cells, c.self.invariant.same);
      within = subst (λ (v : RoomyTasks). SourcesAreWithin (length v.tasks) (length c.source_of-source.new.others.items) c.push.new.self.items) (sym c.source_of-source.ensures.claims) (within_post c.self.inside.claims.tasks c.self.inside.others.items c.source_of-source.new.others.items c.self.inside.sources.items c.push.new.self.items c.source_of-source.result c.args.done.now.task c.self.invariant.within stored c.push.ensures.items);
      sources = omega (arith, c.push.ensures.room, c.self.invariant.sources, spare, c.requires);
      others = omega (arith, others, stored.few, c.source_of-source.new.others.ok.0, c.self.inside.others.ok.0, c.source_of-source.ensures.room, c.self.invariant.others, spare, c.requires);
      cells = omega (arith, c.push-2.ensures.room, c.self.invariant.cells, spare, c.requires);
      fits = omega (arith, others, stored.few, c.self.invariant.fits, spare, c.requires);
    }

pub returns-clause-dones : goal.returns-clause-dones
returns-clause-dones c =
    let cells : c.push-2.new.self.cells ≡ c.self.inside.fired.cells ++ cells_of c.args.done.now.fired.outputs c.args.done.now.fired.state ∷ [] = search rules in
    ap (λ (v : RoomyTasks). dones_of v.tasks c.source_of-source.new.others.items c.push.new.self.items c.push-2.new.self.cells) c.source_of-source.ensures.claims
    ∙ dones_post c.self.inside.claims.tasks c.self.inside.others.items c.source_of-source.new.others.items c.self.inside.sources.items c.push.new.self.items c.self.inside.fired.cells c.push-2.new.self.cells c.source_of-source.result c.args.done.now
    c.self.invariant.same c.self.invariant.within c.source_of-source.ensures.stored c.push-2.ensures.eight c.push.ensures.items cells
    ∙ ap (λ (v : RoomyWork). v.dones ++ c.args.done.now ∷ []) c.self.view_is
