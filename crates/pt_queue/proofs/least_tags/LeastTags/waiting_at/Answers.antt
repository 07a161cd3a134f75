use Rattle.std.proofs.Common.{◌<◌, length, sym, subst, arith}
use Rattle.pt_queue.proofs.least_tags.LeastTags.waiting_at.Goals as goal

pub unit_at-requires : goal.unit_at-requires
unit_at-requires c =
    let there : c.args.place < length c.self.inside.tags.items = subst (λ ts. c.args.place < length ts) (sym c.self.view_is) c.requires in
    let few = c.self.invariant.0.few in
    omega (arith, there, few)
