use Rattle.std.proofs.Common.{◌≡◌, ◌∙◌, ◌+◌, true, sym, ap, subst}
use Rattle.pt_types.specs.Kinds.{kind_is_lawful}
use Rattle.pt_types.proofs.LawfulActors.{any_kind}
use Rattle.pt_offsets.proofs.Small.{kind_read}
use Rattle.pt_causality.specs.Delays.{least_of}
use Rattle.pt_offsets.specs.Margins.{unit_at}
use Rattle.pt_slacks.specs.Needs.{IsMost, by_kind, by_sensor}
use Rattle.pt_slacks.proofs.Most.{most_more}
use Rattle.pt_slacks.proofs.needs.base.Goals as goal

pub by_kind-requires : goal.by_kind-requires
by_kind-requires c =
    let kind = kind_read c.args.graph.now c.as_slice-source-items.result.now c.loop-number.number c.source-item.result c.as_slice-source-items.ensures c.loop-number-test.true c.source-item.is in
    subst (λ k. kind_is_lawful k ≡ true) (sym kind) (any_kind c.args.graph.now c.loop-number.number c.requires)

pub loop-number-preserved : goal.loop-number-preserved
loop-number-preserved c =
    let g = c.args.graph.now in
    let least = least_of c.args.least.now in
    let n = c.loop-number.number in
    let kind = kind_read g c.as_slice-source-items.result.now n c.source-item.result c.as_slice-source-items.ensures c.loop-number-test.true c.source-item.is in
    let same = c.by_kind.ensures ∙ ap (λ k. by_kind k (least (unit_at n 0) (unit_at c.args.actor 0))) kind in
    subst (IsMost 0 (n + 1) (by_sensor g least c.args.actor)) (sym c.max-most.ensures) (most_more 0 n (by_sensor g least c.args.actor) c.loop-number.most c.by_kind.result c.loop-number.invariant same)
