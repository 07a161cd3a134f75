use Rattle.std.proofs.Common.{ap, ◌∙◌}
use Rattle.std.proofs.Math.Seq.{map-set_same}
use Rattle.pt_pool.specs.LinkedPlatform.{LinkedPlatformView}
use Rattle.pt_workers.proofs.work.ended.visit_each.Goals as goal

pub loop-k-preserved : goal.loop-k-preserved
loop-k-preserved g c =
    let inv = c.loop-k.invariant in
    (map-set_same (λ (s : LinkedPlatformView). s.platform.number) c.loop-k.linked_platforms.items c.loop-k.k c.visit_one.new.linked c.index_mut-linked.result.now (c.visit_one.ensures ∙ ap (λ (s : LinkedPlatformView). s.platform.number) c.index_mut-linked.ensures.value) ∙ inv.0, inv.1)

pub returns-in_err-visit_one : goal.returns-in_err-visit_one
returns-in_err-visit_one g c =
    let inv = c.loop-k.invariant in
    (map-set_same (λ (s : LinkedPlatformView). s.platform.number) c.loop-k.linked_platforms.items c.loop-k.k c.visit_one.new.linked c.index_mut-linked.result.now (c.visit_one.ensures ∙ ap (λ (s : LinkedPlatformView). s.platform.number) c.index_mut-linked.ensures.value) ∙ inv.0, inv.1)
