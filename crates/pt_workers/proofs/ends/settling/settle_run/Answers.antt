use Rattle.std.proofs.Common.{◌≡◌, List, length, sym, ap, subst, ◌∙◌}
use Rattle.pt_types.specs.declared.graph.Graph.{Graph}
use Rattle.pt_types.specs.declared.graph.Link.{Link}
use Rattle.pt_semantics.specs.Linked.{AreMatched}
use Rattle.pt_semantics.proofs.LawfulEdges.{wired}
use Rattle.pt_turn.specs.All.{histories_of}
use Rattle.pt_turn.specs.Platforms.{PlatformView}
use Rattle.pt_pool.specs.Ends.{leaves, receiving_platform}
use Rattle.pt_pool.specs.LinkedPlatform.{plan_graph}
use Rattle.pt_workers.specs.LinkEnds.Settled.{AreReturned, IsSentBy, IsTakenBy}
use Rattle.pt_workers.proofs.LinkEnds.Whole.{matched, of_one_link}
use Rattle.pt_workers.proofs.ends.settling.settle_run.Goals as goal

pub settle_all-requires-clause-ends : goal.settle_all-requires-clause-ends
settle_all-requires-clause-ends g c =
    let r = c.in_ok-platforms.ensures in
    let h = c.args.plan.now.graph in
    let same : plan_graph g.J.Run.plan ≡ h = ap plan_graph c.requires.plan in
    of_one_link h g.J.Run.link c.args.linked_platforms.items c.in_ok-platforms.field-0.outlets.items c.in_ok-platforms.field-0.inlets.items c.requires.order c.requires.count (wired h c.graph.ensures.admitted.lawful)
    (subst (λ (z : Graph). AreReturned z leaves (IsSentBy g.J.Run.link) 0 c.args.linked_platforms.items c.in_ok-platforms.field-0.outlets.items) same r.outlets)
    (subst (λ (z : Graph). AreReturned z receiving_platform (IsTakenBy g.J.Run.link) 0 c.args.linked_platforms.items c.in_ok-platforms.field-0.inlets.items) same r.inlets)
    (sym c.in_ok-platforms.field-0.outlets.ok.0 ∙ r.count.0 ∙ ap (λ (xs : List Link). length xs) c.as_slice-links.ensures ∙ ap (λ (z : Graph). length z.links) c.graph.ensures.value)

pub returns-clause-matched : goal.returns-clause-matched
returns-clause-matched g c =
    let r = c.in_ok-platforms.ensures in
    let h = c.args.plan.now.graph in
    let same : plan_graph g.J.Run.plan ≡ h = ap plan_graph c.requires.plan in
    subst (λ (ps : List PlatformView). AreMatched h (histories_of ps)) (sym r.platforms)
    (matched h g.J.Run.link c.args.linked_platforms.items c.in_ok-platforms.field-0.outlets.items c.in_ok-platforms.field-0.inlets.items c.requires.order c.requires.count (wired h c.graph.ensures.admitted.lawful)
    (subst (λ (z : Graph). AreReturned z leaves (IsSentBy g.J.Run.link) 0 c.args.linked_platforms.items c.in_ok-platforms.field-0.outlets.items) same r.outlets)
    (subst (λ (z : Graph). AreReturned z receiving_platform (IsTakenBy g.J.Run.link) 0 c.args.linked_platforms.items c.in_ok-platforms.field-0.inlets.items) same r.inlets)
    c.settle_all.ensures)
