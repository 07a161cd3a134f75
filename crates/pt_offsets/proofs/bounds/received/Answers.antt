use Rattle.std.proofs.Common.{◌≡◌, ◌==◌, ◌≤◌, ◌+◌, Some, subst, ◌∙◌, arith, get_or, drop}
use Rattle.pt_types.specs.declared.graph.Link.{Link}
use Rattle.pt_types.specs.Ports.{when}
use Rattle.pt_semantics.specs.Bounds.{link_bound}
use Rattle.pt_semantics.specs.Lists.{IsIn, first_of}
use Rattle.pt_offsets.proofs.Small.{first_of_skip, in_get, link_bound_small, when_other}
use Rattle.pt_offsets.proofs.bounds.received.Goals as goal

abbrev no_link : Link
no_link = record { from = 0; to = 0; delay = 0 }

pub link_bound-requires : goal.link_bound-requires
link_bound-requires c =
    let links = c.as_slice-link-items.result.now in
    let link = get_or links c.loop-link.link-index no_link in
    let among : IsIn link c.args.graph.now.links = subst (IsIn link) c.as_slice-link-items.ensures (in_get links c.loop-link.link-index no_link c.loop-link-test.true) in
    let small : link_bound c.args.graph.now link ≤ 3000000000000000 = link_bound_small c.args.graph.now link c.requires among in
    omega (arith, small)

pub loop-link-preserved : goal.loop-link-preserved
loop-link-preserved c =
    let links = c.as_slice-link-items.result.now in
    let link = get_or links c.loop-link.link-index no_link in
    let by = λ (k : Link). when (k.to == c.args.number) (Some (link_bound c.args.graph.now k)) in
    let skip = first_of_skip by links c.loop-link.link-index no_link c.loop-link-test.true (when_other link.to c.args.number (Some (link_bound c.args.graph.now link)) c.if-link-number.false) in
    subst (λ ls. first_of by (drop (c.loop-link.link-index + 1) ls) ≡ first_of by (drop c.loop-link.link-index ls)) c.as_slice-link-items.ensures skip ∙ c.loop-link.invariant
