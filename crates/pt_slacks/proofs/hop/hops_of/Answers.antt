use Rattle.std.proofs.Common.{◌<◌, ◌^◌, get_or, subst, arith}
use Rattle.pt_semantics.specs.Lists.{IsIn}
use Rattle.pt_offsets.proofs.Small.{in_get}
use Rattle.pt_slacks.specs.Hops.{cost_of}
use Rattle.pt_slacks.proofs.Costs.{cost_small, no_link}
use Rattle.pt_slacks.proofs.hop.hops_of.Goals as goal

pub hop_of-requires : goal.hop_of-requires
hop_of-requires c =
    let links = c.as_slice-link-items.result.now in
    let link = get_or links c.loop-link.link-index no_link in
    let among : IsIn link c.args.graph.now.links = subst (IsIn link) c.as_slice-link-items.ensures (in_get links c.loop-link.link-index no_link c.loop-link-test.true) in
    let small : cost_of c.args.graph.now link < 2 ^ 52 = cost_small c.args.graph.now link c.requires.lawful among in
    record { small = omega (arith, small) }
