use Rattle.std.proofs.Common.{◌≡◌, ◌==◌, Some, drop}
use Rattle.pt_types.specs.declared.graph.Link.{Link}
use Rattle.pt_types.specs.Ports.{when}
use Rattle.pt_semantics.specs.Bounds.{link_bound}
use Rattle.pt_semantics.specs.Lists.{first_of}
use Rattle.pt_offsets.specs.Bounded.{received}
use Rattle.pt_offsets.proofs.bounds.received.Given as goal

abbrev pub invariant-loop-link : goal.invariant-loop-link
invariant-loop-link l = first_of (λ (k : Link). when (k.to == l.number) (Some (link_bound l.graph k))) (drop l.link-index l.graph.links) ≡ received l.graph l.number
