-- Links with what each adds to the slack of its sender.
use Rattle.std.specs.Prelude.{◌+◌, ℕ, List, slice_index_or}
use Rattle.pt_types.specs.declared.graph.Graph.{Graph}
use Rattle.pt_types.specs.declared.graph.Link.{Link}
use Rattle.pt_types.specs.Lookups.{platform_of}
use Rattle.pt_semantics.specs.Bounds.{error_of}
use Rattle.pt_slacks.specs.declared.hop.Hop.{Hop}

-- a link's delay, the clock error of its two platforms and one microsecond
abbrev pub cost_of : Graph → Link → ℕ
cost_of g l = l.delay + error_of g (platform_of g l.from) (platform_of g l.to) + 1

abbrev pub hop_of : Graph → Link → Hop
hop_of g l = record { from = l.from; to = l.to; cost = cost_of g l }

-- what a lookup gives for a number past the end of the list
abbrev pub no_hop : Hop
no_hop = record { from = 0; to = 0; cost = 0 }

abbrev pub hop_at : List Hop → ℕ → Hop
hop_at hops w = slice_index_or hops w no_hop
