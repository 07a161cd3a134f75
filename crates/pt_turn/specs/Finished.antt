-- Whether the incoming links of a platform have ended.
use Rattle.std.specs.Prelude.{◌≡◌, ℕ, Bool, true, false, List, Some, slice_get, slice_index_or}
use Rattle.pt_types.specs.declared.graph.Graph.{Graph}
use Rattle.pt_types.specs.declared.graph.Link.{Link}
use Rattle.pt_types.specs.Lookups.{platform_of}

-- by these flags of the links, End was taken on each link that leads to platform i
abbrev pub HaveEnded : Graph → ℕ → List Bool → Type 0
HaveEnded g i ends = (l : ℕ) (link : Link) → slice_get g.links l ≡ Some link → platform_of g link.to ≡ i → slice_index_or ends l false ≡ true
