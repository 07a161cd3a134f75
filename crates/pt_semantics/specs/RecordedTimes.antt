-- Recorded times that keep to the stated bounds.
use Rattle.std.specs.Prelude.{◌≡◌, ◌≤◌, ℕ, List, [], Some, slice_get, slice_index, slice_index_or}
use Rattle.std.specs.Int.{abs_diff}
use Rattle.std.specs.List.{All}
use Rattle.pt_types.specs.declared.air.Air.{Air}
use Rattle.pt_types.specs.declared.graph.Graph.{Graph}
use Rattle.pt_types.specs.declared.graph.Link.{Link}
use Rattle.pt_types.specs.Lookups.{platform_of}
use Rattle.pt_semantics.specs.Bounds.{error_of}

-- the clock error of the two platforms of a link
abbrev pub error_on : Graph → Link → ℕ
error_on g link = error_of g (platform_of g link.from) (platform_of g link.to)

-- how far apart the clocks of the two platforms of a link are, by the lags of all platforms
abbrev pub apart_on : Graph → List ℕ → Link → ℕ
apart_on g lags link = abs_diff (slice_index lags (platform_of g link.from)) (slice_index lags (platform_of g link.to))

-- each transit is at most the delay of its link, and the clocks of the two platforms of a link are within their clock error
pub record KeepsBounds (g : Graph) (air : Air) : Type 0 where
  pub transits : (l : ℕ) (link : Link) → slice_get g.links l ≡ Some link → All (λ t. t ≤ link.delay) (slice_index_or air.transits l [])
  pub lags : (l : ℕ) (link : Link) → slice_get g.links l ≡ Some link → apart_on g air.lags link ≤ error_on g link
