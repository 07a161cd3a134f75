-- Messages that may come to a platform.
use Rattle.std.specs.Prelude.{◌≡◌, ℕ, List, Some, slice_get}
use Rattle.pt_types.specs.declared.graph.Graph.{Graph}
use Rattle.pt_types.specs.declared.graph.Link.{Link}
use Rattle.pt_types.specs.declared.firing.OnLink.{OnLink}
use Rattle.pt_semantics.specs.Closing.{on_link}
use Rattle.pt_types.specs.Lookups.{platform_of}
use Rattle.pt_semantics.specs.Orderly.{IsOrderly}

-- link l leads to platform i
abbrev pub LeadsTo : Graph → ℕ → ℕ → Type 0
LeadsTo g i l = (link : Link) × (slice_get g.links l ≡ Some link) × (platform_of g link.to ≡ i)

-- a message is on such a link
abbrev pub ComesTo : Graph → ℕ → OnLink → Type 0
ComesTo g i m = LeadsTo g i m.link

-- of these messages those of each such link are orderly
abbrev pub AreOrderly : Graph → (ℕ → ℕ) → ℕ → List OnLink → Type 0
AreOrderly g level i messages = (l : ℕ) (link : Link) → slice_get g.links l ≡ Some link → platform_of g link.to ≡ i → IsOrderly g level link (on_link l messages)
