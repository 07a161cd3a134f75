-- Platforms whose clocks read differently, within the stated clock errors.
use Rattle.std.specs.Prelude.{◌≡◌, ◌≤◌, ◌+◌, ℕ, ℤ, Bool, Option, Some, slice_get}
use Rattle.pt_tags.specs.declared.tag.Tag.{Tag}
use Rattle.pt_types.specs.declared.graph.Graph.{Graph}
use Rattle.pt_types.specs.declared.graph.Link.{Link}
use Rattle.pt_types.specs.declared.graph.Unit.{Unit}
use Rattle.pt_types.specs.Lookups.{platform_of}
use Rattle.pt_semantics.specs.Behaviours.{IsClosed}
use Rattle.pt_semantics.specs.Bounds.{error_of}
use Rattle.pt_semantics.specs.Offsets.{HasOffset, IsFeasible}
use Rattle.pt_semantics.specs.Paced.{paced_test}
use Rattle.pt_semantics.specs.Settled.{Passes}
use Rattle.pt_semantics.specs.Wired.{IsWired}

-- these readings, one for each platform, are near one another: a link's receiver isn't ahead of its sender by more than their clock error
abbrev pub AreNear : Graph → (ℕ → ℕ) → Type 0
AreNear g c = (l : ℕ) (link : Link) → slice_get g.links l ≡ Some link → c (platform_of g link.to) ≤ c (platform_of g link.from) + error_of g (platform_of g link.from) (platform_of g link.to)

-- the paced reading of unit u at tag t is at most the reading of its platform
abbrev pub near_test : Graph → (Unit → Option ℤ) → (ℕ → ℕ) → Unit → Tag → Bool
near_test g offset c u t = paced_test offset (c (platform_of g u.actor)) u t

-- in a graph that is admitted, what has its paced reading by then depends on nothing whose paced reading is later there
abbrev pub NearIsClosed : Type 0
NearIsClosed = (g : Graph) (offset : Unit → Option ℤ) (c : ℕ → ℕ) → IsWired g → IsFeasible g → ((u : Unit) → HasOffset g u (offset u)) → AreNear g c → IsClosed g (Passes (near_test g offset c))
