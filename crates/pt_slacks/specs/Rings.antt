-- Rings of senders, in which each needs a greater slack than the one before it.
use Rattle.std.specs.Prelude.{◌≡◌, ◌+◌, ◌+ℤ◌, ◌-ℤ◌, ◌<◌, ◌≤◌, ◌∷◌, [], ℕ, ℤ, pos, List, Some, slice_get}
use Rattle.pt_tags.specs.declared.tag.Delay.{Delay}
use Rattle.pt_types.specs.declared.graph.Graph.{Graph}
use Rattle.pt_types.specs.declared.graph.Link.{Link}
use Rattle.pt_types.specs.declared.kind.Kind.TheVariants.{Send}
use Rattle.pt_types.specs.Lawful.{IsLawful}
use Rattle.pt_types.specs.Lookups.{kind_of, platform_of}
use Rattle.pt_semantics.specs.Bounds.{error_of}
use Rattle.pt_semantics.specs.Lists.{Each}
use Rattle.pt_semantics.specs.Paths.{IsLeast}
use Rattle.pt_causality.specs.Ranking.{Apart}
use Rattle.pt_offsets.specs.Margins.{unit_at}
use Rattle.pt_slacks.specs.declared.slack.SlackFault.{SlackFault}
use Rattle.pt_slacks.specs.Slacks.{Admits}
use Rattle.pt_slacks.specs.declared.slack.SlackFault.TheVariants.{Memory, Ring}

-- the link from sender w leads to a receiver that reaches sender v, and v needs at least the slack of w plus n, where n is
-- the link's delay, the clock error of its two platforms and one microsecond, minus the time from the receiver to v
pub record Gains (g : Graph) (w v : ℕ) (n : ℤ) : Type 0 where
  pub number : ℕ
  pub link : Link
  pub at : slice_get g.links number ≡ Some link
  pub from : link.from ≡ w
  pub own : ℕ
  pub sends : kind_of g v ≡ Send own
  pub delay : Delay
  pub least : IsLeast g (unit_at link.to 0) (unit_at v 0) delay
  pub is : n ≡ pos (link.delay + error_of g (platform_of g link.from) (platform_of g link.to) + 1) -ℤ pos delay.time

-- n is the sum of the gains from sender w by these senders to sender v
abbrev pub GainsAlong : Graph → ℕ → List ℕ → ℕ → ℤ → Type 0
GainsAlong g w [] v n = Gains g w v n
GainsAlong g w (x ∷ xs) v n = (first : ℤ) × (others : ℤ) × Gains g w x first × GainsAlong g x xs v others × (n ≡ first +ℤ others)

-- different senders, the one with the least number first; each gains to the next and the last to the first, gain in all,
-- which is more than 0
pub record IsRing (g : Graph) (sends : List ℕ) (gain : ℕ) : Type 0 where
  pub head : ℕ
  pub others : List ℕ
  pub are : sends ≡ head ∷ others
  pub differ : Apart sends
  pub first : Each (λ (v : ℕ). head ≤ v) sends
  pub round : GainsAlong g head others head (pos gain)
  pub gains : 0 < gain

-- why a graph has no slacks with which it can run: the ring of the fault is one; of memory the definition says nothing
abbrev pub CauseOfSlacks : SlackFault → Graph → Type 0
CauseOfSlacks Memory g = Unit {0}
CauseOfSlacks (Ring sends gain) g = IsRing g sends gain

-- whatever its slacks, a graph with a ring has a sender that can't send in time
abbrev pub RingsAdmitNothing : Type 0
RingsAdmitNothing = (g : Graph) (sends : List ℕ) (gain : ℕ) (slack : ℕ → ℕ) → IsLawful g → IsRing g sends gain → Admits g slack → ⊥
