-- The bounds of a graph as a list, and the offset of a unit for one source.
use Rattle.std.specs.Prelude.{◌≡◌, ◌==◌, ◌<◌, ◌^◌, ◌-ℤ◌, ℕ, ℤ, pos, List, None, Option, Some, length, slice_index_or}
use Rattle.pt_tags.specs.declared.tag.Delay.{Delay}
use Rattle.pt_types.specs.declared.graph.Graph.{Graph}
use Rattle.pt_types.specs.declared.graph.Link.{Link}
use Rattle.pt_types.specs.declared.graph.Unit.{Unit}
use Rattle.pt_types.specs.Ports.{when}
use Rattle.pt_semantics.specs.Bounds.{bound_of, link_bound}
use Rattle.pt_semantics.specs.Lists.{first_of}
use Rattle.pt_offsets.specs.Margins.{unit_at}

-- the bound of a receiver, from the first link to it
abbrev pub received : Graph → ℕ → Option ℕ
received g a = first_of (λ (l : Link). when (l.to == a) (Some (link_bound g l))) g.links

-- the bound of an actor in a list; none past its end
abbrev pub bound_at : List (Option ℕ) → ℕ → Option ℕ
bound_at bounds a = slice_index_or bounds a None

-- these are the bounds of all actors
pub record AreBounds (g : Graph) (bounds : List (Option ℕ)) : Type 0 where
  pub len : length bounds ≡ length g.actors
  pub each : (a : ℕ) → bound_at bounds a ≡ bound_of g a

-- bounds are small enough to subtract delays as 64-bit numbers
abbrev pub AreModest : List (Option ℕ) → Type 0
AreModest bounds = (a b : ℕ) → bound_at bounds a ≡ Some b → b < 2 ^ 62

-- the offset of a unit for one source: the bound minus the delay, if there are both
abbrev pub offset_by : Option ℕ → Option Delay → Option ℤ
offset_by (Some bound) (Some delay) = Some (pos bound -ℤ pos delay.time)
offset_by _ _ = None

-- the offset of unit u for the source a
abbrev pub offset_from : List (Option ℕ) → (Unit → Unit → Option Delay) → Unit → ℕ → Option ℤ
offset_from bounds least u a = offset_by (bound_at bounds a) (least (unit_at a 0) u)
