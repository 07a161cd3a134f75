-- The log of platforms.
use Rattle.std.specs.Prelude.{◌≡◌, ℕ, List, Some, map, slice_get}
use Rattle.pt_types.specs.declared.graph.Graph.{Graph}
use Rattle.pt_semantics.specs.Turn.{Turn}
use Rattle.pt_turn.specs.Platforms.{PlatformView}
use Rattle.pt_tables.specs.Log.{history_lines}

-- the lines of all recorded turns of a platform, with the graph of its plan
abbrev pub platform_lines : PlatformView → List ℕ
platform_lines v = history_lines v.plan.graph v.number v.turns

-- the histories of platforms, in order
abbrev pub histories : List PlatformView → List (List Turn)
histories platforms = map (λ (v : PlatformView). v.turns) platforms

-- these are platforms of one graph, in the order of their numbers from 0
pub record AreInOrder (g : Graph) (platforms : List PlatformView) : Type 0 where
  pub graphs : (i : ℕ) (v : PlatformView) → slice_get platforms i ≡ Some v → v.plan.graph ≡ g
  pub numbers : (i : ℕ) (v : PlatformView) → slice_get platforms i ≡ Some v → v.number ≡ i
