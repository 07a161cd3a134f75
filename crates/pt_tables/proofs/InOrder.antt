-- The lines of platforms of one graph, in the order of their numbers.
use Rattle.std.proofs.Common.{◌≡◌, ℕ, suc, ◌+◌, List, [], ◌∷◌, ◌++◌, Some, slice_get, refl, ap₂, arith}
use Rattle.std.specs.Prelude.{flat_map}
use Rattle.pt_types.specs.declared.graph.Graph.{Graph}
use Rattle.pt_turn.specs.Platforms.{PlatformView}
use Rattle.pt_tables.specs.Log.{history_lines, lines_from}
use Rattle.pt_tables.specs.Platforms.{AreInOrder, histories, platform_lines}

lines_after : (g : Graph) (p : ℕ) (platforms : List PlatformView) → ((i : ℕ) (v : PlatformView) → slice_get platforms i ≡ Some v → v.plan.graph ≡ g)
    → ((i : ℕ) (v : PlatformView) → slice_get platforms i ≡ Some v → v.number ≡ p + i) → flat_map platform_lines platforms ≡ lines_from g p (histories platforms)
lines_after g p [] graphs numbers = refl
lines_after g p (v ∷ platforms) graphs numbers =
    let here : v.number ≡ p = omega (arith, numbers 0 v refl) in
    ap₂ (λ lines more. lines ++ more)
    (ap₂ (λ graph n. history_lines graph n v.turns) (graphs 0 v refl) here)
    (lines_after g (p + 1) platforms (λ i w at. graphs (suc i) w at) (λ i w at. omega (arith, numbers (suc i) w at)))

pub in_order : (g : Graph) (platforms : List PlatformView) → AreInOrder g platforms → flat_map platform_lines platforms ≡ lines_from g 0 (histories platforms)
in_order g platforms are = lines_after g 0 platforms are.graphs (λ i v at. omega (arith, are.numbers i v at))
