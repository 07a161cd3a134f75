-- The number of unit firings of a platform.
use Rattle.std.specs.Prelude.{ℕ, zero, suc, ◌+◌, ◌==◌, if◌then◌else◌, length}
use Rattle.pt_types.specs.declared.graph.Graph.{Graph}
use Rattle.pt_types.specs.Lookups.{kind_of, platform_of}
use Rattle.pt_semantics.specs.Units.{groups}
use Rattle.pt_semantics.specs.Behaviours.{Firings}

-- the sum of f over the numbers below n
abbrev pub sum_below : (ℕ → ℕ) → ℕ → ℕ
sum_below f zero = 0
sum_below f (suc n) = f n + sum_below f n

-- the number of firings of all units of an actor
abbrev pub actor_firings : Graph → Firings → ℕ → ℕ
actor_firings g f a = sum_below (λ k. length (f (record { actor = a; group = k }))) (groups (kind_of g a))

-- the number of firings of all units on platform i
abbrev pub unit_firings : Graph → ℕ → Firings → ℕ
unit_firings g i f = sum_below (λ a. if platform_of g a == i then actor_firings g f a else 0) (length g.actors)
