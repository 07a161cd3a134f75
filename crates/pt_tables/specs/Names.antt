-- The names at the two ends of a link; empty if there is no such link. And names that are short.
use Rattle.std.specs.Prelude.{◌≤◌, ℕ, List, [], None, Option, Some, length}
use Rattle.pt_types.specs.declared.graph.Graph.{Graph}
use Rattle.pt_types.specs.declared.graph.Link.{Link}
use Rattle.pt_types.specs.Lookups.{actor_name, platform_name}

-- the name of the actor that a link leads to
abbrev pub receiver_name : Graph → Option Link → List ℕ
receiver_name g None = []
receiver_name g (Some link) = actor_name g link.to

-- the name of the actor that a link leads from
abbrev pub sender_name : Graph → Option Link → List ℕ
sender_name g None = []
sender_name g (Some link) = actor_name g link.from

-- names have at most 32 bytes, as in each lawful graph: they leave room for the numbers in their lines
pub record HasShortNames (g : Graph) : Type 0 where
  pub platforms : (platform : ℕ) → length (platform_name g platform) ≤ 32
  pub actors : (actor : ℕ) → length (actor_name g actor) ≤ 32
