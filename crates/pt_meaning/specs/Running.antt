-- The program's view of the global list, and the graphs that it can run.
use Rattle.std.specs.Prelude.{◌≡◌, ℕ, ◌<◌, ◌≤◌, ◌^◌, true, List, Option, length, slice_index_or, ℤ, pos}
use Rattle.std.specs.List.{list_all}
use Rattle.pt_types.specs.declared.graph.Graph.{Graph}
use Rattle.pt_types.specs.declared.graph.Actor.{Actor}
use Rattle.pt_types.specs.Kinds.{kind_is_lawful}
use Rattle.pt_tags.specs.declared.tag.Tag.{Tag}
use Rattle.pt_semantics.specs.Lists.{Each}
use Rattle.pt_semantics.specs.Firing.{fired}
use Rattle.pt_semantics.specs.Edges.{edges, first_state}
use Rattle.pt_types.specs.Lookups.{kind_of}
use Rattle.pt_types.specs.declared.rows.Row.{Row}
use Rattle.pt_semantics.specs.Meaning.{World, ActorFiring, IsMeaning}
use Rattle.pt_meaning.specs.declared.world.WaitingEvents.{WaitingEvents}
use Rattle.pt_meaning.specs.Both.{all_waits}
use Rattle.pt_meaning.specs.Waiting.{rank_in}
use Rattle.pt_meaning.specs.Emission.{IsUsable}

-- the state of each actor, from a list of states
abbrev pub states_from : List ℤ → ℕ → ℤ
states_from states a = slice_index_or states a (pos 0)

-- the world represented by the events that wait and a list of states
abbrev pub world_in : List ℕ → WaitingEvents → List ℤ → World
world_in ranks waiting states = record { waits = all_waits (rank_in ranks) waiting; states = states_from states }

-- a graph with fewer than 2^32 actors, lawful kinds, and edges that lead to its actors' ports
pub record IsRunnable (g : Graph) : Type 0 where
  pub few : length g.actors < 2 ^ 32
  pub kinds : list_all (λ (a : Actor). kind_is_lawful a.kind) g.actors ≡ true
  pub edges : Each (IsUsable (length g.actors)) (edges g)

-- the state of an actor at the start
unfoldable pub state_at_start : Actor → ℤ
state_at_start a = first_state a.kind

-- the firing of an actor at a tag, in these states and with these inputs
abbrev pub actor_firing : Graph → (ℕ → ℤ) → ℕ → Tag → List (Option ℤ) → ActorFiring
actor_firing g states a t inputs = record {
  actor = a;
  tag = t;
  inputs = inputs;
  before = states a;
  after = (fired (kind_of g a) (states a) inputs).state;
  outputs = (fired (kind_of g a) (states a) inputs).outputs;
}

-- firings that are the meaning of a graph with these rows, at most that many, are those that were taken
pub record Handed (g : Graph) (rank : ℕ → ℕ) (rows : ℕ → List Row) (most : ℕ) (Took : List ActorFiring → Type 0) : Type 0 where
  pub firings : List ActorFiring
  pub meaning : IsMeaning g rank rows firings
  pub few : length firings ≤ most
  pub took : Took firings
