-- Tasks in the order of the meaning, and whole firings made from them.
use Rattle.std.specs.Prelude.{◌==◌, ◌&&◌, ◌∷◌, [], if◌then◌else◌, ℕ, Bool, List}
use Rattle.pt_tags.specs.Tags.{same_tag}
use Rattle.pt_types.specs.Ports.{at_port, eight}
use Rattle.pt_types.specs.declared.firing.ActorFiring.{ActorFiring}
use Rattle.pt_types.specs.declared.firing.Task.{Task}
use Rattle.pt_types.specs.declared.graph.Graph.{Graph}
use Rattle.pt_types.specs.Lookups.{kind_of}
use Rattle.pt_semantics.specs.Firing.{fired}
use Rattle.pt_semantics.specs.Lists.{Each, or_else}
use Rattle.pt_semantics.specs.Meaning.{NotAfter}

-- tasks in the order of tag, rank and actor
abbrev pub TasksInOrder : (ℕ → ℕ) → List Task → Type 0
TasksInOrder rank [] = Unit {0}
TasksInOrder rank (x ∷ xs) = Each (λ (y : Task). NotAfter rank x.tag x.actor y.tag y.actor) xs × TasksInOrder rank xs

-- two tasks are of one actor and tag
abbrev pub is_same_firing : Task → Task → Bool
is_same_firing x y = x.actor == y.actor && same_tag x.tag y.tag

-- the first task, with the inputs of the second added
abbrev pub both : Task → Task → Task
both x y = record x { inputs = eight (λ p. or_else (at_port x.inputs p) (at_port y.inputs p)) }

-- a task in front of others, joined with the first of them if both are of one actor and tag
abbrev pub joined_in_front : Task → List Task → List Task
joined_in_front x [] = x ∷ []
joined_in_front x (y ∷ ys) = if is_same_firing x y then both x y ∷ ys else x ∷ y ∷ ys

-- the tasks, with neighbours of one actor and tag joined
abbrev pub neighbours_joined : List Task → List Task
neighbours_joined [] = []
neighbours_joined (x ∷ xs) = joined_in_front x (neighbours_joined xs)

-- a joined task as the whole firing of its actor
abbrev pub whole_firing : Graph → Task → ActorFiring
whole_firing g task = record {
  actor = task.actor;
  tag = task.tag;
  inputs = task.inputs;
  before = task.state;
  after = (fired (kind_of g task.actor) task.state task.inputs).state;
  outputs = (fired (kind_of g task.actor) task.state task.inputs).outputs;
}
