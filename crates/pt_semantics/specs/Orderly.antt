-- Which lists of messages a link may carry.
use Rattle.std.specs.Prelude.{◌∷◌, ◌≤◌, ◌+◌, ◌*◌, [], ℕ, List, length}
use Rattle.pt_tags.specs.Tags.{Before}
use Rattle.pt_tags.specs.declared.message.Message.TheVariants.{Event, End}
use Rattle.pt_tags.specs.declared.message.Message.{Message}
use Rattle.pt_types.specs.declared.graph.Graph.{Graph}
use Rattle.pt_types.specs.declared.graph.Link.{Link}
use Rattle.pt_semantics.specs.Lists.{Each}

-- a message for an actor of this level, in a graph of n actors: it isn't after the horizon, and its step is bounded
abbrev pub FitsStep : ℕ → ℕ → ℕ → Message → Type 0
FitsStep until n level (Event t v) = (t.time ≤ until) × (t.step ≤ n * t.time + level)
FitsStep until n level End = Unit {0}

-- the second message may come after the first: its tag is later, or it is `End`; nothing comes after `End`
abbrev pub ComesAfter : Message → Message → Type 0
ComesAfter (Event t v) (Event u w) = Before t u
ComesAfter (Event t v) End = Unit {0}
ComesAfter End m = ⊥

-- each message may come after all messages before it
abbrev pub InOrder : List Message → Type 0
InOrder [] = Unit {0}
InOrder (m ∷ ms) = Each (ComesAfter m) ms × InOrder ms

-- the messages of a link are orderly: in order, and each within the horizon and the bound of steps
abbrev pub IsOrderly : Graph → (ℕ → ℕ) → Link → List Message → Type 0
IsOrderly g level link ms = InOrder ms × Each (FitsStep g.until (length g.actors) (level link.to)) ms
