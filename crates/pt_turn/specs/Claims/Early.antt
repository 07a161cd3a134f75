-- When units are due, and words of units of which none is due for long.
use Rattle.std.specs.Prelude.{◌≡◌, ℕ, ◌+◌, ◌/◌, ◌<◌, List, Some}
use Rattle.pt_tags.specs.declared.tag.Tag.{Tag}
use Rattle.pt_types.specs.declared.graph.Graph.{Graph}
use Rattle.pt_types.specs.declared.graph.Unit.{Unit}
use Rattle.pt_semantics.specs.Bounds.{Feeds}
use Rattle.pt_semantics.specs.Edges.{Edge}
use Rattle.pt_semantics.specs.Meaning.{Values}
use Rattle.pt_semantics.specs.Ranks.{sum_along}
use Rattle.pt_semantics.specs.Units.{HasEvent}
use Rattle.pt_queue.specs.Events.{unit_place, IsLeastTag}

-- the reading is so late that no row and no message can still lead to an event at unit u at t or before
abbrev pub IsDueAt : Graph → ℕ → Unit → Tag → Type 0
IsDueAt g r u t = (x b : ℕ) (path : List Edge) → Feeds g x b path u → t.time + b < r + (sum_along path).time

-- if unit u isn't due at t and reading r, it isn't due at a reading below n
abbrev pub IsDueAfter : Graph → ℕ → ℕ → Unit → Tag → Type 0
IsDueAfter g r n u t = (IsDueAt g r u t → ⊥) → (q : ℕ) → q < n → IsDueAt g q u t → ⊥

-- no unit that isn't due at its least tag at r is due at a reading below n
abbrev pub NoneDueBefore : Graph → Values → ℕ → ℕ → Type 0
NoneDueBefore g waits r n = (u : Unit) (t : Tag) → IsLeastTag g waits u (Some t) → IsDueAfter g r n u t

-- no event of a unit with its place in this word of 64 places is due at r
abbrev pub IsEarlyWord : Graph → Values → ℕ → ℕ → Type 0
IsEarlyWord g waits r word = (u : Unit) (t : Tag) → HasEvent g waits u t → unit_place u / 64 ≡ word → IsDueAt g r u t → ⊥
