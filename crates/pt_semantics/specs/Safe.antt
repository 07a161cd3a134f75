-- When a unit is safe to process.
use Rattle.std.specs.Prelude.{◌≡◌, ◌<◌, Option, ◌≢◌, ◌+◌, ℕ, List, None, Some}
use Rattle.pt_tags.specs.Tags.{Before, UpTo, plus}
use Rattle.pt_tags.specs.declared.tag.Tag.{Tag}
use Rattle.pt_types.specs.declared.graph.Graph.{Graph}
use Rattle.pt_types.specs.declared.graph.Unit.{Unit}
use Rattle.pt_types.specs.declared.firing.Task.{Task}
use Rattle.pt_semantics.specs.Edges.{Edge}
use Rattle.pt_semantics.specs.Bounds.{Feeds}
use Rattle.pt_semantics.specs.Paths.{Goes}
use Rattle.pt_semantics.specs.Units.{HasEvent}
use Rattle.pt_semantics.specs.Meaning.{Values}
use Rattle.pt_semantics.specs.Ranks.{sum_along}

-- unit u is safe to process at reading r, and t is its least tag; `waits` and `busy` are the pending events and open claims
pub record IsSafe (g : Graph) (waits : Values) (busy : Unit → Option Task) (r : ℕ) (u : Unit) (t : Tag) : Type 0 where
  pub event : HasEvent g waits u t
  pub least : (w : Tag) → HasEvent g waits u w → UpTo t w
  pub free : busy u ≡ None
  -- the reading is so late that no row and no message can still lead to an event at u at t or before
  pub bounds : (x b : ℕ) (path : List Edge) → Feeds g x b path u → t.time + b < r + (sum_along path).time
  -- no event that waits elsewhere, and no open claim, leads to an event at u at t or before
  pub events : (x : Unit) (w : Tag) (path : List Edge) → x ≢ u → HasEvent g waits x w → Goes g x path u → Before t (plus w (sum_along path))
  pub claims : (x : Unit) (task : Task) (path : List Edge) → busy x ≡ Some task → Goes g x path u → Before t (plus task.tag (sum_along path))

-- no unit is safe
abbrev pub NothingSafe : Graph → Values → (Unit → Option Task) → ℕ → Type 0
NothingSafe g waits busy r = (u : Unit) (t : Tag) → IsSafe g waits busy r u t → ⊥
