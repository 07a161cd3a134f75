-- Where histories are settled: parts of a run in which nothing more can happen, finished or not.
use Rattle.std.specs.Prelude.{◌≡◌, ◌<◌, ◌++◌, ℕ, ℤ, Bool, List, None, Some, slice_get, true}
use Rattle.pt_tags.specs.declared.message.Message.TheVariants.{Event}
use Rattle.pt_tags.specs.declared.message.Message.{Message}
use Rattle.pt_tags.specs.declared.tag.Tag.{Tag}
use Rattle.pt_tags.specs.Tags.{plus}
use Rattle.pt_types.specs.declared.graph.Graph.{Graph}
use Rattle.pt_types.specs.declared.graph.Link.{Link}
use Rattle.pt_types.specs.declared.graph.Unit.{Unit}
use Rattle.pt_types.specs.declared.rows.Row.{Row}
use Rattle.pt_types.specs.declared.firing.Task.{Task}
use Rattle.pt_semantics.specs.Edges.{Edge, edges}
use Rattle.pt_types.specs.Lookups.{platform_of}
use Rattle.pt_semantics.specs.Lists.{IsIn}
use Rattle.pt_semantics.specs.Platform.{State}
use Rattle.pt_semantics.specs.Turn.{Turn}
use Rattle.pt_semantics.specs.Linked.{all_sent, all_taken}
use Rattle.pt_semantics.specs.Units.{at_input, source, target}
use Rattle.pt_semantics.specs.Meaning.{at_time}

-- on D a platform has nothing more to do: no event is pending
-- there, no open claim leads there, and no row is left for there
pub record IsSettled (g : Graph) (D : Unit → Tag → Type 0) (s : State) : Type 0 where
  pub waits : (a p : ℕ) (t : Tag) → p < 8 → D (at_input g a p) t → s.waits a p t ≡ None
  pub busy : (e : Edge) (task : Task) → IsIn e (edges g) → s.busy (source g e) ≡ Some task → D (target g e) (plus task.tag e.weight) → ⊥
  pub left : (a : ℕ) (row : Row) → IsIn row (s.left a) → D (at_input g a 0) (at_time row.time) → ⊥

-- and no event for D is on its way on a link or in an outbox
abbrev pub AreCaughtUp : Graph → (Unit → Tag → Type 0) → (ℕ → List Turn) → (ℕ → State) → Type 0
AreCaughtUp g D histories ends = (l : ℕ) (link : Link) → slice_get g.links l ≡ Some link →
    (rest : List Message) × (all_sent l (histories (platform_of g link.from)) ++ (ends (platform_of g link.from)).outbox l ≡ all_taken l (histories (platform_of g link.to)) ++ rest)
    × ((t : Tag) (v : ℤ) → IsIn (Event t v) rest → D (at_input g link.to 0) t → ⊥)

-- the domain of units and tags for which a test is true
abbrev pub Passes : (Unit → Tag → Bool) → Unit → Tag → Type 0
Passes test u t = test u t ≡ true
