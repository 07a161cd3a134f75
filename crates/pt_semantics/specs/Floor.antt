-- The floor: no event can still come to a unit at or before a tag that it has claimed.
use Rattle.std.specs.Prelude.{◌≡◌, ◌<◌, ◌==◌, ◌&&◌, ◌∷◌, ◌≤◌, ◌≢◌, ◌++◌, ◌+◌, ◌*◌, [], ℕ, ℤ, List, None, Some, false, length, slice_get}
use Rattle.pt_tags.specs.Tags.{Before, UpTo, plus}
use Rattle.pt_tags.specs.declared.message.Message.{Message}
use Rattle.pt_tags.specs.declared.tag.Tag.{Tag}
use Rattle.pt_types.specs.declared.firing.Done.{Done}
use Rattle.pt_types.specs.declared.graph.Graph.{Graph}
use Rattle.pt_types.specs.declared.graph.Link.{Link}
use Rattle.pt_types.specs.declared.firing.OnLink.{OnLink}
use Rattle.pt_types.specs.declared.graph.Unit.{Unit}
use Rattle.pt_types.specs.declared.firing.Task.{Task}
use Rattle.pt_types.specs.Ports.{when}
use Rattle.pt_semantics.specs.Edges.{Edge, wires}
use Rattle.pt_semantics.specs.Bounds.{Feeds, link_bound}
use Rattle.pt_semantics.specs.Behaviours.{Firing, Firings, Rising}
use Rattle.pt_semantics.specs.Paths.{Goes}
use Rattle.pt_semantics.specs.Lists.{IsIn}
use Rattle.pt_semantics.specs.Taking.{IsOnTime, Takes, value_of}
use Rattle.pt_semantics.specs.Orderly.{IsOrderly}
use Rattle.pt_semantics.specs.Posting.{Posts}
use Rattle.pt_semantics.specs.Platform.{State}
use Rattle.pt_semantics.specs.Meaning.{Values, going, row_at}
use Rattle.pt_semantics.specs.Entering.{after_rows, due}
use Rattle.pt_semantics.specs.Units.{at_input, leaves_unit, unit_of}
use Rattle.pt_semantics.specs.History.{firing_by}
use Rattle.pt_semantics.specs.Ranks.{sum_along}

-- the floor under the claims: no event can still come to a unit at or before a tag that it has claimed
pub record Floor (g : Graph) (s : State) (claimed : Firings) : Type 0 where
  -- if an event waits at a unit that a path joins to u, its tag plus the path's delay is after all that u has claimed
  pub waits : (a p : ℕ) (t : Tag) (v : ℤ) (path : List Edge) (u : Unit) (x : Firing) → p < 8 → s.waits a p t ≡ Some v → Goes g (at_input g a p) path u → IsIn x (claimed u) → Before x.tag (plus t (sum_along path))
  -- the same for each open claim of another unit
  pub open_elsewhere : (w : Unit) (task : Task) (path : List Edge) (u : Unit) (x : Firing) → s.busy w ≡ Some task → w ≢ u → Goes g w path u → IsIn x (claimed u) → Before x.tag (plus task.tag (sum_along path))
  -- the open claim of u itself is the last of its claims
  pub open_here : (u : Unit) (task : Task) (x : Firing) → s.busy u ≡ Some task → IsIn x (claimed u) → UpTo x.tag task.tag
  pub open_claimed : (u : Unit) (task : Task) → s.busy u ≡ Some task → IsIn (firing_by g task) (claimed u)
  -- no sensor or receiver can still give u an event at a tag that u has claimed, or before: the last reading is too late
  pub sources : (a b : ℕ) (path : List Edge) (u : Unit) (x : Firing) → Feeds g a b path u → IsIn x (claimed u) → (r : ℕ) × (s.reading ≡ Some r) × (x.tag.time + b < r + (sum_along path).time)
  -- the tags of a unit's claims rise
  pub rises : (u : Unit) → Rising (claimed u)

-- a tag at an actor is bounded: its time by the horizon, its step by its time and the actor's level
abbrev pub IsBounded : Graph → (ℕ → ℕ) → ℕ → Tag → Type 0
IsBounded g level a t = (t.time ≤ g.until) × (t.step ≤ length g.actors * t.time + level a)

-- all pending events, open claims and past claims are bounded in this way
pub record Bounded (g : Graph) (level : ℕ → ℕ) (s : State) (claimed : Firings) : Type 0 where
  pub waits : (a p : ℕ) (t : Tag) (v : ℤ) → s.waits a p t ≡ Some v → IsBounded g level a t
  pub busy : (u : Unit) (task : Task) → s.busy u ≡ Some task → IsBounded g level u.actor task.tag
  pub claims : (u : Unit) (x : Firing) → IsIn x (claimed u) → IsBounded g level u.actor x.tag

-- no new value comes to an input that has a value of that tag
abbrev pub NothingThere : Values → Values → Type 0
NothingThere waits new = (a p : ℕ) (t : Tag) (v : ℤ) → new a p t ≡ Some v → waits a p t ≡ None

-- in the turn after this state, posted outputs, rows that enter and
-- messages on time each come to an input with no event of that tag
pub record NeverTwice (g : Graph) (level : ℕ → ℕ) (i : ℕ) (s : State) : Type 0 where
  pub posts : (ds : List Done) (mid : State) (d : Done) → Posts g s ds mid → mid.busy (unit_of g d.task) ≡ Some d.task → NothingThere mid.waits (going g (wires g) (leaves_unit g (unit_of g d.task)) d.task.tag d.fired.outputs)
  pub rows : (ds : List Done) (mid : State) (r : ℕ) → Posts g s ds mid → NothingThere mid.waits (λ a p t. when (p == 0) (row_at (due r (mid.left a)) t))
  pub messages : (ds : List Done) (mid : State) (r : ℕ) (ms : List OnLink) (got : State) (l : ℕ) (link : Link) (m : Message) → Posts g s ds mid → ((p : ℕ) → s.reading ≡ Some p → p ≤ r) → Takes g level i (after_rows mid r) ms false got → slice_get g.links l ≡ Some link → IsOrderly g level link (got.taken l ++ m ∷ []) → IsOnTime got.reading (link_bound g link) m → NothingThere got.waits (λ a p t. when (a == link.to && p == 0) (value_of t m))
