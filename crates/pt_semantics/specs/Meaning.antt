-- The meaning: one global list of events; the event with the least tag always fires next (RTAS 2007).
pub use Rattle.pt_types.specs.declared.firing.ActorFiring.{ActorFiring}
use Rattle.std.specs.Prelude.{◌≡◌, ℕ, suc, ◌≤◌, ◌==◌, nat_lt, nat_le, Bool, true, not, ◌&&◌, List, [], ◌∷◌, Option, Some, None, length, filter, if◌then◌else◌, ℤ, pos}
use Rattle.pt_tags.specs.declared.tag.Tag.{Tag}
use Rattle.pt_tags.specs.Tags.{same_tag, plus}
use Rattle.pt_types.specs.declared.graph.Graph.{Graph}
use Rattle.pt_types.specs.declared.rows.Row.{Row}
use Rattle.pt_types.specs.declared.kind.Kind.{Kind}
use Rattle.pt_types.specs.declared.kind.Kind.TheVariants.{Every}
use Rattle.pt_types.specs.Ports.{when, at_port, eight}
use Rattle.pt_semantics.specs.Lists.{first_of, or_else}
use Rattle.pt_semantics.specs.Edges.{Edge, edges, first_state}
use Rattle.pt_types.specs.Lookups.{kind_of}
use Rattle.pt_semantics.specs.Firing.{fired, any_present}

-- pending values, by actor, input and tag
abbrev pub Values : Type 0
Values = ℕ → ℕ → Tag → Option ℤ

-- the tag of a row or of a starting event at this time
abbrev pub at_time : ℕ → Tag
at_time time = record { time = time; step = 0 }

-- the value of these rows at a tag, if one is at it
abbrev pub row_at : List Row → Tag → Option ℤ
row_at rows t = first_of (λ (row : Row). when (same_tag (at_time row.time) t) (Some row.value)) rows

-- the rows that take part in a run: those up to the horizon
abbrev pub rows_until : ℕ → List Row → List Row
rows_until until rows = filter (λ (row : Row). nat_le row.time until) rows

-- the starting event of an `every`
abbrev pub start_at : Graph → Kind → Tag → Option ℤ
start_at g (Every start period) t = when (nat_lt start (suc g.until) && same_tag (at_time start) t) (Some (pos 0))
start_at g _ t = None

-- the events at the start, at input 0: the rows of each sensor, and the starting events
abbrev pub opening : Graph → (ℕ → List Row) → Values
opening g rows a p t = when (p == 0) (or_else (start_at g (kind_of g a) t) (row_at (rows a) t))

-- the outputs of a firing at tag t, as events where its edges lead: at t plus the edge's weight, and none after the horizon
abbrev pub going : Graph → List Edge → (Edge → Bool) → Tag → List (Option ℤ) → Values
going g along leaves t outputs a p u = when (nat_lt u.time (suc g.until)) (first_of (λ (e : Edge). when (e.to == a && e.input == p) (when (leaves e && same_tag (plus t e.weight) u) (at_port outputs e.output))) along)

-- these values, and new ones where there was none
abbrev pub added : Values → Values → Values
added old new a p t = or_else (old a p t) (new a p t)

-- what the global list holds: pending values, and a state for each actor
pub record World : Type 0 where
  pub waits : Values
  pub states : ℕ → ℤ

-- the inputs of an actor at a tag
abbrev pub waiting : Values → ℕ → Tag → List (Option ℤ)
waiting waits a t = eight (λ p. waits a p t)

-- (t, a) isn't after (u, b) in the order of tag, rank and actor
abbrev pub NotAfter : (ℕ → ℕ) → Tag → ℕ → Tag → ℕ → Type 0
NotAfter rank t a u b = (t.time ≤ u.time) × (u.time ≤ t.time → (t.step ≤ u.step) × (u.step ≤ t.step → (rank a ≤ rank b) × (rank b ≤ rank a → a ≤ b)))

-- of all pending events those of this actor at this tag come first: by tag, then rank, then actor
abbrev pub IsFirst : (ℕ → ℕ) → Values → ℕ → Tag → Type 0
IsFirst rank waits a t = (b p : ℕ) (u : Tag) (v : ℤ) → waits b p u ≡ Some v → NotAfter rank t a u b

-- the states with the state of actor a set to q
abbrev pub put_state : (ℕ → ℤ) → ℕ → ℤ → ℕ → ℤ
put_state states a q b = if b == a then q else states b

-- the pending values without an actor's events of a tag
abbrev pub without : Values → ℕ → Tag → Values
without waits a t b p u = when (not (b == a && same_tag t u)) (waits b p u)

abbrev pub leaves_actor : ℕ → Edge → Bool
leaves_actor a e = e.from == a

-- the world after a firing: its inputs are gone, and its outputs are pending
abbrev pub after_firing : Graph → World → ActorFiring → World
after_firing g w x = record {
  waits = added (without w.waits x.actor x.tag) (going g (edges g) (leaves_actor x.actor) x.tag x.outputs);
  states = put_state w.states x.actor x.after;
}

-- x is the firing that this world makes next
pub record Fires (g : Graph) (rank : ℕ → ℕ) (w : World) (x : ActorFiring) : Type 0 where
  pub first : IsFirst rank w.waits x.actor x.tag
  pub inputs : x.inputs ≡ waiting w.waits x.actor x.tag
  pub present : any_present x.inputs ≡ true
  pub before : x.before ≡ w.states x.actor
  pub after : x.after ≡ (fired (kind_of g x.actor) x.before x.inputs).state
  pub outputs : x.outputs ≡ (fired (kind_of g x.actor) x.before x.inputs).outputs

-- these firings, one after another, lead to a world in which nothing is pending
abbrev pub Runs : Graph → (ℕ → ℕ) → World → List ActorFiring → Type 0
Runs g rank w [] = (a p : ℕ) (t : Tag) → w.waits a p t ≡ None
Runs g rank w (x ∷ xs) = Fires g rank w x × Runs g rank (after_firing g w x) xs

-- these firings, one after another, lead from world w to world v
abbrev pub Steps : Graph → (ℕ → ℕ) → World → List ActorFiring → World → Type 0
Steps g rank w [] v = w ≡ v
Steps g rank w (x ∷ xs) v = Fires g rank w x × Steps g rank (after_firing g w x) xs v

abbrev pub at_start : Graph → (ℕ → List Row) → World
at_start g rows = record { waits = opening g rows; states = λ a. first_state (kind_of g a) }

-- the firings are the meaning of a graph with these ranks, for these rows
abbrev pub IsMeaning : Graph → (ℕ → ℕ) → (ℕ → List Row) → List ActorFiring → Type 0
IsMeaning g rank rows xs = Runs g rank (at_start g rows) xs

-- the meaning has more than `most` firings: after `most` firings something is still pending
pub record IsLonger (g : Graph) (rank : ℕ → ℕ) (rows : ℕ → List Row) (most : ℕ) : Type 0 where
  pub firings : List ActorFiring
  pub count : length firings ≡ most
  pub world : World
  pub steps : Steps g rank (at_start g rows) firings world
  pub more : (a p : ℕ) × (t : Tag) × (v : ℤ) × (world.waits a p t ≡ Some v)
