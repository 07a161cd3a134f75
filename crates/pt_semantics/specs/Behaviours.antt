-- A behaviour: what each unit of the graph does at each tag, given what the others do.
use Rattle.std.specs.Prelude.{◌≡◌, ◌==◌, ◌&&◌, if◌then◌else◌, ◌∷◌, [], ℕ, ℤ, List, Option, Some, nat_lt, suc, ⊤}
use Rattle.pt_tags.specs.Tags.{Before, plus, same_tag, tag_lt}
use Rattle.pt_tags.specs.declared.tag.Tag.{Tag}
use Rattle.pt_types.specs.declared.graph.Graph.{Graph}
use Rattle.pt_types.specs.declared.kind.Kind.{Kind}
use Rattle.pt_types.specs.declared.graph.Unit.{Unit}
use Rattle.pt_types.specs.Ports.{at_port, when}
use Rattle.pt_semantics.specs.Lists.{Each, IsIn, first_of, or_else}
use Rattle.pt_semantics.specs.Edges.{Edge, edges, first_state}
use Rattle.pt_types.specs.Lookups.{kind_of}
use Rattle.pt_semantics.specs.Meaning.{Values}
use Rattle.pt_semantics.specs.Firing.{any_present, fired}
use Rattle.pt_semantics.specs.Units.{source, target, unit_inputs}

-- one firing of a unit
pub record Firing : Type 0 where
  pub tag : Tag
  pub inputs : List (Option ℤ)
  pub before : ℤ
  pub after : ℤ
  pub outputs : List (Option ℤ)

-- the firings of each unit, in order
abbrev pub Firings : Type 0
Firings = Unit → List Firing

-- the tags of a list of firings rise
abbrev pub Rising : List Firing → Type 0
Rising [] = ⊤
Rising (x ∷ xs) = Each (λ (y : Firing). Before x.tag y.tag) xs × Rising xs

-- the firing at a tag, if there is one
abbrev pub firing_at : List Firing → Tag → Option Firing
firing_at xs t = first_of (λ (x : Firing). when (same_tag x.tag t) (Some x)) xs

-- the state after the last firing before a tag; q if there is none
abbrev pub state_before : ℤ → List Firing → Tag → ℤ
state_before q [] t = q
state_before q (x ∷ xs) t = if tag_lt x.tag t then state_before x.after xs t else q

-- the value that comes along an edge at a tag: from the source's firing whose tag plus the weight is this tag
abbrev pub comes_along : Firings → Graph → Edge → Tag → Option ℤ
comes_along f g e t = first_of (λ (x : Firing). when (same_tag (plus x.tag e.weight) t) (at_port x.outputs e.output)) (f (source g e))

-- the value that comes to an input at a tag: a row or a starting event, or else what comes along the edge that leads there.
-- Nothing comes after the horizon
abbrev pub comes : Graph → Values → Firings → ℕ → ℕ → Tag → Option ℤ
comes g given f a p t = when (nat_lt t.time (suc g.until)) (or_else (given a p t) (first_of (λ (e : Edge). when (e.to == a && e.input == p) (comes_along f g e t)) (edges g)))

-- a unit fires if one of its inputs is present
abbrev pub firing_of : Kind → Tag → ℤ → List (Option ℤ) → Option Firing
firing_of kind t q inputs = when (any_present inputs) (Some (record { tag = t; inputs = inputs; before = q; after = (fired kind q inputs).state; outputs = (fired kind q inputs).outputs }))

-- what a unit does at a tag, given what the others did and what it did before
abbrev pub reaction : Graph → Values → Firings → Unit → Tag → Option Firing
reaction g given f u t = firing_of (kind_of g u.actor) t (state_before (first_state (kind_of g u.actor)) (f u) t) (unit_inputs g (comes g given f) u t)

-- f is a behaviour on D: at each unit and tag where D holds, the unit fires exactly as its inputs require
pub record Behaves (g : Graph) (given : Values) (D : Unit → Tag → Type 0) (f : Firings) : Type 0 where
  pub rising : (u : Unit) → Rising (f u)
  pub reacts : (u : Unit) (t : Tag) → D u t → firing_at (f u) t ≡ reaction g given f u t

-- D is closed: if it holds at a unit and tag, it holds at the unit's
-- earlier tags, and at each unit and tag from which an edge leads there
pub record IsClosed (g : Graph) (D : Unit → Tag → Type 0) : Type 0 where
  pub earlier : (u : Unit) (s t : Tag) → Before s t → D u t → D u s
  pub sources : (e : Edge) (s : Tag) → IsIn e (edges g) → D (target g e) (plus s e.weight) → D (source g e) s

-- the domain of all units and tags
abbrev pub Everywhere : Unit → Tag → Type 0
Everywhere u t = ⊤
