-- Slacks with which a graph can run, and the least of them.
use Rattle.std.specs.Prelude.{◌≡◌, ◌+ℤ◌, ◌≤◌, ◌∷◌, [], ℕ, ℤ, pos, List, None, Option, Some, suc}
use Rattle.pt_types.specs.declared.graph.Graph.{Graph}
use Rattle.pt_types.specs.declared.graph.Actor.{Actor}
use Rattle.pt_types.specs.declared.kind.Kind.{Kind}
use Rattle.pt_types.specs.declared.kind.Kind.TheVariants.{Actuator, Send}
use Rattle.pt_types.specs.Lookups.{kind_of}
use Rattle.pt_semantics.specs.Offsets.{HasOffset, IsFeasible}
use Rattle.pt_semantics.specs.Paced.{at_least_zero}
use Rattle.pt_semantics.specs.Units.{at_input}

-- a sender or an actuator with this slack in place of its own; other kinds as they are
abbrev pub with_slack : ℕ → Kind → Kind
with_slack n (Send slack) = Send n
with_slack n (Actuator slack) = Actuator n
with_slack n kind = kind

-- these actors, the first of which has the number a, with the slack of each by its number
abbrev pub actors_with : (ℕ → ℕ) → ℕ → List Actor → List Actor
actors_with slack a [] = []
actors_with slack a (x ∷ xs) = record x { kind = with_slack (slack a) x.kind } ∷ actors_with slack (suc a) xs

-- the graph with these slacks in place of its own, each by the number of its sender or actuator
abbrev pub with_slacks : Graph → (ℕ → ℕ) → Graph
with_slacks g slack = record g { actors = actors_with slack 0 g.actors }

-- with these slacks each sender can send in time
abbrev pub Admits : Graph → (ℕ → ℕ) → Type 0
Admits g slack = IsFeasible (with_slacks g slack)

-- the slack that an offset asks for: the offset and one microsecond, or 0 if that is negative or there is no offset
abbrev pub slack_for : Option ℤ → ℕ
slack_for None = 0
slack_for (Some o) = at_least_zero (o +ℤ pos 1)

-- these are the least slacks of a graph
pub record AreLeastSlacks (g : Graph) (slack : ℕ → ℕ) : Type 0 where
  -- each sender can send in time
  pub admits : Admits g slack
  -- no sender can do with less
  pub least : (other : ℕ → ℕ) → Admits g other → (a own : ℕ) → kind_of g a ≡ Send own → slack a ≤ other a
  -- each actuator has the slack that its offset asks for
  pub acts : (a own : ℕ) (o : Option ℤ) → kind_of g a ≡ Actuator own → HasOffset (with_slacks g slack) (at_input g a 0) o → slack a ≡ slack_for o
