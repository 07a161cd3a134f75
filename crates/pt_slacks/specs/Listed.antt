-- The slacks of a graph as a list.
use Rattle.std.specs.Prelude.{◌≡◌, ◌∷◌, [], ℕ, List, suc}
use Rattle.pt_types.specs.declared.graph.Graph.{Graph}
use Rattle.pt_types.specs.declared.graph.Actor.{Actor}
use Rattle.pt_types.specs.declared.kind.Kind.{Kind}
use Rattle.pt_types.specs.declared.kind.Kind.TheVariants.{Actuator, Send}
use Rattle.pt_slacks.specs.declared.slack.Slack.{Slack}
use Rattle.pt_slacks.specs.Slacks.{AreLeastSlacks}

-- an entry in front of the others if the kind is a sender or an actuator
abbrev pub with_entry : Kind → Slack → List Slack → List Slack
with_entry (Send own) entry entries = entry ∷ entries
with_entry (Actuator own) entry entries = entry ∷ entries
with_entry _ entry entries = entries

abbrev pub listed_from : (ℕ → ℕ) → ℕ → List Actor → List Slack
listed_from slack a [] = []
listed_from slack a (x ∷ xs) = with_entry x.kind (record { actor = a; slack = slack a }) (listed_from slack (suc a) xs)

-- the slack of each sender and actuator, in the order of the graph
abbrev pub listed : Graph → (ℕ → ℕ) → List Slack
listed g slack = listed_from slack 0 g.actors

-- these are the least slacks, in the order of the graph
abbrev pub AreListed : Graph → List Slack → Type 0
AreListed g entries = (slack : ℕ → ℕ) × AreLeastSlacks g slack × (entries ≡ listed g slack)
