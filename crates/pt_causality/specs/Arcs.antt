-- Arcs between numbered places: their paths, and least delays along them.
use Rattle.std.specs.Prelude.{◌≡◌, ◌==◌, ◌<◌, ◌≤◌, ◌^◌, ℕ, Bool, List, [], ◌∷◌, IfSome, Option, None, Some, length, slice_index_or}
use Rattle.pt_tags.specs.declared.tag.Delay.{Delay}
use Rattle.pt_tags.specs.Tags.{AtMost, then, zero_delay}
use Rattle.pt_types.specs.declared.graph.Graph.{Graph}
use Rattle.pt_semantics.specs.Edges.{Edge}
use Rattle.pt_semantics.specs.Lists.{IsIn}
use Rattle.pt_semantics.specs.Units.{source, target}
use Rattle.pt_causality.specs.declared.arcs.Arc.{Arc}
use Rattle.pt_causality.specs.Cells.{number_in, delay_at}

-- the arcs that leave place j
abbrev pub arcs_from : List (List Arc) → ℕ → List Arc
arcs_from arcs j = slice_index_or arcs j []

-- these arcs lead from place s to place k, each from where the one before leads
abbrev pub ArcsLead : List (List Arc) → ℕ → List Arc → ℕ → Type 0
ArcsLead arcs s [] k = s ≡ k
ArcsLead arcs s (a ∷ along) k = IsIn a (arcs_from arcs s) × ArcsLead arcs a.to along k

-- the sum of the weights of these arcs
abbrev pub total : List Arc → Delay
total [] = zero_delay
total (a ∷ along) = then a.weight (total along)

-- d is the least delay of all paths from s to k
pub record IsNearest (arcs : List (List Arc)) (s k : ℕ) (d : Delay) : Type 0 where
  pub along : (path : List Arc) × ArcsLead arcs s path k × (total path ≡ d)
  pub least : (path : List Arc) → ArcsLead arcs s path k → AtMost d (total path)

-- the least delay from s to k; none exactly if no path leads there
abbrev pub HasNearest : List (List Arc) → ℕ → ℕ → Option Delay → Type 0
HasNearest arcs s k None = (path : List Arc) → ArcsLead arcs s path k → ⊥
HasNearest arcs s k (Some d) = IsNearest arcs s k d

-- the row of place s has the least delay to each place
abbrev pub HasLeastDelays : List (List Arc) → ℕ → List (Option Delay) → Type 0
HasLeastDelays arcs s row = (k : ℕ) → k < length arcs → HasNearest arcs s k (delay_at row k)

-- each delay is small enough to add bounds and times to it
abbrev pub IsSmallRow : List (Option Delay) → Type 0
IsSmallRow row = (k : ℕ) → IfSome (delay_at row k) (λ (d : Delay). (d.time < 2 ^ 62) × (d.step < 2 ^ 62))

-- an arc leads to one of n places, and its delay is at most what a graph may state
pub record IsFit (n : ℕ) (a : Arc) : Type 0 where
  pub to : a.to < n
  pub time : a.weight.time ≤ 1000000000000000
  pub step : a.weight.step ≤ 1

-- all arcs are fit in this way
abbrev pub AreFit : List (List Arc) → Type 0
AreFit arcs = (j : ℕ) (a : Arc) → IsIn a (arcs_from arcs j) → IsFit (length arcs) a

-- an edge as an arc between the numbers of its units
abbrev pub arc_of : Graph → List ℕ → Edge → Arc
arc_of g firsts e = record { to = number_in firsts (target g e); weight = e.weight }

-- the edge leaves the unit with this number
abbrev pub leaves_place : Graph → List ℕ → ℕ → Edge → Bool
leaves_place g firsts j e = number_in firsts (source g e) == j
