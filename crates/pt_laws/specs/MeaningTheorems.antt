-- Theorems about behaviours and the meaning.
use Rattle.std.specs.Prelude.{◌≡◌, ℕ, List}
use Rattle.pt_types.specs.declared.graph.Graph.{Graph}
use Rattle.pt_types.specs.declared.graph.Unit.{Unit}
use Rattle.pt_types.specs.declared.rows.Row.{Row}
use Rattle.pt_semantics.specs.Meaning.{ActorFiring, IsMeaning, Values, opening}
use Rattle.pt_semantics.specs.Ranks.{AreRanks}
use Rattle.pt_semantics.specs.Behaviours.{Behaves, Everywhere, Firings}
use Rattle.pt_semantics.specs.Lists.{Each}
use Rattle.pt_semantics.specs.Rows.{FitRows}
use Rattle.pt_semantics.specs.Cycles.{GrowsAlong}
use Rattle.pt_semantics.specs.Sorted.{InKeyOrder, IsFull}
use Rattle.pt_semantics.specs.Wired.{IsWired}
use Rattle.pt_semantics.specs.Parts.{parts}

-- if a number grows along each edge of no delay, two behaviours with the same rows and starting events are equal
abbrev pub BehavioursAgree : Type 0
BehavioursAgree = (g : Graph) (given : Values) (rank : ℕ → ℕ) (f h : Firings) → GrowsAlong g rank → Behaves g given Everywhere f → Behaves g given Everywhere h → (u : Unit) → f u ≡ h u

-- the parts of the meaning's firings are a behaviour
abbrev pub MeaningBehaves : Type 0
MeaningBehaves = (g : Graph) (rank : ℕ → ℕ) (rows : ℕ → List Row) (xs : List ActorFiring) → IsWired g → AreRanks g rank → FitRows g rows → IsMeaning g rank rows xs → Behaves g (opening g rows) Everywhere (parts g xs)

-- there is at most one meaning
abbrev pub MeaningIsOne : Type 0
MeaningIsOne = (g : Graph) (rank : ℕ → ℕ) (rows : ℕ → List Row) (xs ys : List ActorFiring) → IsMeaning g rank rows xs → IsMeaning g rank rows ys → xs ≡ ys

-- a list of firings in the order of tag, rank and actor whose parts are a behaviour is the meaning
abbrev pub SortedIsMeaning : Type 0
SortedIsMeaning = (g : Graph) (rank : ℕ → ℕ) (rows : ℕ → List Row) (xs : List ActorFiring) → IsWired g → AreRanks g rank → FitRows g rows → InKeyOrder rank xs → Each (IsFull g) xs → Behaves g (opening g rows) Everywhere (parts g xs) → IsMeaning g rank rows xs
