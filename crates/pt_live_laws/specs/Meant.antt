-- What a live run means: its claims are those of the meaning of the rows that it was given.
use Rattle.std.specs.Prelude.{◌≡◌, ℕ, List}
use Rattle.pt_types.specs.declared.graph.Graph.{Graph}
use Rattle.pt_types.specs.declared.graph.Unit.{Unit}
use Rattle.pt_types.specs.declared.rows.Row.{Row}
use Rattle.pt_types.specs.Lookups.{platform_of}
use Rattle.pt_semantics.specs.History.{claims_of}
use Rattle.pt_semantics.specs.Kept.{kept}
use Rattle.pt_semantics.specs.Meaning.{ActorFiring, IsMeaning}
use Rattle.pt_semantics.specs.Parts.{parts}
use Rattle.pt_semantics.specs.Ranks.{AreLevels, AreRanks}
use Rattle.pt_semantics.specs.Rows.{FitRows}
use Rattle.pt_semantics.specs.Visits.{AreFinished, RunState}
use Rattle.pt_semantics.specs.Wired.{IsWired}
use Rattle.pt_fixed_order_laws.specs.SoFar.{WholeRun}
use Rattle.pt_live_laws.specs.Written.{claimed_by, claimed_in, of_actor}

-- a live run that finished is a run in fixed order over all rows that were given. So the claims of each unit are its parts of the
-- meaning's firings, and the lines of each actor were written in the order of its claims
abbrev pub LiveIsMeant : Type 0
LiveIsMeant = (g : Graph) (level rank : ℕ → ℕ) (rows : ℕ → List Row) (most : ℕ) (readings : ℕ → List ℕ) (y : RunState) (xs : List ActorFiring) →
    IsWired g → AreLevels g level → AreRanks g rank → FitRows g rows → (went : WholeRun g level rows most readings y) → AreFinished g y → IsMeaning g rank rows xs →
    ((u : Unit) → claims_of g (kept (y.did (platform_of g u.actor))) u ≡ parts g xs u)
    × ((a : ℕ) → of_actor a (claimed_in went.made) ≡ of_actor a (claimed_by (y.did (platform_of g a))))
