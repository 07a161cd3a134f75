-- What is so at the end of a run of platforms whose clocks are near one another.
use Rattle.std.specs.Prelude.{◌<◌, ◌≤◌, ℕ, List, length}
use Rattle.pt_types.specs.declared.graph.Graph.{Graph}
use Rattle.pt_types.specs.declared.rows.Row.{Row}
use Rattle.pt_semantics.specs.Counts.{unit_firings}
use Rattle.pt_semantics.specs.History.{LegalOnTime}
use Rattle.pt_semantics.specs.Lists.{Each}
use Rattle.pt_semantics.specs.Meaning.{ActorFiring, IsMeaning}
use Rattle.pt_semantics.specs.Parts.{parts}
use Rattle.pt_semantics.specs.Platform.{opened}
use Rattle.pt_semantics.specs.Ranks.{AreRanks}
use Rattle.pt_semantics.specs.Visits.{AreFinished, RunState}
use Rattle.pt_paced_laws.specs.Schedule.{AreAllClaimed, AreClaimedAsMeant, AreMissedAsMeant, IsOnSchedule, SendsWithinSlack}
use Rattle.pt_paced_laws.specs.WholeRuns.{kept_by}

-- a fact about the meaning of a graph and its rows
abbrev pub OfMeaning : Graph → (ℕ → List Row) → (List ActorFiring → Type 0) → Type 0
OfMeaning g rows Fact = (rank : ℕ → ℕ) (xs : List ActorFiring) → AreRanks g rank → IsMeaning g rank rows xs → Fact xs

-- the histories of these platforms keep the paced schedule, and do what the meaning does
pub record KeepsPace (g : Graph) (level : ℕ → ℕ) (rows : ℕ → List Row) (y : RunState) : Type 0 where
  -- no turn took a late message, each claim is made at exactly its paced reading, and no message is sent past its sender's slack
  pub none_late : (i : ℕ) → i < length g.platforms → LegalOnTime g level i (opened g i rows) (kept_by y i) (y.at i)
  pub on_schedule : (i : ℕ) → i < length g.platforms → Each (IsOnSchedule g) (kept_by y i)
  pub within_slack : (i : ℕ) → i < length g.platforms → Each (SendsWithinSlack g) (kept_by y i)
  -- each unit's claims are the first of its parts of the meaning
  pub claimed_as_meant : OfMeaning g rows (λ xs. AreClaimedAsMeant g xs (kept_by y))
  -- if the platforms are finished, the claims are all of them, what was missed follows from the meaning and the paced readings,
  -- and no platform has more firings of units than it may claim
  pub all_claimed : AreFinished g y → OfMeaning g rows (λ xs. AreAllClaimed g xs (kept_by y))
  pub missed_as_meant : AreFinished g y → OfMeaning g rows (λ xs. AreMissedAsMeant g xs (kept_by y))
  pub none_long : AreFinished g y → OfMeaning g rows (λ xs. (i : ℕ) → i < length g.platforms → unit_firings g i (parts g xs) ≤ g.claims)
