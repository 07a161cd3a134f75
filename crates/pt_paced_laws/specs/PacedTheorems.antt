-- Theorems about paced readings and paced runs.
use Rattle.std.specs.Prelude.{◌≡◌, ◌<◌, ◌≤◌, ◌++◌, ◌+◌, ℕ, ℤ, List, Option, false, length, true}
use Rattle.pt_tags.specs.declared.tag.Tag.{Tag}
use Rattle.pt_types.specs.declared.kind.Kind.TheVariants.{Actuator}
use Rattle.pt_types.specs.declared.firing.Done.{Done}
use Rattle.pt_types.specs.declared.graph.Graph.{Graph}
use Rattle.pt_types.specs.declared.graph.Unit.{Unit}
use Rattle.pt_types.specs.declared.rows.Row.{Row}
use Rattle.pt_semantics.specs.Meaning.{ActorFiring, IsMeaning}
use Rattle.pt_semantics.specs.Ranks.{AreLevels, AreRanks}
use Rattle.pt_semantics.specs.Lists.{Each, IsIn}
use Rattle.pt_types.specs.Lookups.{kind_of, platform_of}
use Rattle.pt_semantics.specs.Behaviours.{Firing}
use Rattle.pt_semantics.specs.Rows.{FitRows}
use Rattle.pt_semantics.specs.Offsets.{HasOffset, IsFeasible}
use Rattle.pt_semantics.specs.Linked.{IsFinished, all_claims, AreMatched, AreLinked}
use Rattle.pt_semantics.specs.Rounds.{IsLeastNext, IsPacedRun, IsQuietRound, IsRunInRound, IsTimely, Round, ArePaced, IsWholeRun}
use Rattle.pt_semantics.specs.Visits.{VisitRecord, RunState, AreFinished}
use Rattle.pt_semantics.specs.Missed.{IsMissed}
use Rattle.pt_semantics.specs.Paced.{paced_by}
use Rattle.pt_semantics.specs.Wired.{IsWired}
use Rattle.pt_semantics.specs.History.{LegalOnTime, IsLegal}
use Rattle.pt_semantics.specs.Turn.{Turn}
use Rattle.pt_semantics.specs.Units.{at_input, unit_of}
use Rattle.pt_semantics.specs.Platform.{opened}
use Rattle.pt_semantics.specs.Parts.{parts}
use Rattle.pt_semantics.specs.Counts.{unit_firings}
use Rattle.pt_semantics.specs.Kept.{kept}

-- no message is late in a paced run
abbrev pub NoneLate : Type 0
NoneLate = (g : Graph) (level : ℕ → ℕ) (rows : ℕ → List Row) (offset : Unit → Option ℤ) (rounds : List (List VisitRecord)) (c n : ℕ) (ms : List VisitRecord) (y : RunState) →
    IsWired g → AreLevels g level → FitRows g rows → IsFeasible g → ((u : Unit) → HasOffset g u (offset u)) → IsRunInRound g level rows rounds c n ms y →
    Each (λ (m : VisitRecord). m.late ≡ false) ms × ((i : ℕ) → i < length g.platforms → LegalOnTime g level i (opened g i rows) (y.did i) (y.at i))

-- in a paced run each turn claims and posts at paced readings alone, and sends no message too late
abbrev pub TimelyWhenPaced : Type 0
TimelyWhenPaced = (g : Graph) (level : ℕ → ℕ) (rows : ℕ → List Row) (offset : Unit → Option ℤ) (rounds : List (List VisitRecord)) (c n : ℕ) (ms : List VisitRecord) (y : RunState) →
    IsWired g → AreLevels g level → FitRows g rows → IsFeasible g → ((u : Unit) → HasOffset g u (offset u)) → IsRunInRound g level rows rounds c n ms y →
    (i : ℕ) → i < length g.platforms → Each (IsTimely g offset) (y.did i)

-- so the missed entries of such a turn are the actuators' results whose paced reading is past the tag's time and the slack
abbrev pub MissedWhenPaced : Type 0
MissedWhenPaced = (g : Graph) (offset : Unit → Option ℤ) (turn : Turn) (a : ℕ) (t : Tag) (limit : ℕ) → IsTimely g offset turn → IsMissed g turn a t limit →
    (d : Done) × IsIn d turn.posted × (d.task.actor ≡ a) × (d.task.tag ≡ t) × ((slack : ℕ) × (kind_of g a ≡ Actuator slack) × (limit ≡ t.time + slack)) × (limit < paced_by (offset (unit_of g d.task)) t)

-- at any time in a paced run the claims of each unit are the first
-- of its parts of the meaning, and all if all platforms are finished
abbrev pub PacedIsPrefix : Type 0
PacedIsPrefix = (g : Graph) (level rank : ℕ → ℕ) (rows : ℕ → List Row) (offset : Unit → Option ℤ) (rounds : List (List VisitRecord)) (c n : ℕ) (ms : List VisitRecord) (y : RunState) (xs : List ActorFiring) →
    IsWired g → AreLevels g level → AreRanks g rank → FitRows g rows → IsFeasible g → ((u : Unit) → HasOffset g u (offset u)) → IsRunInRound g level rows rounds c n ms y → IsMeaning g rank rows xs →
    (u : Unit) → ((rest : List Firing) × (parts g xs u ≡ all_claims g y.did u ++ rest)) × (((i : ℕ) → i < length g.platforms → IsFinished g i (y.at i)) → all_claims g y.did u ≡ parts g xs u)

-- in a paced run that is finished the missed entries are the meaning's
-- actuator firings whose paced reading is past the tag's time and the slack
abbrev pub MissedIsInMeaning : Type 0
MissedIsInMeaning = (g : Graph) (level rank : ℕ → ℕ) (rows : ℕ → List Row) (offset : Unit → Option ℤ) (rounds : List (List VisitRecord)) (c n : ℕ) (ms : List VisitRecord) (y : RunState) (xs : List ActorFiring) →
    IsWired g → AreLevels g level → AreRanks g rank → FitRows g rows → IsFeasible g → ((u : Unit) → HasOffset g u (offset u)) → IsRunInRound g level rows rounds c n ms y → ((i : ℕ) → i < length g.platforms → IsFinished g i (y.at i)) → IsMeaning g rank rows xs →
    ((i a limit : ℕ) (t : Tag) (turn : Turn) → i < length g.platforms → IsIn turn (y.did i) → IsMissed g turn a t limit → (z : ActorFiring) × IsIn z xs × (z.actor ≡ a) × (z.tag ≡ t) × ((slack : ℕ) × (kind_of g a ≡ Actuator slack) × (t.time + slack < paced_by (offset (at_input g a 0)) t)))
    × ((z : ActorFiring) (slack : ℕ) → IsIn z xs → kind_of g z.actor ≡ Actuator slack → z.tag.time + slack < paced_by (offset (at_input g z.actor 0)) z.tag → (turn : Turn) × IsIn turn (y.did (platform_of g z.actor)) × IsMissed g turn z.actor z.tag (z.tag.time + slack))

-- no two quiet rounds without a fault follow one another
abbrev pub NoTwoQuiet : Type 0
NoTwoQuiet = (g : Graph) (level : ℕ → ℕ) (rows : ℕ → List Row) (offset : Unit → Option ℤ) (rounds : List (List VisitRecord)) (c b : ℕ) (ms ns : List VisitRecord) (x y z : RunState) →
    IsWired g → AreLevels g level → FitRows g rows → IsFeasible g → ((u : Unit) → HasOffset g u (offset u)) → IsPacedRun g level rows rounds c x →
    Round g level c (length g.platforms) 0 x ms y → Each (λ (m : VisitRecord). m.fault ≡ false) ms → IsQuietRound x ms y → IsLeastNext g y b →
    Round g level b (length g.platforms) 0 y ns z → Each (λ (m : VisitRecord). m.fault ≡ false) ns → IsQuietRound y ns z → ⊥

-- after a quiet round in which all platforms are closed all are finished
abbrev pub QuietEnds : Type 0
QuietEnds = (g : Graph) (level : ℕ → ℕ) (rows : ℕ → List Row) (offset : Unit → Option ℤ) (rounds : List (List VisitRecord)) (c : ℕ) (ms : List VisitRecord) (x y : RunState) →
    IsWired g → AreLevels g level → FitRows g rows → IsFeasible g → ((u : Unit) → HasOffset g u (offset u)) → IsPacedRun g level rows rounds c x →
    Round g level c (length g.platforms) 0 x ms y → Each (λ (m : VisitRecord). m.fault ≡ false) ms → IsQuietRound x ms y → ((i : ℕ) → i < length g.platforms → (y.at i).closed ≡ true) → (i : ℕ) → i < length g.platforms → IsFinished g i (y.at i)

-- in a paced run a platform with a fault has more unit firings
-- in the meaning than it may claim; if all platforms are finished no platform has
abbrev pub LongExactly : Type 0
LongExactly = (g : Graph) (level rank : ℕ → ℕ) (rows : ℕ → List Row) (offset : Unit → Option ℤ) (rounds : List (List VisitRecord)) (c n : ℕ) (ms : List VisitRecord) (y : RunState) (xs : List ActorFiring) →
    IsWired g → AreLevels g level → AreRanks g rank → FitRows g rows → IsFeasible g → ((u : Unit) → HasOffset g u (offset u)) → IsRunInRound g level rows rounds c n ms y → IsMeaning g rank rows xs →
    Each (λ (m : VisitRecord). m.fault ≡ true → g.claims < unit_firings g m.platform (parts g xs)) ms
    × (AreFinished g y → (i : ℕ) → i < length g.platforms → unit_firings g i (parts g xs) ≤ g.claims)

-- the histories of the paced rounds depend on the program and its rows alone
abbrev pub PacedIsOne : Type 0
PacedIsOne = (g : Graph) (level : ℕ → ℕ) (rows : ℕ → List Row) (offset : Unit → Option ℤ) (histories others : ℕ → List Turn) →
    IsWired g → AreLevels g level → FitRows g rows → IsFeasible g → ((u : Unit) → HasOffset g u (offset u)) → ArePaced g level rows histories → ArePaced g level rows others →
    (i : ℕ) → i < length g.platforms → histories i ≡ others i

-- as they are recorded, the histories of a whole paced run are legal and matched, and linked if all platforms are finished
abbrev pub PacedAreLegal : Type 0
PacedAreLegal = (g : Graph) (level : ℕ → ℕ) (rows : ℕ → List Row) (offset : Unit → Option ℤ) (y : RunState) →
    IsWired g → AreLevels g level → FitRows g rows → IsFeasible g → ((u : Unit) → HasOffset g u (offset u)) → IsWholeRun g level rows y →
    ((i : ℕ) → i < length g.platforms → IsLegal g level i rows (kept (y.did i)) (y.at i))
    × AreMatched g (λ i. kept (y.did i)) × (AreFinished g y → AreLinked g (λ i. kept (y.did i)))
