-- Theorems about histories.
use Rattle.std.specs.Prelude.{[], ◌∷◌, ◌≡◌, ◌<◌, ◌++◌, ℕ, Bool, List, Some, length, slice_get, true}
use Rattle.pt_tags.specs.declared.tag.Tag.{Tag}
use Rattle.pt_types.specs.declared.graph.Graph.{Graph}
use Rattle.pt_types.specs.declared.graph.Link.{Link}
use Rattle.pt_types.specs.declared.graph.Unit.{Unit}
use Rattle.pt_types.specs.declared.rows.Row.{Row}
use Rattle.pt_semantics.specs.Closing.{on_link}
use Rattle.pt_semantics.specs.Meaning.{ActorFiring, IsMeaning, opening}
use Rattle.pt_semantics.specs.Settled.{AreCaughtUp, IsSettled, Passes}
use Rattle.pt_semantics.specs.Ranks.{AreLevels, AreRanks}
use Rattle.pt_semantics.specs.Linked.{AreLinked, IsFinished, all_claims, all_sent, all_taken}
use Rattle.pt_semantics.specs.Parts.{AreTheFirings, parts}
use Rattle.pt_semantics.specs.Behaviours.{Behaves, Everywhere, IsClosed, firing_at}
use Rattle.pt_semantics.specs.Floor.{Bounded, Floor, NeverTwice}
use Rattle.pt_semantics.specs.Rows.{FitRows}
use Rattle.pt_semantics.specs.History.{IsLegal, Legal, LegalOnTime, claims_of}
use Rattle.pt_semantics.specs.Orderly.{IsOrderly}
use Rattle.pt_semantics.specs.Wired.{IsWired}
use Rattle.pt_semantics.specs.Platform.{State, opened}
use Rattle.pt_semantics.specs.Turn.{IsTurn, Turn}
use Rattle.pt_types.specs.Lookups.{platform_of}
use Rattle.pt_semantics.specs.Lists.{Each}
use Rattle.pt_semantics.specs.Kept.{settled, kept, kept_with, IsSingle}
use Rattle.pt_semantics.specs.Readings.{IsReadBy, greatest_of, later_of}

-- the floor holds in every state of a legal history
abbrev pub FloorHolds : Type 0
FloorHolds = (g : Graph) (level : ℕ → ℕ) (i : ℕ) (rows : ℕ → List Row) (turns : List Turn) (s : State) → IsWired g → AreLevels g level → FitRows g rows → Legal g level i (opened g i rows) turns s → Floor g s (claims_of g turns)

-- the floor holds in every state of a history without a late turn
abbrev pub FloorOnTime : Type 0
FloorOnTime = (g : Graph) (level : ℕ → ℕ) (i : ℕ) (rows : ℕ → List Row) (turns : List Turn) (s : State) → IsWired g → AreLevels g level → FitRows g rows → LegalOnTime g level i (opened g i rows) turns s → Floor g s (claims_of g turns)

-- in a history without a late turn no input port ever has two events of one tag
abbrev pub NoPortTwice : Type 0
NoPortTwice = (g : Graph) (level : ℕ → ℕ) (i : ℕ) (rows : ℕ → List Row) (turns : List Turn) (s : State) → IsWired g → AreLevels g level → FitRows g rows → LegalOnTime g level i (opened g i rows) turns s → NeverTwice g level i s

-- in a history without a late turn each step is at most the number of actors times the time, plus the level
abbrev pub StepsBounded : Type 0
StepsBounded = (g : Graph) (level : ℕ → ℕ) (i : ℕ) (rows : ℕ → List Row) (turns : List Turn) (s : State) → IsWired g → AreLevels g level → FitRows g rows → LegalOnTime g level i (opened g i rows) turns s → Bounded g level s (claims_of g turns)

-- in a history without a late turn, what a platform sent on a link and still has to send is orderly for the receiver
abbrev pub OutgoingOrderly : Type 0
OutgoingOrderly = (g : Graph) (level : ℕ → ℕ) (i : ℕ) (rows : ℕ → List Row) (turns : List Turn) (s : State) → IsWired g → AreLevels g level → FitRows g rows → LegalOnTime g level i (opened g i rows) turns s → (l : ℕ) (link : Link) → slice_get g.links l ≡ Some link → platform_of g link.from ≡ i → IsOrderly g level link (all_sent l turns ++ s.outbox l)

-- the claims of legal, linked and finished histories are a behaviour
abbrev pub HistoriesBehave : Type 0
HistoriesBehave = (g : Graph) (level : ℕ → ℕ) (rows : ℕ → List Row) (histories : ℕ → List Turn) (ends : ℕ → State) → IsWired g → AreLevels g level → FitRows g rows → ((i : ℕ) → i < length g.platforms → IsLegal g level i rows (histories i) (ends i)) → ((i : ℕ) → i < length g.platforms → IsFinished g i (ends i)) → AreLinked g histories → Behaves g (opening g rows) Everywhere (all_claims g histories)

-- the claims of histories without a late turn are a behaviour on each domain on which they are settled, finished or not
abbrev pub HistoriesBehaveOn : Type 1
HistoriesBehaveOn = (g : Graph) (level : ℕ → ℕ) (rows : ℕ → List Row) (histories : ℕ → List Turn) (ends : ℕ → State) (D : Unit → Tag → Type 0) → IsWired g → AreLevels g level → FitRows g rows → IsClosed g D → ((i : ℕ) → i < length g.platforms → LegalOnTime g level i (opened g i rows) (histories i) (ends i)) → ((i : ℕ) → i < length g.platforms → IsSettled g D (ends i)) → AreCaughtUp g D histories ends → Behaves g (opening g rows) D (all_claims g histories)

-- confluence: in a graph whose actors have levels, the claims of each unit in legal, linked and finished histories are its
-- parts of the meaning's firings
abbrev pub Confluence : Type 0
Confluence = (g : Graph) (level rank : ℕ → ℕ) (rows : ℕ → List Row) (histories : ℕ → List Turn) (ends : ℕ → State) (xs : List ActorFiring) → IsWired g → AreLevels g level → AreRanks g rank → FitRows g rows → ((i : ℕ) → i < length g.platforms → IsLegal g level i rows (histories i) (ends i)) → ((i : ℕ) → i < length g.platforms → IsFinished g i (ends i)) → AreLinked g histories → IsMeaning g rank rows xs → (u : Unit) → all_claims g histories u ≡ parts g xs u

-- confluence for actors: each claim is a part of a firing of its actor, and each input of a firing is claimed by its unit
abbrev pub ConfluenceByActor : Type 0
ConfluenceByActor = (g : Graph) (level rank : ℕ → ℕ) (rows : ℕ → List Row) (histories : ℕ → List Turn) (ends : ℕ → State) (xs : List ActorFiring) → IsWired g → AreLevels g level → AreRanks g rank → FitRows g rows → ((i : ℕ) → i < length g.platforms → IsLegal g level i rows (histories i) (ends i)) → ((i : ℕ) → i < length g.platforms → IsFinished g i (ends i)) → AreLinked g histories → IsMeaning g rank rows xs → AreTheFirings g (all_claims g histories) xs

-- confluence on a domain on which the histories are settled. (The domain
-- is a test: a clause can range over tests, and not over predicates)
abbrev pub ConfluenceOn : Type 0
ConfluenceOn = (g : Graph) (level rank : ℕ → ℕ) (rows : ℕ → List Row) (histories : ℕ → List Turn) (ends : ℕ → State) (xs : List ActorFiring) (test : Unit → Tag → Bool) → IsWired g → AreLevels g level → AreRanks g rank → FitRows g rows → IsClosed g (Passes test) → ((i : ℕ) → i < length g.platforms → LegalOnTime g level i (opened g i rows) (histories i) (ends i)) → ((i : ℕ) → i < length g.platforms → IsSettled g (Passes test) (ends i)) → AreCaughtUp g (Passes test) histories ends → IsMeaning g rank rows xs → (u : Unit) (t : Tag) → test u t ≡ true → firing_at (all_claims g histories u) t ≡ firing_at (parts g xs u) t

-- two lists of turns with the same claims and messages
pub record IsSame (g : Graph) (some others : List Turn) : Type 0 where
  pub claims : (u : Unit) → claims_of g some u ≡ claims_of g others u
  pub sent : (l : ℕ) → all_sent l some ≡ all_sent l others
  pub taken : (l : ℕ) → all_taken l some ≡ all_taken l others

-- a history stays legal, with the same claims and messages, when its last two turns are joined if they can be
abbrev pub SettledIsLegal : Type 0
SettledIsLegal = (g : Graph) (level : ℕ → ℕ) (i : ℕ) (rows : ℕ → List Row) (turns : List Turn) (s : State) → IsWired g → AreLevels g level → FitRows g rows →
    (Legal g level i (opened g i rows) turns s → Legal g level i (opened g i rows) (settled turns) s)
    × (LegalOnTime g level i (opened g i rows) turns s → LegalOnTime g level i (opened g i rows) (settled turns) s)
    × IsSame g (settled turns) turns

-- turns that are legal one by one are a legal history as they are recorded, with the same claims and messages
abbrev pub KeptIsLegal : Type 0
KeptIsLegal = (g : Graph) (level : ℕ → ℕ) (i : ℕ) (rows : ℕ → List Row) (turns : List Turn) (s : State) → IsWired g → AreLevels g level → FitRows g rows → Each IsSingle turns →
    (Legal g level i (opened g i rows) turns s → IsLegal g level i rows (kept turns) s)
    × (LegalOnTime g level i (opened g i rows) turns s → LegalOnTime g level i (opened g i rows) (kept turns) s)
    × IsSame g (kept turns) turns

-- a history that is read by a clock still is after one more turn, at the clock's next reading or the greatest before
abbrev pub ReadOn : Type 0
ReadOn = (history : List Turn) (turn : Turn) (readings : List ℕ) (r : ℕ) → IsReadBy history readings → turn.count ≡ 1 → turn.first ≡ turn.last → turn.last ≡ later_of (greatest_of 0 readings) r →
    IsReadBy (kept_with history turn) (readings ++ r ∷ [])

-- and so it is after one turn more, though a message was late in it: what a platform posted may still be sent
abbrev pub OutgoingOrderlyAfter : Type 0
OutgoingOrderlyAfter = (g : Graph) (level : ℕ → ℕ) (i : ℕ) (rows : ℕ → List Row) (turns : List Turn) (turn : Turn) (s new : State) (late : Bool) → IsWired g → AreLevels g level → FitRows g rows → LegalOnTime g level i (opened g i rows) turns s → IsTurn g level i s turn late new →
    (l : ℕ) (link : Link) → slice_get g.links l ≡ Some link → platform_of g link.from ≡ i → IsOrderly g level link (all_sent l turns ++ (on_link l turn.sent ++ new.outbox l))
