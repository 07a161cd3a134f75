-- Runs of all platforms under the paced clock: rounds at one common reading.
use Rattle.std.specs.Prelude.{◌≡◌, ◌<◌, ◌∷◌, ◌≤◌, ◌+◌, ◌-◌, ◌⊎◌, [], ℕ, ℤ, List, Option, Some, false, length, slice_get, suc, true, zero}
use Rattle.pt_tags.specs.declared.message.Message.TheVariants.{Event}
use Rattle.pt_tags.specs.declared.tag.Tag.{Tag}
use Rattle.pt_types.specs.declared.firing.Done.{Done}
use Rattle.pt_types.specs.declared.graph.Graph.{Graph}
use Rattle.pt_types.specs.declared.graph.Link.{Link}
use Rattle.pt_types.specs.declared.graph.Unit.{Unit}
use Rattle.pt_types.specs.declared.rows.Row.{Row}
use Rattle.pt_types.specs.declared.firing.Task.{Task}
use Rattle.pt_semantics.specs.Lists.{Each, IsIn}
use Rattle.pt_semantics.specs.Paced.{IsCandidate, paced_by}
use Rattle.pt_semantics.specs.Linked.{IsFinished}
use Rattle.pt_semantics.specs.Visits.{RunState, run_at_start, AreFinished, VisitRecord, IsVisit}
use Rattle.pt_semantics.specs.Kept.{kept}
use Rattle.pt_semantics.specs.Turn.{Turn, is_quiet}
use Rattle.pt_types.specs.Lookups.{kind_of}
use Rattle.pt_semantics.specs.Closing.{on_link}
use Rattle.pt_types.specs.Lookups.{slack_of}
use Rattle.pt_semantics.specs.Units.{unit_of}

-- a visit in a round at reading c: at most 64 units are claimed, and a link holds at most 64 messages
abbrev pub Makes : Graph → (ℕ → ℕ) → ℕ → RunState → VisitRecord → RunState → Type 0
Makes g level c x m y = IsVisit g level 64 (λ l. 64 - length (x.on_way l)) c x m y

-- in a round each of the next n platforms, from i on, makes one turn, unless it is finished
abbrev pub Round : Graph → (ℕ → ℕ) → ℕ → ℕ → ℕ → RunState → List VisitRecord → RunState → Type 0
Round g level c zero i x ms y = (ms ≡ []) × (y ≡ x)
Round g level c (suc n) i x ms y =
    (IsFinished g i (x.at i) × Round g level c n (suc i) x ms y)
    ⊎ ((IsFinished g i (x.at i) → ⊥) × (m : VisitRecord) × (rest : List VisitRecord) × (mid : RunState) × (ms ≡ m ∷ rest) × (m.platform ≡ i) × Makes g level c x m mid × Round g level c n (suc i) mid rest y)

-- a quiet round: no platform posted, entered, took, claimed, sent or closed
pub record IsQuietRound (x : RunState) (ms : List VisitRecord) (y : RunState) : Type 0 where
  pub quiet : Each (λ (m : VisitRecord). is_quiet m.turn ≡ true) ms
  pub closed : (i : ℕ) → (y.at i).closed ≡ (x.at i).closed

-- the least next reading of all platforms that are not closed
pub record IsLeastNext (g : Graph) (x : RunState) (b : ℕ) : Type 0 where
  pub one : (i : ℕ) × (i < length g.platforms) × ((x.at i).closed ≡ false) × IsCandidate g i (x.at i) b
  pub least : (i d : ℕ) → i < length g.platforms → (x.at i).closed ≡ false → IsCandidate g i (x.at i) d → b ≤ d

-- the reading of the round after this one: the least next reading if this one is quiet, else the same reading
abbrev pub Follows : Graph → ℕ → RunState → List VisitRecord → RunState → ℕ → Type 0
Follows g c x ms y b = (IsQuietRound x ms y × IsLeastNext g y b) ⊎ ((IsQuietRound x ms y → ⊥) × (b ≡ c))

-- rounds, one after another, from reading c to reading d. No round
-- follows one with a fault, or one after which all platforms are finished
abbrev pub Rounds : Graph → (ℕ → ℕ) → ℕ → RunState → List (List VisitRecord) → ℕ → RunState → Type 0
Rounds g level c x [] d y = (d ≡ c) × (y ≡ x)
Rounds g level c x (ms ∷ rounds) d y =
    (b : ℕ) × (mid : RunState) × Round g level c (length g.platforms) 0 x ms mid × Each (λ (m : VisitRecord). m.fault ≡ false) ms × (AreFinished g mid → ⊥) × Follows g c x ms mid b × Rounds g level b mid rounds d y

-- a paced run, up to the beginning of a round at reading d
pub record IsPacedRun (g : Graph) (level : ℕ → ℕ) (rows : ℕ → List Row) (rounds : List (List VisitRecord)) (d : ℕ) (y : RunState) : Type 0 where
  pub begins : ℕ
  pub begins_at : IsLeastNext g (run_at_start g rows) begins
  pub goes : Rounds g level begins (run_at_start g rows) rounds d y

-- a paced run, up to a point within a round: the first n platforms had their turn
pub record IsRunInRound (g : Graph) (level : ℕ → ℕ) (rows : ℕ → List Row) (rounds : List (List VisitRecord)) (c n : ℕ) (ms : List VisitRecord) (y : RunState) : Type 0 where
  pub before : RunState
  pub run : IsPacedRun g level rows rounds c before
  pub some : n ≤ length g.platforms
  pub round : Round g level c n 0 before ms y

-- a whole paced run: up to a round after which all platforms are finished, or in which one has a fault
pub record IsWholeRun (g : Graph) (level : ℕ → ℕ) (rows : ℕ → List Row) (y : RunState) : Type 0 where
  pub rounds : List (List VisitRecord)
  pub reading : ℕ
  pub before : RunState
  pub run : IsPacedRun g level rows rounds reading before
  pub made : List VisitRecord
  pub round : Round g level reading (length g.platforms) 0 before made y
  pub ends : AreFinished g y ⊎ (Each (λ (m : VisitRecord). m.fault ≡ false) made → ⊥)

-- the histories of a whole paced run
abbrev pub ArePaced : Graph → (ℕ → ℕ) → (ℕ → List Row) → (ℕ → List Turn) → Type 0
ArePaced g level rows histories = (y : RunState) × IsWholeRun g level rows y × ((i : ℕ) → i < length g.platforms → histories i ≡ kept (y.did i))

-- the turn claims and posts at paced readings alone, and sends no message later than its sender's slack allows
pub record IsTimely (g : Graph) (offset : Unit → Option ℤ) (turn : Turn) : Type 0 where
  pub claims : Each (λ (task : Task). turn.last ≡ paced_by (offset (unit_of g task)) task.tag) turn.claimed
  pub posts : Each (λ (d : Done). turn.last ≡ paced_by (offset (unit_of g d.task)) d.task.tag) turn.posted
  pub sends : (l : ℕ) (link : Link) (t : Tag) (v : ℤ) → slice_get g.links l ≡ Some link → IsIn (Event t v) (on_link l turn.sent) → turn.last ≤ t.time + slack_of (kind_of g link.from)
