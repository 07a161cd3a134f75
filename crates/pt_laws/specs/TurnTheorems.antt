-- Theorems about turns.
use Rattle.std.specs.Prelude.{◌≡◌, ◌<◌, ◌≤◌, ◌+◌, ◌⊎◌, [], ℕ, ℤ, Bool, List, None, Option, Some, false, take, true}
use Rattle.pt_tags.specs.declared.tag.Tag.{Tag}
use Rattle.pt_types.specs.declared.graph.Graph.{Graph}
use Rattle.pt_types.specs.declared.graph.Unit.{Unit}
use Rattle.pt_types.specs.declared.rows.Row.{Row}
use Rattle.pt_types.specs.declared.firing.Task.{Task}
use Rattle.pt_semantics.specs.Candidates.{AreCandidates, AreCut, Candidate, ClaimsAreFronts, HasMoved, IsClaimed, tasks_of}
use Rattle.pt_semantics.specs.Ranks.{AreLevels}
use Rattle.pt_semantics.specs.Closing.{CanClose}
use Rattle.pt_semantics.specs.Rows.{FitRows, FitsRow}
use Rattle.pt_semantics.specs.Offsets.{HasOffset}
use Rattle.pt_semantics.specs.Paced.{IsClosing, IsNextReading}
use Rattle.pt_semantics.specs.Lists.{IsIn}
use Rattle.pt_semantics.specs.Safe.{IsSafe, NothingSafe}
use Rattle.pt_semantics.specs.Turn.{IsTurn, Turn, is_quiet, joined}
use Rattle.pt_semantics.specs.Wired.{IsWired}
use Rattle.pt_semantics.specs.History.{Legal}
use Rattle.pt_semantics.specs.Platform.{State, opened}
use Rattle.pt_semantics.specs.Claiming.{after_claim}
use Rattle.pt_semantics.specs.Entering.{due}
use Rattle.pt_semantics.specs.Units.{unit_inputs}

-- a claim of a safe unit doesn't change which other units are safe
abbrev pub ClaimsApart : Type 0
ClaimsApart = (g : Graph) (s : State) (r : ℕ) (u v : Unit) (task : Task) (t : Tag) → IsSafe g s.waits s.busy r u task.tag →
    ((IsSafe g s.waits s.busy r v t → (v ≡ u → ⊥) → IsSafe g (after_claim g s u task).waits (after_claim g s u task).busy r v t)
    × (IsSafe g (after_claim g s u task).waits (after_claim g s u task).busy r v t → IsSafe g s.waits s.busy r v t × (v ≡ u → ⊥)))

-- a turn claims the first of the units that are safe when it begins to claim
abbrev pub TurnClaims : Type 0
TurnClaims = (g : Graph) (s : State) (r : ℕ) (cs : List Candidate) → AreCandidates g s r cs → ClaimsAreFronts g s r cs

-- a turn can claim the first k safe units, if k is the least of `most` and of the number of claims left
abbrev pub CutClaims : Type 0
CutClaims = (g : Graph) (s : State) (r most k : ℕ) (cs : List Candidate) → AreCandidates g s r cs → 1 ≤ most → k ≤ most → k + s.claims ≤ g.claims → (k ≡ most) ⊎ (k + s.claims ≡ g.claims) → AreCut g s r most (tasks_of g s s.claims (take k cs))

-- a safe unit stays safe, with its least tag and its inputs, when a later turn begins to claim
abbrev pub SafeInTurn : Type 0
SafeInTurn = (g : Graph) (level : ℕ → ℕ) (i : ℕ) (rows : ℕ → List Row) (turns : List Turn) (turn : Turn) (s new : State) (late : Bool) (p r : ℕ) (u : Unit) (t : Tag) →
    IsWired g → AreLevels g level → FitRows g rows → Legal g level i (opened g i rows) turns s → s.reading ≡ Some p → r ≤ p → IsSafe g s.waits s.busy r u t →
    (is : IsTurn g level i s turn late new) → IsSafe g is.got.waits is.got.busy turn.last u t × (unit_inputs g is.got.waits u t ≡ unit_inputs g s.waits u t)

-- it stays safe after any later turns, at each reading from the first on, unless they claimed it
abbrev pub SafeStays : Type 0
SafeStays = (g : Graph) (level : ℕ → ℕ) (i : ℕ) (rows : ℕ → List Row) (turns later : List Turn) (s new : State) (p r : ℕ) (u : Unit) (t : Tag) →
    IsWired g → AreLevels g level → FitRows g rows → Legal g level i (opened g i rows) turns s → s.reading ≡ Some p → r ≤ p → IsSafe g s.waits s.busy r u t →
    Legal g level i s later new → IsClaimed g later u t (unit_inputs g s.waits u t) ⊎ (((q : ℕ) → r ≤ q → IsSafe g new.waits new.busy q u t) × (unit_inputs g new.waits u t ≡ unit_inputs g s.waits u t))

-- a turn without a late message does something, if every outbox is empty, each
-- open claim is posted, and its reading is at least the platform's next one
abbrev pub TurnsMove : Type 0
TurnsMove = (g : Graph) (level : ℕ → ℕ) (i : ℕ) (rows : ℕ → List Row) (turns : List Turn) (turn : Turn) (s new : State) (c : ℕ) →
    IsWired g → AreLevels g level → FitRows g rows → Legal g level i (opened g i rows) turns s → s.closed ≡ false → ((l : ℕ) → s.outbox l ≡ []) → IsNextReading g i s c → c ≤ turn.last →
    (is : IsTurn g level i s turn false new) → ((u : Unit) → is.posted.busy u ≡ None) → HasMoved g s turn is.ready new

-- before its next reading a platform has no row that is due and no safe unit, and can't close
abbrev pub IdleBefore : Type 0
IdleBefore = (g : Graph) (i : ℕ) (s : State) (offset : Unit → Option ℤ) (c closing r : ℕ) → ((u : Unit) → HasOffset g u (offset u)) → IsClosing g i closing → IsNextReading g i s c → r < c →
    ((a : ℕ) → due r (s.left a) ≡ []) × NothingSafe g s.waits s.busy r × (CanClose g i s r → ⊥)

-- two quiet turns in a row are one
abbrev pub QuietTurnsJoin : Type 0
QuietTurnsJoin = (g : Graph) (level : ℕ → ℕ) (i : ℕ) (s mid new : State) (x y : Turn) → ((a : ℕ) (row : Row) → IsIn row (s.left a) → FitsRow g a row) → is_quiet x ≡ true → is_quiet y ≡ true →
    IsTurn g level i s x false mid → IsTurn g level i mid y false new → IsTurn g level i s (joined x y) false new
