-- Theorems about logs.
use Rattle.std.specs.Prelude.{◌≡◌, ◌≤◌, ◌++◌, ℕ, List, Some, length, slice_get}
use Rattle.pt_types.specs.declared.firing.ActorFiring.{ActorFiring}
use Rattle.pt_types.specs.declared.rows.Row.{Row}
use Rattle.pt_semantics.specs.History.{IsLegal}
use Rattle.pt_semantics.specs.Lists.{Each}
use Rattle.pt_semantics.specs.Meaning.{IsMeaning}
use Rattle.pt_semantics.specs.Tables.{tables_text}
use Rattle.pt_causality.specs.Ranked.{level_of, rank_of}
use Rattle.pt_offsets.specs.Plans.{IsAdmitted, Parts}
use Rattle.pt_turn.specs.Platforms.{PlatformView, state_at}
use Rattle.pt_tables.specs.Held.{IsHeldTurn}
use Rattle.pt_tables.specs.Log.{log_text}
use Rattle.pt_tables.specs.Platforms.{histories}
use Rattle.pt_confluence.specs.Gathered.{HaveFinished}
use Rattle.pt_audit.specs.LawfulLogs.{IsLawfulLog}
use Rattle.pt_audit.specs.Limits.{log_limit}
use Rattle.pt_audit.specs.Verdicts.{IsHead, IsVerdict}
use Rattle.pt_audit.specs.declared.verdict.Verdict.{Verdict}
use Rattle.pt_audit.specs.declared.verdict.Verdict.TheVariants.{Fine}

-- of any bytes at most one verdict is right
abbrev pub VerdictsAreOne : Type 0
VerdictsAreOne = (plan : Parts) (rows : ℕ → List Row) (bytes : List ℕ) (v w : Verdict) → IsAdmitted plan → IsVerdict plan rows bytes v → IsVerdict plan rows bytes w → v ≡ w

-- a lawful log is fine, and its head is the tables
abbrev pub LawfulLogsAreFine : Type 0
LawfulLogsAreFine = (plan : Parts) (rows : ℕ → List Row) (bytes : List ℕ) → IsAdmitted plan → IsLawfulLog plan rows bytes → IsVerdict plan rows bytes Fine × IsHead plan rows bytes

-- a file that is fine and whose head is the tables is a lawful log
abbrev pub FineLogsAreLawful : Type 0
FineLogsAreLawful = (plan : Parts) (rows : ℕ → List Row) (bytes : List ℕ) → IsAdmitted plan → IsVerdict plan rows bytes Fine → IsHead plan rows bytes → IsLawfulLog plan rows bytes

-- the recorded turns of each platform are a legal history of the plan's graph that leads to its state
abbrev pub HaveLegal : Parts → (ℕ → List Row) → List PlatformView → Type 0
HaveLegal plan rows platforms = (i : ℕ) (v : PlatformView) → slice_get platforms i ≡ Some v → IsLegal plan.graph (level_of plan.ranks) i rows v.turns (state_at v)

-- the tables of the meaning and the log of finished platforms are a lawful log, if 64 bits hold the numbers in their turns and
-- the file is not too long
abbrev pub PrintedLogsAreLawful : Type 0
PrintedLogsAreLawful = (plan : Parts) (rows : ℕ → List Row) (platforms : List PlatformView) (firings : List ActorFiring) (bytes : List ℕ) →
    IsAdmitted plan → HaveFinished plan rows platforms → HaveLegal plan rows platforms → Each (Each IsHeldTurn) (histories platforms) →
    IsMeaning plan.graph (rank_of plan.ranks) rows firings → bytes ≡ tables_text plan.graph firings ++ log_text plan.graph (histories platforms) → length bytes ≤ log_limit plan.graph.claims → IsLawfulLog plan rows bytes
