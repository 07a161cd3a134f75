-- How `audit` ends.
use Rattle.std.specs.Prelude.{◌≡◌, ◌++◌, ℕ, List, [], ◌∷◌, codes}
use Rattle.pt_types.specs.declared.graph.Graph.{Graph}
use Rattle.pt_types.specs.declared.rows.Row.{Row}
use Rattle.pt_offsets.specs.Plans.{Parts}
use Rattle.pt_sensor_files.specs.Asked.{ReadFails}
use Rattle.pt_io.specs.Calls.{Contents, SourceCall}
use Rattle.pt_audit.specs.LawfulLogs.{IsLawfulLog}
use Rattle.pt_audit.specs.Verdicts.{IsHead, IsVerdict}
use Rattle.pt_audit.specs.declared.verdict.Verdict.{Verdict}
use Rattle.pt_audit.specs.declared.verdict.Verdict.TheVariants.{Fine, Table}
use Rattle.pt_run.specs.Asks.{all_sensors}
use Rattle.pt_sensor_files.specs.Bytes.{OfBytes}

-- the line `lawful`
abbrev pub lawful_line : List ℕ
lawful_line = codes "lawful" ++ 10 ∷ []

-- why the content of a log is refused: the verdict of its replay; or that is fine, and the lines before `log` aren't the tables of
-- the meaning
abbrev pub Refuses : Parts → (ℕ → List Row) → List ℕ → Verdict → Type 0
Refuses plan rows bytes Table = IsVerdict plan rows bytes Fine × (IsHead plan rows bytes → ⊥)
Refuses plan rows bytes Fine = ⊥
Refuses plan rows bytes v = IsVerdict plan rows bytes v

-- the file is a lawful log, and no verdict refuses it
pub record Accepts (plan : Parts) (rows : ℕ → List Row) (bytes : List ℕ) : Type 0 where
  pub lawful : IsLawfulLog plan rows bytes
  pub only : (v : Verdict) → Refuses plan rows bytes v → ⊥

-- the file is refused by this verdict and by no other, and it is no lawful log
pub record IsUnlawful (plan : Parts) (rows : ℕ → List Row) (bytes : List ℕ) (v : Verdict) : Type 0 where
  pub refuses : Refuses plan rows bytes v
  pub only : (other : Verdict) → Refuses plan rows bytes other → other ≡ v
  pub never : IsLawfulLog plan rows bytes → ⊥

-- what a verdict says of a file
abbrev pub IsJudged : Parts → (ℕ → List Row) → List ℕ → Verdict → Type 0
IsJudged plan rows bytes Fine = Accepts plan rows bytes
IsJudged plan rows bytes v = IsUnlawful plan rows bytes v

-- a fact of a plan, the rows of a run and the content of the log, if that is known
abbrev pub OnLog : Contents → List ℕ → (Parts → (ℕ → List Row) → List ℕ → Type 0) → Parts → (ℕ → List Row) → Type 0
OnLog contents log Fact plan rows = OfBytes (contents log) (Fact plan rows)

-- the last file, a log or a recording, could not be read: it was asked for after the files in `others` and those of all sensors
abbrev pub LastFails : Graph → List (List ℕ) → List ℕ → SourceCall → Type 0
LastFails g others log r = ReadFails (others ++ all_sensors g) log r
