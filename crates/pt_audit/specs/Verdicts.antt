-- The verdicts on a file: at most one is right.
use Rattle.std.specs.Prelude.{◌≡◌, ◌<◌, ◌≤◌, ◌+◌, ◌++◌, ◌∷◌, [], ℕ, List, None, Some, length, slice_get}
use Rattle.std.specs.List.{concat}
use Rattle.pt_types.specs.declared.graph.Graph.{Graph}
use Rattle.pt_types.specs.declared.graph.Link.{Link}
use Rattle.pt_types.specs.declared.rows.Row.{Row}
use Rattle.pt_types.specs.Lookups.{platform_of}
use Rattle.pt_semantics.specs.Linked.{AreLinked, IsFinished, all_sent, all_taken}
use Rattle.pt_semantics.specs.Platform.{State}
use Rattle.pt_semantics.specs.Turn.{Turn as Recorded}
use Rattle.pt_causality.specs.Ranked.{level_of}
use Rattle.pt_offsets.specs.Plans.{Parts}
use Rattle.pt_confluence.specs.Gathered.{AreTables}
use Rattle.pt_audit.specs.Parsing.Lines.{Block, at_log, blocks_from, text_lines}
use Rattle.pt_audit.specs.Parsing.Places.{IsLogAt}
use Rattle.pt_audit.specs.Limits.{log_limit}
use Rattle.pt_audit.specs.Logged.{AreLawful, AreLogged, BlocksAreLawful, LoggedTurn, turns_of}
use Rattle.pt_audit.specs.declared.verdict.Verdict.{Verdict}
use Rattle.pt_audit.specs.declared.verdict.Verdict.TheVariants.{TooLong, NoLog, Turn, Unfinished, Unlinked, Fine}

-- a file of at most this many bytes that has a line `log`: the lines before it, and the blocks of the lines after it
pub record HasLog (most : ℕ) (bytes : List ℕ) (Fact : List Block → Type 0) : Type 0 where
  pub short : length bytes ≤ most
  pub head : List (List ℕ)
  pub rest : List (List ℕ)
  pub lines : at_log (text_lines bytes) ≡ Some (head, rest)
  pub fact : Fact (blocks_from (length head + 2) rest)

-- a block that begins at this line is the first one that is no turn that may follow those before
pub record StopsAt (g : Graph) (level : ℕ → ℕ) (rows : ℕ → List Row) (line : ℕ) (blocks : List Block) : Type 0 where
  pub before : List Block
  pub bad : Block
  pub after : List Block
  pub is : blocks ≡ before ++ bad ∷ after
  pub at : line ≡ bad.line
  pub are_lawful : BlocksAreLawful g level rows before
  pub never : BlocksAreLawful g level rows (before ++ bad ∷ []) → ⊥

-- the turns of all blocks are lawful, and a fact holds of their histories and of the states after them
pub record AllBlocksSay (g : Graph) (level : ℕ → ℕ) (rows : ℕ → List Row) (blocks : List Block) (Fact : (ℕ → List Recorded) → (ℕ → State) → Type 0) : Type 0 where
  pub logged : List LoggedTurn
  pub ends : ℕ → State
  pub are_logged : AreLogged g blocks logged
  pub lawful : AreLawful g level rows logged ends
  pub fact : Fact (λ i. turns_of i logged) ends

-- platform i is the first that is not finished
pub record IsFirstUnfinished (g : Graph) (i : ℕ) (ends : ℕ → State) : Type 0 where
  pub platform : i < length g.platforms
  pub unfinished : IsFinished g i (ends i) → ⊥
  pub first : (j : ℕ) → j < i → IsFinished g j (ends j)

-- all platforms are finished
abbrev pub AllAreFinished : Graph → (ℕ → State) → Type 0
AllAreFinished g ends = (i : ℕ) → i < length g.platforms → IsFinished g i (ends i)

-- the receiver of link l took all that its sender sent
abbrev pub IsLinked : Graph → (ℕ → List Recorded) → ℕ → Type 0
IsLinked g histories l = (link : Link) → slice_get g.links l ≡ Some link →
    all_sent l (histories (platform_of g link.from)) ≡ all_taken l (histories (platform_of g link.to))

-- link l is the first that is not linked
pub record IsFirstUnlinked (g : Graph) (l : ℕ) (histories : ℕ → List Recorded) : Type 0 where
  pub link : l < length g.links
  pub unlinked : IsLinked g histories l → ⊥
  pub first : (k : ℕ) → k < l → IsLinked g histories k

-- the verdict on the blocks of a log
abbrev pub IsVerdictOn : Parts → (ℕ → List Row) → List Block → Verdict → Type 0
IsVerdictOn plan rows blocks (Turn line) = StopsAt plan.graph (level_of plan.ranks) rows line blocks
IsVerdictOn plan rows blocks (Unfinished i) = AllBlocksSay plan.graph (level_of plan.ranks) rows blocks (λ histories ends. IsFirstUnfinished plan.graph i ends)
IsVerdictOn plan rows blocks (Unlinked l) = AllBlocksSay plan.graph (level_of plan.ranks) rows blocks (λ histories ends. AllAreFinished plan.graph ends × IsFirstUnlinked plan.graph l histories)
IsVerdictOn plan rows blocks Fine = AllBlocksSay plan.graph (level_of plan.ranks) rows blocks (λ histories ends. AllAreFinished plan.graph ends × AreLinked plan.graph histories)
IsVerdictOn plan rows blocks _ = ⊥

-- the verdict on a file, with this plan and these rows. The head isn't judged here, so `Table` is no verdict of its own
abbrev pub IsVerdict : Parts → (ℕ → List Row) → List ℕ → Verdict → Type 0
IsVerdict plan rows bytes TooLong = log_limit plan.graph.claims < length bytes
IsVerdict plan rows bytes NoLog = (length bytes ≤ log_limit plan.graph.claims) × (at_log (text_lines bytes) ≡ None)
IsVerdict plan rows bytes v = HasLog (log_limit plan.graph.claims) bytes (λ blocks. IsVerdictOn plan rows blocks v)

-- the lines before the first line `log` are the tables of the meaning
pub record IsHead (plan : Parts) (rows : ℕ → List Row) (bytes : List ℕ) : Type 0 where
  pub head : List (List ℕ)
  pub rest : List (List ℕ)
  pub lines : at_log (text_lines bytes) ≡ Some (head, rest)
  pub tables : AreTables plan rows (concat head)

-- where the first line `log` is; 0 if there is none, or if the file is too long
abbrev pub BeginsAt : List ℕ → Verdict → ℕ → Type 0
BeginsAt bytes TooLong place = place ≡ 0
BeginsAt bytes NoLog place = place ≡ 0
BeginsAt bytes _ place = (line : ℕ) × IsLogAt bytes place line
