-- What is true between any two visits.
use Rattle.std.specs.Prelude.{◌≡◌, ◌∷◌, ◌++◌, [], ℕ, List, Some, false, slice_get}
use Rattle.pt_types.specs.declared.graph.Graph.{Graph}
use Rattle.pt_types.specs.declared.graph.Link.{Link}
use Rattle.pt_types.specs.declared.rows.Row.{Row}
use Rattle.pt_types.specs.Lookups.{platform_of}
use Rattle.pt_semantics.specs.Kept.{IsSingle}
use Rattle.pt_semantics.specs.Linked.{all_sent, all_taken}
use Rattle.pt_semantics.specs.Lists.{Each}
use Rattle.pt_semantics.specs.Platform.{State, opened}
use Rattle.pt_semantics.specs.Turn.{IsLast, IsTurn, Turn}
use Rattle.pt_semantics.specs.Visits.{RunState}

-- link l does not lead from platform i
abbrev pub IsForeign : Graph → ℕ → ℕ → Type 0
IsForeign g i l = (link : Link) → slice_get g.links l ≡ Some link → platform_of g link.from ≡ i → ⊥

-- the platform has nothing to send on such links
abbrev pub SendsNothingElse : Graph → ℕ → State → Type 0
SendsNothingElse g i s = (l : ℕ) → IsForeign g i l → s.outbox l ≡ []

-- turns of one platform, none of which was its last
abbrev pub NoneWasLast : Graph → (ℕ → ℕ) → ℕ → State → List Turn → State → Type 0
NoneWasLast g level i s [] new = new ≡ s
NoneWasLast g level i s (turn ∷ turns) new = (mid : State) × (is : IsTurn g level i s turn false mid) × (IsLast g s turn.last false is.ready → ⊥) × NoneWasLast g level i mid turns new

-- all platforms between two visits, if none so far ended the run
pub record Sound (g : Graph) (level : ℕ → ℕ) (rows : ℕ → List Row) (x : RunState) : Type 0 where
  pub goes : (p : ℕ) → NoneWasLast g level p (opened g p rows) (x.did p) (x.at p)
  pub single : (p : ℕ) → Each IsSingle (x.did p)
  pub linked : (l : ℕ) (link : Link) → slice_get g.links l ≡ Some link → all_sent l (x.did (platform_of g link.from)) ≡ all_taken l (x.did (platform_of g link.to)) ++ x.on_way l
  pub own : (p : ℕ) → SendsNothingElse g p (x.at p)
