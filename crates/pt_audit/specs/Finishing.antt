-- The verdict on platforms that have made all turns of a log.
use Rattle.std.specs.Prelude.{◌≡◌, ◌<◌, ℕ, List, Some, slice_get}
use Rattle.pt_types.specs.declared.graph.Graph.{Graph}
use Rattle.pt_semantics.specs.Linked.{AreLinked, IsFinished}
use Rattle.pt_turn.specs.All.{histories_of}
use Rattle.pt_turn.specs.Platforms.{PlatformView, state_at}
use Rattle.pt_audit.specs.Verdicts.{IsFirstUnlinked}
use Rattle.pt_audit.specs.declared.verdict.Verdict.{Verdict}
use Rattle.pt_audit.specs.declared.verdict.Verdict.TheVariants.{Unfinished, Unlinked, Fine}

-- a platform is finished
abbrev pub IsAtEnd : PlatformView → Type 0
IsAtEnd v = IsFinished v.plan.graph v.number (state_at v)

-- all platforms before place i are finished
abbrev pub AreAtEndBefore : List PlatformView → ℕ → Type 0
AreAtEndBefore platforms i = (j : ℕ) (v : PlatformView) → j < i → slice_get platforms j ≡ Some v → IsAtEnd v

-- all platforms are finished
abbrev pub AreAtEnd : List PlatformView → Type 0
AreAtEnd platforms = (j : ℕ) (v : PlatformView) → slice_get platforms j ≡ Some v → IsAtEnd v

-- the first platform that is not finished has this number
pub record IsFirstOpen (platforms : List PlatformView) (number : ℕ) : Type 0 where
  pub place : ℕ
  pub view : PlatformView
  pub at : slice_get platforms place ≡ Some view
  pub is : number ≡ view.number
  pub unfinished : IsAtEnd view → ⊥
  pub first : AreAtEndBefore platforms place

-- the verdict on these platforms
abbrev pub IsFinalVerdict : Graph → List PlatformView → Verdict → Type 0
IsFinalVerdict g platforms (Unfinished number) = IsFirstOpen platforms number
IsFinalVerdict g platforms (Unlinked l) = AreAtEnd platforms × IsFirstUnlinked g l (histories_of platforms)
IsFinalVerdict g platforms Fine = AreAtEnd platforms × AreLinked g (histories_of platforms)
IsFinalVerdict g platforms _ = ⊥
