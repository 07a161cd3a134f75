-- What the engine asks the platforms between rounds.
use Rattle.std.specs.Prelude.{◌≡◌, ◌<◌, ◌≤◌, ℕ, List, Some, false, slice_get, true}
use Rattle.pt_semantics.specs.Paced.{IsCandidate}
use Rattle.pt_turn.specs.Platforms.{PlatformView, state_at}

-- the first n platforms are closed
abbrev pub NoneIsOpen : ℕ → List PlatformView → Type 0
NoneIsOpen n platforms = (i : ℕ) (v : PlatformView) → i < n → slice_get platforms i ≡ Some v → v.closed ≡ true

-- b is the least next reading of the open platforms among the first n
pub record IsLeastOf (n : ℕ) (platforms : List PlatformView) (b : ℕ) : Type 0 where
  pub number : ℕ
  pub view : PlatformView
  pub below : number < n
  pub at : slice_get platforms number ≡ Some view
  pub is_open : view.closed ≡ false
  pub is : IsCandidate view.plan.graph view.number (state_at view) b
  pub least : (i d : ℕ) (v : PlatformView) → i < n → slice_get platforms i ≡ Some v → v.closed ≡ false → IsCandidate v.plan.graph v.number (state_at v) d → b ≤ d
