-- Linked platforms by their numbers.
use Rattle.std.proofs.Common.{zero, suc}
use Rattle.std.specs.Prelude.{◌≡◌, ℕ, ◌+◌, ◌^◌, ◌<◌, false, Option, None, Some, List, [], ◌∷◌, ◌++◌, length, map, slice_index_or}
use Rattle.pt_semantics.specs.Linked.{IsFinished}
use Rattle.pt_turn.specs.Platforms.{state_at}
use Rattle.pt_pool.specs.LinkedPlatform.{LinkedPlatformView}

abbrev pub numbers : List LinkedPlatformView → List ℕ
numbers xs = map (λ (s : LinkedPlatformView). s.platform.number) xs

-- the numbers below n
abbrev pub count_up : ℕ → List ℕ
count_up zero = []
count_up (suc n) = count_up n ++ n ∷ []

-- 2 to the power of each, added up
abbrev pub order_weight : List ℕ → ℕ
order_weight [] = 0
order_weight (x ∷ xs) = 2 ^ x + order_weight xs

-- the number is in the list
abbrev pub Among : ℕ → List ℕ → Type 0
Among w xs = (i : ℕ) × (i < length xs) × ((d : ℕ) → slice_index_or xs i d ≡ w)

-- the linked platform of this number is in the place of this number
abbrev pub HasAt : List (Option LinkedPlatformView) → ℕ → Type 0
HasAt slots w = (s : LinkedPlatformView) × ((d : Option LinkedPlatformView) → slice_index_or slots w d ≡ Some s) × (s.platform.number ≡ w)

-- each place below n has the linked platform of its number
abbrev pub AreFilled : ℕ → List (Option LinkedPlatformView) → Type 0
AreFilled n places = (k : ℕ) → k < n → HasAt places k

-- each linked platform is finished, without a fault
abbrev pub AllDone : List LinkedPlatformView → Type 0
AllDone xs = (i : ℕ) (d : LinkedPlatformView) → i < length xs → IsFinished (slice_index_or xs i d).platform.plan.graph (slice_index_or xs i d).platform.number (state_at (slice_index_or xs i d).platform) × ((slice_index_or xs i d).platform.fault ≡ None)

-- no visit of a linked platform gave up because memory ran out
abbrev pub AreUnmarked : List LinkedPlatformView → Type 0
AreUnmarked xs = (i : ℕ) (d : LinkedPlatformView) → i < length xs → (slice_index_or xs i d).marked ≡ false

-- the n-th linked platform has a fault, and none before it
abbrev pub HasFailed : List LinkedPlatformView → ℕ → Type 0
HasFailed xs n = (n < length xs) × ((d : LinkedPlatformView) → (slice_index_or xs n d).platform.fault ≡ None → ⊥) × ((i : ℕ) (d : LinkedPlatformView) → i < n → (slice_index_or xs i d).platform.fault ≡ None)
