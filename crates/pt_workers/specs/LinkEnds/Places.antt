-- Things with a number, and their places.
use Rattle.std.specs.Prelude.{◌≡◌, ◌<◌, ◌≤◌, ℕ, Option, Some, List, slice_get}

-- the place of this number is full
abbrev pub PlaceIsFull : {T : Type 0} → List (Option T) → ℕ → Type 0
PlaceIsFull {T} places l = (t : T) × (slice_get places l ≡ Some (Some t))

-- the thing of this number has another owner, or none
abbrev pub IsElsewhere : List ℕ → ℕ → ℕ → Type 0
IsElsewhere owners owner l = slice_get owners l ≡ Some owner → ⊥

-- no two things have the same number
abbrev pub AreDistinct : {T : Type 0} → List (ℕ × T) → Type 0
AreDistinct {T} things = (i j : ℕ) (d e : ℕ × T) → slice_get things i ≡ Some d → slice_get things j ≡ Some e → d.0 ≡ e.0 → i ≡ j

-- each number is below n
abbrev pub NumbersAreBelow : {T : Type 0} → ℕ → List (ℕ × T) → Type 0
NumbersAreBelow {T} n things = (i : ℕ) (e : ℕ × T) → slice_get things i ≡ Some e → e.0 < n

-- these are the things of one owner with numbers below n, each once, as they were in their places
pub record AreCollected {T : Type 0} (owners : List ℕ) (owner n : ℕ) (places : List (Option T)) (things : List (ℕ × T)) : Type 0 where
  pub distinct : AreDistinct things
  pub within : NumbersAreBelow n things
  pub own : (i : ℕ) (e : ℕ × T) → slice_get things i ≡ Some e → slice_get owners e.0 ≡ Some owner
  pub from : (i : ℕ) (e : ℕ × T) → slice_get things i ≡ Some e → slice_get places e.0 ≡ Some (Some e.1)
  pub each : (l : ℕ) → l < n → slice_get owners l ≡ Some owner → (i : ℕ) × (e : ℕ × T) × (slice_get things i ≡ Some e) × (e.0 ≡ l)

-- the things from the k-th on are in their places
abbrev pub AreLaid : {T : Type 0} → ℕ → List (ℕ × T) → List (Option T) → Type 0
AreLaid {T} k things places = (i : ℕ) (e : ℕ × T) → k ≤ i → slice_get things i ≡ Some e → slice_get places e.0 ≡ Some (Some e.1)
