-- The actors that have a bound.
use Rattle.std.specs.Prelude.{◌≡◌, ◌<◌, ◌⊎◌, ℕ, List, None, Option, length, slice_index}
use Rattle.pt_offsets.specs.Bounded.{bound_at}

-- an actor has no bound, or its number is in the list
abbrev pub IsUnboundOrListed : List (Option ℕ) → List ℕ → ℕ → Type 0
IsUnboundOrListed bounds sources a = (bound_at bounds a ≡ None) ⊎ ((i : ℕ) × (i < length sources) × (slice_index sources i ≡ a))

-- of the first n actors, all that have a bound are in the list, and no other actor
pub record AreSourcesUpTo (n : ℕ) (bounds : List (Option ℕ)) (sources : List ℕ) : Type 0 where
  pub below : (i : ℕ) → i < length sources → slice_index sources i < n
  pub listed : (a : ℕ) → a < n → IsUnboundOrListed bounds sources a

-- these are the numbers of all actors that have a bound
abbrev pub AreSources : List (Option ℕ) → List ℕ → Type 0
AreSources bounds sources = AreSourcesUpTo (length bounds) bounds sources
