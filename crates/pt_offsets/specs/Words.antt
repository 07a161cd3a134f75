-- The least offsets of words of units: those of eight actors in a row.
use Rattle.std.specs.Prelude.{◌≡◌, ◌/◌, ◌<◌, ◌≤ℤ◌, ℕ, ℤ, IfSome, List, None, Option, Some, length, slice_index_or, ⊤}
use Rattle.std.specs.Option.{IsSomeAnd}
use Rattle.pt_types.specs.declared.graph.Graph.{Graph}
use Rattle.pt_types.specs.declared.graph.Unit.{Unit}
use Rattle.pt_semantics.specs.Offsets.{HasOffset}
use Rattle.pt_causality.specs.Units.{IsUnit}
use Rattle.pt_offsets.specs.declared.table.Timing.{Timing}
use Rattle.pt_offsets.specs.Entries.{timing_at}

-- there is an offset, and o isn't greater
abbrev pub IsAtMostOffset : ℤ → Option ℤ → Type 0
IsAtMostOffset o offset = IsSomeAnd offset (λ x. o ≤ℤ x)

-- o isn't greater than any of these offsets, and none of them is absent
abbrev pub IsAtMostOffsets : ℤ → List (Option ℤ) → Type 0
IsAtMostOffsets o offsets = (k : ℕ) → k < length offsets → IsAtMostOffset o (slice_index_or offsets k None)

-- of the first n actors, the number isn't greater than any offset of those in this word, and none is absent; None says nothing
abbrev pub IsAtMostWord : ℕ → List Timing → ℕ → Option ℤ → Type 0
IsAtMostWord n timings word least = IfSome least (λ o. (a : ℕ) → a < n → a / 8 ≡ word → IsAtMostOffsets o (timing_at timings a).offsets)

-- such a number for each word of the first n actors
abbrev pub AreAtMostWords : ℕ → List Timing → List (Option ℤ) → Type 0
AreAtMostWords n timings words = (word : ℕ) → IsAtMostWord n timings word (slice_index_or words word None)

-- each unit of the eight actors from 8 * word on has an offset, and it isn't less than o; None says nothing
abbrev pub IsLeastInWord : Graph → ℕ → Option ℤ → Type 0
IsLeastInWord g word None = ⊤
IsLeastInWord g word (Some o) = (u : Unit) → IsUnit g u → u.actor / 8 ≡ word → (x : ℤ) × HasOffset g u (Some x) × (o ≤ℤ x)
