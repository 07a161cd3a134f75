-- The open claims of other units.
use Rattle.std.specs.Prelude.{◌≡◌, ℕ, ◌<◌, Bool, false, true, not, List, Option, None, Some, length, slice_index_or}
use Rattle.pt_types.specs.declared.graph.Unit.{Unit}
use Rattle.pt_semantics.specs.Units.{same_part}
use Rattle.pt_turn.specs.declared.state.fields.OpenClaim.{OpenClaim}

-- an open claim belongs to another unit
abbrev pub is_other : Unit → OpenClaim → Bool
is_other u c = not (same_part c.unit u)

-- the claim at this index is the unit's; or, for None, every claim belongs to another unit
abbrev pub IsPlaceOf : List OpenClaim → Unit → Option ℕ → Type 0
IsPlaceOf claims u None = (k : ℕ) (c : OpenClaim) → k < length claims → slice_index_or claims k c ≡ c → is_other u c ≡ true
IsPlaceOf claims u (Some k) = (k < length claims) × ((c : OpenClaim) → slice_index_or claims k c ≡ c → is_other u c ≡ false)
