-- Paced readings: when a unit can be claimed under the paced clock.
use Rattle.std.specs.Prelude.{◌≡◌, ◌∷◌, ◌≤◌, ◌+ℤ◌, ◌+◌, ◌⊎◌, ℕ, ℤ, Bool, List, None, Option, Some, nat_le, negsuc, pos}
use Rattle.pt_tags.specs.declared.tag.Tag.{Tag}
use Rattle.pt_tags.specs.Tags.{UpTo}
use Rattle.pt_types.specs.declared.graph.Graph.{Graph}
use Rattle.pt_types.specs.declared.graph.Unit.{Unit}
use Rattle.pt_types.specs.declared.rows.Row.{Row}
use Rattle.pt_semantics.specs.Units.{HasEvent}
use Rattle.pt_semantics.specs.Offsets.{HasOffset}
use Rattle.pt_semantics.specs.Platform.{State}
use Rattle.pt_semantics.specs.Bounds.{bound_of}
use Rattle.pt_types.specs.Lookups.{platform_of}

-- the number, or 0 if it is negative
abbrev pub at_least_zero : ℤ → ℕ
at_least_zero (pos n) = n
at_least_zero (negsuc n) = 0

-- the reading just past tag time and offset, at least 0; 0 if there is no offset
abbrev pub paced_by : Option ℤ → Tag → ℕ
paced_by None t = 0
paced_by (Some o) t = at_least_zero ((pos t.time +ℤ o) +ℤ pos 1)

-- c is the paced reading of unit u at tag t
abbrev pub IsPaced : Graph → Unit → Tag → ℕ → Type 0
IsPaced g u t c = (o : Option ℤ) × HasOffset g u o × (c ≡ paced_by o t)

-- c is the closing reading of platform i: the greatest of horizon plus
-- bound plus 1 over its sensors and receivers, or 0 if it has none
abbrev pub IsClosing : Graph → ℕ → ℕ → Type 0
IsClosing g i c =
    ((c ≡ 0) × ((a b : ℕ) → platform_of g a ≡ i → bound_of g a ≡ Some b → ⊥))
    ⊎ (((a b : ℕ) × (platform_of g a ≡ i) × (bound_of g a ≡ Some b) × (c ≡ g.until + b + 1)) × ((a b : ℕ) → platform_of g a ≡ i → bound_of g a ≡ Some b → g.until + b + 1 ≤ c))

-- a reading at which something can happen: a row is seen, a unit's paced reading comes, or the platform can close
abbrev pub IsCandidate : Graph → ℕ → State → ℕ → Type 0
IsCandidate g i s c =
    ((a : ℕ) × (row : Row) × (rest : List Row) × (s.left a ≡ row ∷ rest) × (c ≡ row.seen))
    ⊎ (((u : Unit) × (t : Tag) × HasEvent g s.waits u t × ((w : Tag) → HasEvent g s.waits u w → UpTo t w) × (s.busy u ≡ None) × IsPaced g u t c) ⊎ IsClosing g i c)

-- the next reading of a platform that is not closed: the least such reading
abbrev pub IsNextReading : Graph → ℕ → State → ℕ → Type 0
IsNextReading g i s c = IsCandidate g i s c × ((d : ℕ) → IsCandidate g i s d → c ≤ d)

-- the paced reading of unit u at tag t is at most c; on these
-- units and tags paced histories are settled after the rounds at c
abbrev pub paced_test : (Unit → Option ℤ) → ℕ → Unit → Tag → Bool
paced_test offset c u t = nat_le (paced_by (offset u) t) c
