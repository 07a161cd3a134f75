-- Rows that are seen past their sensor's bound.
use Rattle.std.specs.Prelude.{ℕ, ◌+◌, nat_lt, nat_le, Bool, ◌&&◌, List, Option, option_map, position}
use Rattle.pt_types.specs.declared.rows.Row.{Row}

-- a row up to the horizon that is seen more than the bound after its time
abbrev pub is_late_row : ℕ → ℕ → Row → Bool
is_late_row bound until row = nat_le row.time until && nat_lt (row.time + bound) row.seen

-- the number of the first late row, from 1
abbrev pub late_row : ℕ → ℕ → List Row → Option ℕ
late_row bound until rows = option_map (λ i. i + 1) (position (λ (row : Row). is_late_row bound until row) rows)
