-- The rows of a table of delays, and the numbers of units in it.
use Rattle.std.specs.Prelude.{ℕ, ◌+◌, ◌==◌, if◌then◌else◌, nat_lt, List, [], Option, None, Some, slice_index_or}
use Rattle.pt_tags.specs.declared.tag.Delay.{Delay}
use Rattle.pt_types.specs.declared.graph.Unit.{Unit}

-- the delay in a cell; the greatest 64-bit time means that there is none
abbrev pub held_in : Delay → Option Delay
held_in d = if d.time == 18446744073709551615 then None else Some d

-- the number of an actor's first unit; 0 if there is no such actor
abbrev pub first_in : List ℕ → ℕ → ℕ
first_in firsts a = slice_index_or firsts a 0

-- a unit's number: its group plus the number of its actor's first unit; or a number past all units, if this is not below
-- the number of the next actor's first unit
unfoldable pub number_in : List ℕ → Unit → ℕ
number_in firsts u = if nat_lt (first_in firsts u.actor + u.group) (first_in firsts (u.actor + 1)) then first_in firsts u.actor + u.group else 4294967295

-- the delay at a place of a row
abbrev pub delay_at : List (Option Delay) → ℕ → Option Delay
delay_at row k = slice_index_or row k None

-- the row at a place of a table
abbrev pub delay_row_at : List (List (Option Delay)) → ℕ → List (Option Delay)
delay_row_at rows i = slice_index_or rows i []
