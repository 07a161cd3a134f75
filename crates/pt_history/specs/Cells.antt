-- Nine optional values each, stored one after another: a mask of those that are there, and their values.
use Rattle.std.specs.Prelude.{◌≡◌, ◌≤◌, ◌+◌, ◌*◌, ◌/◌, ◌%◌, ◌<◌, ◌++◌, ℕ, zero, suc, List, [], ◌∷◌, Option, None, Some, ℤ, pos, count_ones, drop, if◌then◌else◌, length, slice_index_or, take, unwrap_or}
use Rattle.std.specs.List.{sum_by}
use Rattle.std.specs.Ordering.{int_eq}

-- groups of nine optional values, and the room left for more groups
pub record RoomyCells : Type 0 where
  pub cells : List (List (Option ℤ))
  pub spare : ℕ

-- a state as an optional value: None for 0
abbrev pub nonzero : ℤ → Option ℤ
nonzero q = if int_eq q (pos 0) then None else Some q

-- the values at eight ports and a state
abbrev pub cells_of : List (Option ℤ) → ℤ → List (Option ℤ)
cells_of ports state = ports ++ nonzero state ∷ []

-- the ports of such nine
abbrev pub ports_in : List (Option ℤ) → List (Option ℤ)
ports_in cells = take 8 cells

-- the state of such nine
abbrev pub state_in : List (Option ℤ) → ℤ
state_in cells = unwrap_or (slice_index_or cells 8 None) (pos 0)

-- no values at the ports after port 1
abbrev pub six_absent : List (Option ℤ)
six_absent = None ∷ None ∷ None ∷ None ∷ None ∷ None ∷ []

-- 1 if a cell has a value, else 0
abbrev pub bit_of : Option ℤ → ℕ
bit_of None = 0
bit_of (Some v) = 1

-- the value of a cell, if it has one
abbrev pub value_in : Option ℤ → List ℤ
value_in None = []
value_in (Some v) = v ∷ []

-- the mask of cells: bit k is set if cell k has a value
abbrev pub mask_of : List (Option ℤ) → ℕ
mask_of [] = 0
mask_of (cell ∷ cells) = bit_of cell + 2 * mask_of cells

-- the values that are there
abbrev pub values_in : List (Option ℤ) → List ℤ
values_in [] = []
values_in (cell ∷ cells) = value_in cell ++ values_in cells

-- the first of these values if the bit is 1, and none if it is 0
abbrev pub cell_of : ℕ → List ℤ → Option ℤ
cell_of zero values = None
cell_of (suc n) values = Some (slice_index_or values 0 (pos 0))

-- that many cells, of which the mask says which have a value, and these values
abbrev pub cells_from : ℕ → ℕ → List ℤ → List (Option ℤ)
cells_from zero mask values = []
cells_from (suc n) mask values = cell_of (mask % 2) values ∷ cells_from n (mask / 2) (drop (mask % 2) values)

-- the nine cells of a mask
unfoldable pub group_of : ℕ → List ℤ → List (Option ℤ)
group_of mask values = cells_from 9 mask values

-- the groups of these masks: each has as many of the values as its mask has bits
abbrev pub groups_of : List ℕ → List ℤ → List (List (Option ℤ))
groups_of [] values = []
groups_of (mask ∷ masks) values = group_of mask values ∷ groups_of masks (drop (count_ones mask) values)

-- how many values these masks have
abbrev pub ones_in : List ℕ → ℕ
ones_in masks = sum_by count_ones masks

-- for each 8 of these masks, how many values are before them
pub record AreSums (sums masks : List ℕ) : Type 0 where
  pub many : length sums ≡ (length masks + 7) / 8
  pub each : (j : ℕ) → j < length sums → slice_index_or sums j 0 ≡ ones_in (take (8 * j) masks)

-- a place: a group or the end, and how many values are before it
pub record IsNear (masks : List ℕ) (group start : ℕ) : Type 0 where
  pub within : group ≤ length masks
  pub before : start ≡ ones_in (take group masks)
