-- The invariant of groups of cells.
use Rattle.std.specs.Prelude.{◌≡◌, ◌+◌, ◌*◌, ◌<◌, ◌≤◌, ◌^◌, length, vec_capacity, vec_len}
use Rattle.pt_history.specs.declared.cells.Cells.TheInside.{Inside}
use Rattle.pt_history.specs.Cells.{AreSums, IsNear, ones_in}

-- each bit has its value, the sums and the near group are right, and the promised room is allocated
pub record AreCells (c : Inside) : Type 0 where
  pub values : length c.values.items ≡ ones_in c.masks.items
  pub sums : AreSums c.sums.items c.masks.items
  pub near : IsNear c.masks.items c.near_group c.near_start
  pub masks_room : vec_len c.masks + c.spare ≤ vec_capacity c.masks
  pub values_room : vec_len c.values + 9 * c.spare ≤ vec_capacity c.values
  pub sums_room : vec_len c.sums + c.spare ≤ vec_capacity c.sums
  pub fits : length c.values.items + 9 * c.spare < 2 ^ 32
