-- The invariant of stored starts.
use Rattle.std.specs.Prelude.{◌≡◌, ◌+◌, ◌-◌, ◌<◌, ◌≤◌, ◌^◌, length, slice_index_or, vec_capacity, vec_len}
use Rattle.pt_history.specs.declared.list_starts.ListStarts.TheInside.{Inside}
use Rattle.pt_history.specs.Indices.{AreBelow}
use Rattle.pt_history.specs.Numbers.{numbers_with}

-- each index is that of a start, the last index is that of the last start, and the promised room is allocated
pub record AreListStarts (s : Inside) : Type 0 where
  pub below : AreBelow (length (numbers_with s.in_order s.stored.items)) s.indices.indices
  pub last : slice_index_or s.indices.indices (length s.indices.indices - 1) 0 ≡ length (numbers_with s.in_order s.stored.items) - 1
  pub room : vec_len s.stored + s.indices.spare ≤ vec_capacity s.stored
  pub fits : s.in_order + length s.stored.items + s.indices.spare < 2 ^ 32
