-- The invariant of stored indices.
use Rattle.std.specs.Prelude.{◌≡◌, ◌+◌, ◌-◌, ◌/◌, ◌%◌, ◌^◌, ◌<◌, ◌≤◌, ◌++◌, ◌∷◌, [], count_ones, length, slice_index_or, vec_capacity}
use Rattle.pt_history.specs.declared.indices.Indices.TheInside.{Inside}
use Rattle.pt_history.specs.Indices.{indices_from}

-- all blocks but the newest are full, `last` is the last index, and the promised room is allocated
pub record AreIndices (n : Inside) : Type 0 where
  pub blocks : length n.blocks.items ≡ n.count / 64
  pub bits : n.newest.bits < 2 ^ (n.count % 64)
  pub rises : n.last ≡ n.newest.base + count_ones n.newest.bits
  pub last : n.last ≡ slice_index_or (indices_from (n.blocks.items ++ n.newest ∷ []) 0 n.count) (n.count - 1) 0
  pub count : n.count ≤ n.limit
  pub room : n.limit / 64 ≤ vec_capacity n.blocks
