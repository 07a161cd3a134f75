-- Indices in blocks of 64.
use Rattle.std.specs.Prelude.{◌+◌, ◌/◌, ◌%◌, ◌^◌, ◌<◌, ◌++◌, ℕ, zero, suc, List, [], ◌∷◌, count_ones, slice_index_or, take, drop}
use Rattle.pt_history.specs.declared.indices.Block.{Block}

-- indices, and the room left for more
pub record RoomyIndices : Type 0 where
  pub indices : List ℕ
  pub spare : ℕ

-- the default past the end of a list of blocks
abbrev pub no_block : Block
no_block = record { base = 0; bits = 0 }

-- index `number` of a block: how many bits are set up to its own, added to the base
abbrev pub index_in : Block → ℕ → ℕ
index_in block number = block.base + count_ones (block.bits % 2 ^ (number + 1))

-- index `number` of these blocks
abbrev pub index_at : List Block → ℕ → ℕ
index_at blocks number = index_in (slice_index_or blocks (number / 64) no_block) (number % 64)

-- that many indices of these blocks, the first of which has number k
abbrev pub indices_from : List Block → ℕ → ℕ → List ℕ
indices_from blocks k zero = []
indices_from blocks k (suc n) = index_at blocks k ∷ indices_from blocks (k + 1) n

-- items, and the room left for more
pub record RoomyItems (X : Type 0) : Type 0 where
  pub items : List X
  pub spare : ℕ

-- the values at these indices
abbrev pub values_at : {X : Type 0} → List X → List ℕ → List X
values_at values [] = []
values_at values (i ∷ indices) = take 1 (drop i values) ++ values_at values indices

-- each index is below n
abbrev pub AreBelow : ℕ → List ℕ → Type 0
AreBelow n [] = Unit {0}
AreBelow n (i ∷ indices) = (i < n) × AreBelow n indices
