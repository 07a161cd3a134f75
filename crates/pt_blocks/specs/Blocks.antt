-- Blocks as a list of names and laws.
use Rattle.std.specs.Prelude.{◌≡◌, ℕ, ◌≤◌, Bool, true, List, length, bytes_eq, position, Option, option_map, slice_get, Result, Ok, Err, ⊤, false, ◌<◌}
use Rattle.std.specs.List.{list_any, list_all}
use Rattle.pt_types.specs.declared.kind.Law.{Law}
use Rattle.pt_blocks.specs.declared.blocks.Named.{Named}
use Rattle.pt_blocks.specs.declared.blocks.BlockFault.{BlockFault}
use Rattle.pt_blocks.specs.declared.blocks.BlockFault.TheVariants as fault
use Rattle.pt_types.specs.Kinds.{law_in_range}

abbrev pub named : List ℕ → Law → Named
named name law = record { name = name; law = law }

-- the number of the block with this name
abbrev pub find_block : List Named → List ℕ → Option ℕ
find_block blocks name = position (λ (b : Named). bytes_eq b.name name) blocks

-- there is a block with this name
abbrev pub has_block : List Named → List ℕ → Bool
has_block blocks name = list_any (λ (b : Named). bytes_eq b.name name) blocks

-- the law of the block with this number, and its name
abbrev pub law_at : List Named → ℕ → Option Law
law_at blocks n = option_map (λ (b : Named). b.law) (slice_get blocks n)

abbrev pub name_at : List Named → ℕ → Option (List ℕ)
name_at blocks n = option_map (λ (b : Named). b.name) (slice_get blocks n)

-- at most 64 blocks, with laws in range
abbrev pub AreBlocks : List Named → Type 0
AreBlocks blocks = (length blocks ≤ 64) × (list_all (λ (b : Named). law_in_range b.law) blocks ≡ true)

-- what adding a block with this name gives: Repeated exactly if a
-- block has the name, Full exactly if there are 64 and none has it
abbrev pub RefusesBlock : List Named → List ℕ → Result ⊤ BlockFault → Type 0
RefusesBlock blocks name (Ok done) = (has_block blocks name ≡ false) × (length blocks < 64)
RefusesBlock blocks name (Err fault.Memory) = (has_block blocks name ≡ false) × (length blocks < 64)
RefusesBlock blocks name (Err fault.Repeated) = has_block blocks name ≡ true
RefusesBlock blocks name (Err fault.Full) = (has_block blocks name ≡ false) × (length blocks ≡ 64)
