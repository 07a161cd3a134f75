-- The offsets of the first units of actors.
use Rattle.std.specs.Prelude.{ℤ, None, Option, slice_index_or}
use Rattle.pt_offsets.specs.declared.table.Timing.{Timing}

-- the offset of an actor's first unit
abbrev pub first_offset : Timing → Option ℤ
first_offset t = slice_index_or t.offsets 0 None
