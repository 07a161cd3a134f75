-- The entries of a list of timings.
use Rattle.std.specs.Prelude.{ℕ, [], List, None, slice_index_or}
use Rattle.pt_offsets.specs.declared.table.Timing.{Timing}

-- the entry of an actor past the end: nothing is present
abbrev pub no_timing : Timing
no_timing = record { bound = None; offsets = []; offset = None; margin = None }

abbrev pub timing_at : List Timing → ℕ → Timing
timing_at timings a = slice_index_or timings a no_timing
