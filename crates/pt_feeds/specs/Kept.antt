-- What a sensor gives of a line, and what is kept of it for later.
use Rattle.std.specs.Prelude.{ℕ, ℤ, Option, Some, None, Result, Ok, Err, nat_le, unwrap_or, if◌then◌else◌}
use Rattle.pt_feeds.specs.declared.fault.RowFault.{RowFault}
use Rattle.pt_feeds.specs.declared.feeds.Fed.{Fed}
use Rattle.pt_feeds.specs.declared.feeds.Fed.TheVariants as fed
use Rattle.pt_feeds.specs.declared.sample.Sample.{Sample}

-- a row is given at this reading, unless its time is ahead
abbrev pub row_gives : ℕ → ℕ → ℤ → Fed
row_gives reading time value = if nat_le time reading then fed.Row time value else fed.Nothing

-- a row whose time is ahead of this reading is kept
abbrev pub row_keeps : ℕ → ℕ → ℤ → Option (ℕ × ℤ)
row_keeps reading time value = if nat_le time reading then None else Some (time, value)

-- what is given of a line at this reading. A row that doesn't say its time has that of the reading
abbrev pub line_gives : ℕ → Result Sample RowFault → Fed
line_gives reading (Ok sample) = row_gives reading (unwrap_or sample.time reading) sample.value
line_gives reading (Err fault) = fed.NoRow fault

-- what is kept of a line at this reading, if nothing was kept before
abbrev pub line_keeps : ℕ → Result Sample RowFault → Option (ℕ × ℤ)
line_keeps reading (Ok sample) = row_keeps reading (unwrap_or sample.time reading) sample.value
line_keeps reading (Err fault) = None
