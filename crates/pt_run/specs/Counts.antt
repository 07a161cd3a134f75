-- What a call leaves of the counts of failed reads and writes, before it and after it.
use Rattle.std.specs.Prelude.{◌≡◌, ℕ, Option, Some}
use Rattle.pt_run.specs.declared.fault.Fault.{Fault}
use Rattle.pt_run.specs.declared.fault.Fault.TheVariants as fault

-- the source's count is as before, unless a file could not be read or memory ran out
abbrev pub LeavesReads : Option Fault → ℕ → ℕ → Type 0
LeavesReads (Some (fault.Read sensor)) before now = Unit {0}
LeavesReads (Some fault.ReadLog) before now = Unit {0}
LeavesReads (Some fault.ReadAir) before now = Unit {0}
LeavesReads (Some fault.Memory) before now = Unit {0}
LeavesReads outcome before now = now ≡ before

-- the sink's count is as before, unless a write failed or memory ran out
abbrev pub LeavesWrites : Option Fault → ℕ → ℕ → Type 0
LeavesWrites (Some fault.Write) before now = Unit {0}
LeavesWrites (Some fault.Memory) before now = Unit {0}
LeavesWrites outcome before now = now ≡ before
