-- The clocks that were handed in, after a call.
use Rattle.std.specs.Prelude.{◌≡◌, [], List, Option, Some, false, length}
use Rattle.pt_io.specs.Clocks.{ClockView}
use Rattle.pt_words.specs.declared.orders.ClockChoice.{ClockChoice}
use Rattle.pt_words.specs.declared.orders.ClockChoice.TheVariants.{Machine}
use Rattle.pt_run.specs.Readings.{read_by}
use Rattle.pt_run.specs.Written.{has_run}
use Rattle.pt_run.specs.declared.fault.Fault.{Fault}
use Rattle.pt_words.specs.declared.orders.Command.{Command}
use Rattle.pt_words.specs.declared.orders.Command.TheVariants.{Run}
use Rattle.pt_words.specs.Grammar.{Order, over}

-- those of the clocks handed in that a command reads
abbrev pub read_for : Command → List ClockView → List ClockView
read_for (Run workers clock log) views = read_by clock views
read_for _ views = []

-- those that a call reads
abbrev pub read_in : Option Order → List ClockView → List ClockView
read_in (Some (over command graph)) views = read_for command views
read_in _ views = []

-- after a run: if a run by the machine's clock began, as many clocks come back, and `ReadByClocks` says which were read; else
-- all come back as they were
abbrev pub AreBackBy : {C : Type 0} → ClockChoice → Option Fault → List C → List C → Type 0
AreBackBy Machine outcome before now = (length now ≡ length before) × (has_run outcome ≡ false → now ≡ before)
AreBackBy _ outcome before now = now ≡ before

-- a run by the machine's clock returns as many clocks, and any other returns them as they were
abbrev pub AreAsMany : {C : Type 0} → ClockChoice → List C → List C → Type 0
AreAsMany Machine before now = length now ≡ length before
AreAsMany _ before now = now ≡ before

-- after a command
abbrev pub AreBackFor : {C : Type 0} → Command → Option Fault → List C → List C → Type 0
AreBackFor (Run workers clock log) outcome before now = AreBackBy clock outcome before now
AreBackFor _ outcome before now = now ≡ before

-- after a call
abbrev pub AreBack : {C : Type 0} → Option Order → Option Fault → List C → List C → Type 0
AreBack (Some (over command graph)) outcome before now = AreBackFor command outcome before now
AreBack _ outcome before now = now ≡ before
