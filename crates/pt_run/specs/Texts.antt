-- What a call leaves, and which text it puts.
use Rattle.std.specs.Prelude.{◌≡◌, ◌⊎◌, ℕ, List, [], Option, Some, None, Result, Ok, Err}
use Rattle.pt_io.specs.Causes.{Rose, Appends, AppendsPart}
use Rattle.pt_history.specs.declared.miss.Miss.{Miss}
use Rattle.pt_io.specs.Clocks.{ClockView}
use Rattle.pt_turn.specs.Platforms.{PlatformView}
use Rattle.pt_run.specs.declared.outputs.Outputs.{Outputs}
use Rattle.pt_run.specs.declared.fault.Fault.{Fault}
use Rattle.pt_run.specs.declared.fault.Fault.TheVariants as fault
use Rattle.pt_run.specs.declared.outcome.Ending.{Ending}
use Rattle.pt_run.specs.declared.outcome.Outcome.{Outcome}
use Rattle.pt_run.specs.declared.outcome.Stopped.{Stopped}
use Rattle.pt_run.specs.Clocks.{read_for, read_in}
use Rattle.pt_words.specs.Grammar.{Order}
use Rattle.pt_words.specs.declared.orders.Command.{Command}
use Rattle.pt_run.specs.Written.{Leaves, leaves_nothing}
use Rattle.pt_io.specs.Calls.{SinkCall}
use Rattle.pt_run.specs.Runs.{outputs_text}

-- what a call that ended so leaves, with what the clocks that its run read showed before it and after it
abbrev pub left_with : Ending → List ClockView → List ClockView → Leaves
left_with o before now = record { misses = o.misses; platforms = o.platforms.items; before = before; now = now }

-- what a call that ended so leaves, if its run read no clock that was handed in
abbrev pub left_by : Ending → Leaves
left_by o = left_with o [] []

-- what a command leaves
abbrev pub left_over : Ending → Command → List ClockView → List ClockView → Leaves
left_over o command before now = left_with o (read_for command before) (read_for command now)

-- what an order leaves
abbrev pub left_at : Ending → Option Order → List ClockView → List ClockView → Leaves
left_at o order before now = left_with o (read_in order before) (read_in order now)

-- what an outcome leaves
abbrev pub left_of : {C : Type 0} → Outcome C → Option Order → List ClockView → List ClockView → Leaves
left_of o order before now = record { misses = o.misses; platforms = o.platforms.items; before = read_in order before; now = read_in order now }

-- a text was put on a sink: all of it, without a fault, or a prefix, if a put failed
abbrev pub PutBy : Option Fault → List ℕ → SinkCall → Type 0
PutBy None text w = Appends w.written_before w.written_now text
PutBy (Some f) text w = (f ≡ fault.Write) × Rose w.before w.now × AppendsPart w.written_before w.written_now text

-- an outcome is this fault, or there was no memory for its line
abbrev pub OrMemory : Option Fault → Fault → Type 0
OrMemory outcome f = (outcome ≡ Some f) ⊎ (outcome ≡ Some fault.Memory)

-- a call puts the text of what was made, or reports the fault; it leaves nothing
abbrev pub PutsOrReports : {X : Type 0} → (X → List ℕ) → Result X Fault → Ending → SinkCall → Type 0
PutsOrReports text (Ok made) o w = (left_by o ≡ leaves_nothing) × PutBy o.fault (text made) w
PutsOrReports text (Err f) o w = (left_by o ≡ leaves_nothing) × OrMemory o.fault f × (w.written_now ≡ w.written_before)

-- the misses and the platforms of a run that read no clock that was handed in
abbrev pub left_by_run : List Miss → List PlatformView → Leaves
left_by_run misses platforms = record { misses = misses; platforms = platforms; before = []; now = [] }

-- the text of a run that finished was put, all of it or a prefix; if all of it, the outcome has its misses
abbrev pub WroteRun : Outputs → Ending → SinkCall → Type 0
WroteRun ran o w =
    ((o.fault ≡ None) × (left_by o ≡ left_by_run ran.misses.items ran.platforms.items) × Appends w.written_before w.written_now (outputs_text ran))
    ⊎ ((o.fault ≡ Some fault.Write) × (left_by o ≡ left_by_run [] ran.platforms.items) × Rose w.before w.now × AppendsPart w.written_before w.written_now (outputs_text ran))

-- a run that did not finish left these platforms with a fault, or memory ran out
abbrev pub LeftAll : Fault → List PlatformView → Ending → Type 0
LeftAll f platforms o = ((o.fault ≡ Some f) × (left_by o ≡ left_by_run [] platforms)) ⊎ ((o.fault ≡ Some fault.Memory) × (left_by o ≡ leaves_nothing))

-- the fault of an answer
abbrev pub fault_in : {X : Type 0} → Result X Fault → Option Fault
fault_in (Ok answer) = None
fault_in (Err f) = Some f

-- the fault of a run
abbrev pub stop_in : Result Outputs Stopped → Option Fault
stop_in (Ok ran) = None
stop_in (Err s) = Some s.fault

-- a run that finished is written, and another one is reported
abbrev pub HasEnded : Result Outputs Stopped → Ending → SinkCall → Type 0
HasEnded (Ok ran) o w = WroteRun ran o w
HasEnded (Err s) o w = LeftAll s.fault s.platforms.items o × (w.written_now ≡ w.written_before)
