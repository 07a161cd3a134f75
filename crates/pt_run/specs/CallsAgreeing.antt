-- Two calls of `run` over the same files.
use Rattle.std.specs.Prelude.{◌≡◌, ℕ, Bool, List, Option, Some}
use Rattle.pt_io.specs.Causes.{Appends}
use Rattle.pt_blocks.specs.declared.blocks.Named.{Named}
use Rattle.pt_turn.specs.All.{histories_of}
use Rattle.pt_turn.specs.Platforms.{PlatformView}
use Rattle.pt_io.specs.Calls.{Contents}
use Rattle.pt_words.specs.declared.orders.ClockChoice.{ClockChoice}
use Rattle.pt_words.specs.declared.orders.ClockChoice.TheVariants.{Machine, Paced, Step}
use Rattle.pt_run.specs.Agreeing.{ReportsAll}
use Rattle.pt_run.specs.Due.{Answer, IsDue}
use Rattle.pt_run.specs.RunsAgreeing.{AreFewReadings}
use Rattle.pt_run.specs.Statuses.{status_of}
use Rattle.pt_words.specs.Grammar.{GraphFile, over}
use Rattle.pt_run.specs.declared.fault.Fault.{Fault}
use Rattle.pt_run.specs.declared.fault.Fault.TheVariants as fault
use Rattle.pt_words.specs.declared.orders.Command.TheVariants.{Run}
use Rattle.pt_run.specs.Written.{stop_of}

-- memory did not run out, and no read and no write failed
abbrev pub IsUndisturbed : Option Fault → Type 0
IsUndisturbed (Some fault.Memory) = ⊥
IsUndisturbed (Some (fault.Read sensor)) = ⊥
IsUndisturbed (Some fault.ReadLog) = ⊥
IsUndisturbed (Some fault.ReadAir) = ⊥
IsUndisturbed (Some fault.Write) = ⊥
IsUndisturbed _ = Unit {0}

-- the words fix the readings of the clock: it is the paced one, or a clock of steps from which no platform read 2 ^ 64 times or more
abbrev pub IsFixed : ClockChoice → List PlatformView → Type 0
IsFixed Paced platforms = Unit {0}
IsFixed (Step start step) platforms = AreFewReadings platforms
IsFixed Machine platforms = ⊥

-- two calls end with the same status and misses, and leave the same histories; either no platform stopped them or the same one
-- with the same fault, as its status and its line say; and both wrote the same text
pub record EndAlike (a b : Answer) : Type 0 where
  pub status : status_of a.fault a.left.misses ≡ status_of b.fault b.left.misses
  pub misses : a.left.misses ≡ b.left.misses
  pub histories : (i : ℕ) → histories_of a.left.platforms i ≡ histories_of b.left.platforms i
  pub stop : stop_of a.fault ≡ stop_of b.fault
  pub text : (text : List ℕ) × Appends a.wrote.written_before a.wrote.written_now text × Appends b.wrote.written_before b.wrote.written_now text

-- two undisturbed calls of `run` by such a clock over the same files end alike, whatever the number of workers
abbrev pub CallsAgree : Type 0
CallsAgree = (workers others : ℕ) (clock : ClockChoice) (log : Bool) (contents : Contents) (blocks : List Named) (graph_file : GraphFile) (a b : Answer) → ReportsAll contents blocks graph_file →
    IsUndisturbed a.fault → IsUndisturbed b.fault → IsFixed clock a.left.platforms → IsFixed clock b.left.platforms →
    IsDue (Some (over (Run workers clock log) graph_file)) contents blocks a → IsDue (Some (over (Run others clock log) graph_file)) contents blocks b → EndAlike a b
