-- The orders that are answered without waiting: all but runs by clocks of their own.
use Rattle.std.specs.Prelude.{◌≡◌, ◌≤◌}
use Rattle.pt_words.specs.declared.orders.ClockChoice.{ClockChoice}
use Rattle.pt_words.specs.declared.orders.ClockChoice.TheVariants.{Machine, Paced, Step}
use Rattle.pt_words.specs.declared.orders.Command.{Command}
use Rattle.pt_words.specs.declared.orders.Command.TheVariants.{Run}
use Rattle.pt_words.specs.Grammar.{Order, over, make}
use Rattle.pt_run.specs.declared.own_run.OwnClock.{OwnClock}
use Rattle.pt_run.specs.declared.own_run.OwnClock.TheVariants as own
use Rattle.pt_run.specs.declared.own_run.OwnRun.{OwnRun}

-- any command but a run by a clock of its own
abbrev pub IsPromptFor : Command → Type 0
IsPromptFor (Run workers clock log) = clock ≡ Paced
IsPromptFor _ = Unit {0}

-- any order but such a run
abbrev pub IsPrompt : Order → Type 0
IsPrompt (over command graph) = IsPromptFor command
IsPrompt _ = Unit {0}

-- the number of a `make` is at most 100, as in all orders that words ask for
abbrev pub MakesFew : Order → Type 0
MakesFew (make number workers) = number ≤ 100
MakesFew _ = Unit {0}

-- The runs by clocks of their own.

-- the clock as words choose it
abbrev pub choice_of : OwnClock → ClockChoice
choice_of (own.Steps start step) = Step start step
choice_of own.Machine = Machine

-- the command as words ask for it
abbrev pub command_of : OwnRun → Command
command_of run = Run run.workers (choice_of run.clock) run.log
