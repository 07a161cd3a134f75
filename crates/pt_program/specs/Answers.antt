-- How a command line is answered: `--blocks FILE` adds blocks to those of the program, and then the call goes as ever.
use Rattle.std.specs.Prelude.{◌≡◌, ◌⊎◌, ℕ, List, [], ◌∷◌, Option, None, Some, String, string_bytes, map, option_and_then, Ok, Err}
use Rattle.std.specs.declared.alloc.Global.{Global}
use Rattle.pt_io.specs.Calls.{Contents, SinkCall, SourceCall}
use Rattle.pt_io.specs.Causes.{AddsName}
use Rattle.pt_blocks.specs.declared.blocks.Named.{Named}
use Rattle.pt_words.specs.Grammar.{Order, order_of, order_with, verb_of}
use Rattle.pt_formula_file.specs.declared.fault.FormulaFault.{FormulaFault}
use Rattle.pt_formula_file.specs.declared.fault.FormulaFault.TheVariants.{Read}
use Rattle.pt_formula_file.specs.Adding.{blocks_of}
use Rattle.pt_formula_file.specs.Fetching.{IsUnread, OfBytes}
use Rattle.pt_formula_file.specs.Lines.{fault_line}
use Rattle.pt_formula_file.specs.Option.{option_of}
use Rattle.pt_run.specs.declared.fault.Fault.{Fault}
use Rattle.pt_run.specs.Complete.{IsComplete}
use Rattle.pt_run.specs.Due.{IsDue, as_answer}
use Rattle.pt_run.specs.InBounds.{IsCompleteInBounds}
use Rattle.pt_run.specs.Reporting.{IsPut}
use Rattle.pt_run.specs.Statuses.{status_of}
use Rattle.pt_run.specs.Written.{Leaves}

-- a call for this order with these blocks ended with this status
pub record Answered (status : ℕ) (order : Option Order) (contents : Contents) (blocks : List Named) (r : SourceCall) (w : SinkCall) : Type 0 where
  -- the status is that of a fault, or of none, with which the command may end so
  pub ended : (fault : Option Fault) × (left : Leaves) × (status ≡ status_of fault left.misses) × IsDue order contents blocks (as_answer fault left r w)
  pub complete : IsComplete status order contents blocks r w
  pub complete_in_bounds : IsCompleteInBounds status order contents blocks r w

-- the order of words as bytes
abbrev pub order_in : List (List ℕ) → Option Order
order_in [] = None
order_in (word ∷ words) = option_and_then (λ verb. order_with verb words) (verb_of word)

-- a call ended with this status, and wrote nothing
abbrev pub EndsEarly : ℕ → ℕ → SinkCall → Type 0
EndsEarly code status w = (status ≡ code) × (w.written_now ≡ w.written_before)

-- what a source was asked for after this file, which was asked for first and read
pub record IsAfter (file : List ℕ) (whole rest : SourceCall) : Type 0 where
  pub name : AddsName whole.asked_before rest.asked_before file
  pub count : rest.before ≡ whole.before
  pub names_now : rest.asked_now ≡ whole.asked_now
  pub count_now : rest.now ≡ whole.now

-- a call for an order and a file of formulas: memory ran out; or the file couldn't be read; or it is refused, by a line on notes; or
-- the call goes on with the blocks that the file leaves
abbrev pub IsAnswerOver : List ℕ → ℕ → Option Order → Contents → List Named → SourceCall → SinkCall → SinkCall → Type 0
IsAnswerOver file status order contents blocks r w n =
    EndsEarly 9 status w
    ⊎ ((EndsEarly 7 status w × IsUnread file r × IsPut (fault_line Read) n)
    ⊎ ((EndsEarly 2 status w × OfBytes (contents file) (λ bytes. (f : FormulaFault) × (blocks_of blocks bytes ≡ Err f) × IsPut (fault_line f) n))
    ⊎ (OfBytes (contents file) (λ bytes. (more : List Named) × (blocks_of blocks bytes ≡ Ok more) × (rest : SourceCall) × IsAfter file r rest × Answered status order contents more rest w))))

-- no file is read for a command line that isn't valid
abbrev pub IsAnswerTo : List ℕ → ℕ → Option Order → Contents → List Named → SourceCall → SinkCall → SinkCall → Type 0
IsAnswerTo file status None contents blocks r w n = EndsEarly 9 status w ⊎ Answered status None contents blocks r w
IsAnswerTo file status (Some order) contents blocks r w n = IsAnswerOver file status (Some order) contents blocks r w n

-- with the option, or without
abbrev pub IsAnswerBy : Option (List ℕ × List (List ℕ)) → ℕ → Option Order → Contents → List Named → SourceCall → SinkCall → SinkCall → Type 0
IsAnswerBy None status order contents blocks r w n = Answered status order contents blocks r w
IsAnswerBy (Some option) status order contents blocks r w n = IsAnswerTo option.0 status (order_in option.1) contents blocks r w n

-- the answer to a command line; without the option it is that of the call, or memory ran out before it
abbrev pub IsAnswer : ℕ → List (String Global) → Contents → List Named → SourceCall → SinkCall → SinkCall → Type 0
IsAnswer status words contents blocks r w n =
    EndsEarly 9 status w ⊎ IsAnswerBy (option_of (map string_bytes words)) status (order_of words) contents blocks r w n
