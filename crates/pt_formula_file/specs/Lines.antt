-- The line that reports why a file of formulas is refused, and its status.
use Rattle.std.specs.Prelude.{ℕ, List, [], ◌∷◌, ◌++◌, ◌+◌, codes}
use Rattle.std.specs.Fmt.{decimal}
use Rattle.pt_formula.specs.declared.step.One.TheVariants.{Absolute, Not}
use Rattle.pt_formula.specs.declared.step.Two.TheVariants.{Lesser, Greater}
use Rattle.pt_formula.specs.declared.step.Three.TheVariants.{Clamp, Scale, Choose}
use Rattle.pt_formula.specs.declared.token.NamedFunction.{NamedFunction}
use Rattle.pt_formula.specs.declared.token.NamedFunction.TheVariants.{Unary, Binary, Ternary}
use Rattle.pt_formula.specs.declared.token.Refusal.{Refusal}
use Rattle.pt_formula.specs.declared.token.Refusal.TheVariants.{NoValue, NoOpening, NoSign, Chained, Unopened, Unclosed, Uncalled, Count, Long}
use Rattle.pt_formula.specs.declared.lexer.Unknown.{Unknown}
use Rattle.pt_formula.specs.declared.lexer.Unknown.TheVariants.{Character, HalfSign, TooLarge, NoName}
use Rattle.pt_formula.specs.declared.lines.Wrong.{Wrong}
use Rattle.pt_formula.specs.declared.lines.Wrong.TheVariants as wrong
use Rattle.pt_formula_file.specs.declared.fault.NotAdded.{NotAdded}
use Rattle.pt_formula_file.specs.declared.fault.NotAdded.TheVariants.{Repeated, Full}
use Rattle.pt_formula_file.specs.declared.fault.FormulaFault.{FormulaFault}
use Rattle.pt_formula_file.specs.declared.fault.FormulaFault.TheVariants as fault

-- why there is no word
abbrev pub unknown_text : Unknown → List ℕ
unknown_text Character = codes "unknown character"
unknown_text HalfSign = codes "half a sign"
unknown_text TooLarge = codes "number too large"
unknown_text NoName = codes "unknown word"

-- the name of a function; what is written by a sign is never called
abbrev pub function_name : NamedFunction → List ℕ
function_name (Unary Not) = codes "not"
function_name (Unary Absolute) = codes "abs"
function_name (Binary Lesser) = codes "min"
function_name (Binary Greater) = codes "max"
function_name (Ternary Clamp) = codes "clamp"
function_name (Ternary Scale) = codes "scale"
function_name (Ternary Choose) = codes "if"
function_name _ = codes "a sign"

-- how many values it takes
abbrev pub count_text : NamedFunction → List ℕ
count_text (Unary f) = codes "1 value"
count_text (Binary f) = codes "2 values"
count_text (Ternary f) = codes "3 values"

-- why words are no formula; `wrong_text` says it of a wrong count
abbrev pub refusal_text : Refusal → List ℕ
refusal_text NoValue = codes "no value"
refusal_text NoOpening = codes "no ("
refusal_text NoSign = codes "no sign"
refusal_text Chained = codes "tests in a row"
refusal_text Unopened = codes ") without ("
refusal_text Unclosed = codes "( without )"
refusal_text Uncalled = codes ", outside a call"
refusal_text (Count f) = codes "wrong count"
refusal_text Long = codes "more than 64 steps"

-- why a line is refused
abbrev pub wrong_text : Wrong → List ℕ
wrong_text wrong.Name = codes "no name"
wrong_text wrong.Equals = codes "no ="
wrong_text (wrong.Word unknown) = unknown_text unknown
wrong_text (wrong.Formula (Count f)) = function_name f ++ codes " takes " ++ count_text f
wrong_text (wrong.Formula refusal) = refusal_text refusal

-- why a formula doesn't become a block
abbrev pub not_added_text : NotAdded → List ℕ
not_added_text Repeated = codes "repeated name"
not_added_text Full = codes "more than 64 blocks"

-- the line of each fault: columns are numbered from 1
abbrev pub fault_line : FormulaFault → List ℕ
fault_line fault.Memory = codes "memory" ++ 10 ∷ []
fault_line fault.Read = codes "read fault: blocks" ++ 10 ∷ []
fault_line fault.TooLong = codes "blocks: too long" ++ 10 ∷ []
fault_line (fault.Line line at why) = codes "blocks: line " ++ decimal line ++ codes " column " ++ decimal (at + 1) ++ codes ": " ++ wrong_text why ++ 10 ∷ []
fault_line (fault.Block line why) = codes "blocks: line " ++ decimal line ++ codes ": " ++ not_added_text why ++ 10 ∷ []

-- its status
abbrev pub status_of : FormulaFault → ℕ
status_of fault.Memory = 9
status_of fault.Read = 7
status_of _ = 2
