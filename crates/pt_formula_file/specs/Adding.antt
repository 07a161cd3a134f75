-- What a file of formulas adds to blocks.
use Rattle.std.specs.Prelude.{◌≡◌, ℕ, nat_le, List, [], ◌∷◌, ◌++◌, length, Result, Ok, Err, ⊤, if◌then◌else◌}
use Rattle.pt_types.specs.declared.kind.Law.TheVariants.{Formula}
use Rattle.pt_formula.specs.declared.file.FileFault.{FileFault}
use Rattle.pt_formula.specs.declared.file.FileFault.TheVariants as file
use Rattle.pt_formula.specs.Lines.{Defined, Read, read_from}
use Rattle.pt_blocks.specs.declared.blocks.Named.{Named}
use Rattle.pt_blocks.specs.Blocks.{has_block, named}
use Rattle.pt_formula_file.specs.declared.fault.FormulaFault.{FormulaFault}
use Rattle.pt_formula_file.specs.declared.fault.FormulaFault.TheVariants.{Memory, TooLong, Line, Block}
use Rattle.pt_formula_file.specs.declared.fault.NotAdded.TheVariants.{Repeated, Full}

-- the blocks after formulas were added, or why one wasn't
abbrev pub Added : Type 0
Added = Result (List Named) FormulaFault

-- a definition (the number of its line, its name, its steps) becomes a block, unless a block has its name or there are 64
abbrev pub with_formula : List Named → Defined → Added
with_formula blocks d =
    if has_block blocks d.1 then Err (Block d.0 Repeated) else (
    if nat_le 64 (length blocks) then Err (Block d.0 Full) else Ok (blocks ++ named d.1 (Formula d.2) ∷ []))

-- what is added goes on with the blocks so far
abbrev pub and_then : Added → (List Named → Added) → Added
and_then (Ok blocks) next = next blocks
and_then (Err f) next = Err f

-- all definitions of a file, in its order
abbrev pub with_formulas : List Named → List Defined → Added
with_formulas blocks [] = Ok blocks
with_formulas blocks (d ∷ ds) = and_then (with_formula blocks d) (λ more. with_formulas more ds)

-- the lines of a file: those of all definitions, or the first that is refused
abbrev pub with_lines : List Named → Read → Added
with_lines blocks (Ok defined) = with_formulas blocks defined
with_lines blocks (Err why) = Err (Line why.0 why.1 why.2)

-- the blocks that a file with these bytes leaves behind these blocks, or why it is refused
unfoldable pub blocks_of : List Named → List ℕ → Added
blocks_of blocks bytes = if nat_le (length bytes) 65536 then with_lines blocks (read_from 1 0 bytes) else Err TooLong

-- the fault of a file whose lines are refused
abbrev pub fault_of_file : FileFault → FormulaFault
fault_of_file file.Memory = Memory
fault_of_file (file.Line line at why) = Line line at why

-- the program added these blocks, or refused the file for this; memory may have run out
abbrev pub IsAdded : Added → List Named → Result ⊤ FormulaFault → Type 0
IsAdded added listed (Ok done) = added ≡ Ok listed
IsAdded added listed (Err Memory) = Unit {0}
IsAdded added listed (Err f) = added ≡ Err f
