-- A file of formulas: lines NAME = FORMULA. `#` begins a comment.
use Rattle.std.specs.Prelude.{◌≡◌, ℕ, zero, suc, ◌+◌, ◌&&◌, Bool, nat_eq, nat_le, List, [], ◌∷◌, map, length, take, drop, slice_index, Option, Some, None, Result, Ok, Err, if◌then◌else◌, ⊤, ◌==◌, not, ◌++◌}
use Rattle.std.specs.List.{prefix_len}
use Rattle.std.specs.declared.alloc.Global.{Global}
use Rattle.std.specs.declared.vec.Vec.{Vec}
use Rattle.pt_formula.specs.declared.step.Step.{Step}
use Rattle.pt_formula.specs.declared.token.Refusal.{Refusal}
use Rattle.pt_formula.specs.declared.token.Token.{Token}
use Rattle.pt_formula.specs.declared.token.Expects.TheVariants.{Value}
use Rattle.pt_formula.specs.declared.lexer.Placed.{Placed}
use Rattle.pt_formula.specs.declared.lexer.Unknown.{Unknown}
use Rattle.pt_formula.specs.declared.lines.Wrong.{Wrong}
use Rattle.pt_formula.specs.declared.lines.Wrong.TheVariants.{Name, Equals, Word, Formula}
use Rattle.pt_formula.specs.declared.lines.LineFault.{LineFault}
use Rattle.pt_formula.specs.declared.lines.LineFault.TheVariants.{Memory, At}
use Rattle.pt_formula.specs.declared.lines.Definition.{Definition}
use Rattle.pt_formula.specs.declared.file.Numbered.{Numbered}
use Rattle.pt_formula.specs.declared.file.FileFault.{FileFault}
use Rattle.pt_formula.specs.declared.file.FileFault.TheVariants as fault
use Rattle.pt_formula.specs.Lexer.{equals_next, in_name, is_blank, is_letter, lexed}
use Rattle.pt_formula.specs.Parse.{parsed}

-- a name and its formula
abbrev pub Found : Type 0
Found = Result (Option (List ℕ × List Step)) (ℕ × Wrong)

-- the words alone, and the place of a word; that of the end for the number after the last
abbrev pub words_in : List Placed → List Token
words_in = map (λ (p : Placed). p.word)

abbrev pub place : ℕ → List Placed → ℕ → ℕ
place end [] n = end
place end (p ∷ ps) zero = p.at
place end (p ∷ ps) (suc n) = place end ps n

abbrev pub with_steps : List ℕ → ℕ → List Placed → Result (List Step) (ℕ × Refusal) → Found
with_steps name end words (Ok steps) = Ok (Some (name, steps))
with_steps name end words (Err refused) = Err (place end words refused.0, Formula refused.1)

abbrev pub with_words : List ℕ → ℕ → Result (List Placed) (ℕ × Unknown) → Found
with_words name end (Ok words) = with_steps name end words (parsed 0 Value (words_in words) [] [])
with_words name end (Err unread) = Err (unread.0, Word unread.1)

-- after `=`, where the text begins at this place
abbrev pub formula_line : List ℕ → ℕ → List ℕ → Found
formula_line name at text = with_words name (at + length text) (lexed at 0 text)

-- after the name
abbrev pub equals_line : List ℕ → ℕ → List ℕ → Found
equals_line name at text =
    let blanks = prefix_len is_blank text in
    if equals_next (drop blanks text) then formula_line name (at + blanks + 1) (drop 1 (drop blanks text)) else Err (at + blanks, Equals)

-- a name of a graph: 1 to 32 letters, digits and `_`, the first a letter
abbrev pub is_name : List ℕ → Bool
is_name name = nat_le 1 (length name) && nat_le (length name) 32 && is_letter (slice_index name 0)

-- from the name on
abbrev pub name_line : ℕ → List ℕ → Found
name_line at text =
    let len = prefix_len in_name text in
    if is_name (take len text) then equals_line (take len text) (at + len) (drop len text) else Err (at, Name)

-- a line without its first blanks: nothing, a comment, or a formula
abbrev pub trimmed_line : ℕ → List ℕ → Found
trimmed_line at [] = Ok None
trimmed_line at (c ∷ cs) = if nat_eq c 35 then Ok None else name_line at (c ∷ cs)

abbrev pub line_of : List ℕ → Found
line_of line = trimmed_line (prefix_len is_blank line) (drop (prefix_len is_blank line) line)

-- what the program read of a line; memory may have run out
abbrev pub viewed : Option Definition → Option (List ℕ × List Step)
viewed None = None
viewed (Some d) = Some (d.name.items, d.steps.items)

abbrev pub IsLine : Found → Result (Option Definition) LineFault → Type 0
IsLine found (Ok d) = found ≡ Ok (viewed d)
IsLine found (Err Memory) = Unit {0}
IsLine found (Err (At at why)) = found ≡ Err (at, why)

-- A file.

abbrev pub in_line : ℕ → Bool
in_line c = not (c == 10)

-- a definition, with the number of its line
abbrev pub Defined : Type 0
Defined = ℕ × List ℕ × List Step

-- the definitions of a file, or the number of the first line that is refused, the place in it, and why
abbrev pub Read : Type 0
Read = Result (List Defined) (ℕ × ℕ × Wrong)

abbrev pub in_front : Defined → Read → Read
in_front d (Ok ds) = Ok (d ∷ ds)
in_front d (Err why) = Err why

abbrev pub with_line : ℕ → Found → Read → Read
with_line n (Ok None) more = more
with_line n (Ok (Some d)) more = in_front (n, d.0, d.1) more
with_line n (Err why) more = Err (n, why.0, why.1)

-- the lines of a text from number n on, without its first `skip` bytes
abbrev pub read_from : ℕ → ℕ → List ℕ → Read
read_from n skip [] = Ok []
read_from n zero (c ∷ cs) = let len = prefix_len in_line (c ∷ cs) in with_line n (line_of (take len (c ∷ cs))) (read_from (n + 1) len cs)
read_from n (suc skip) (c ∷ cs) = read_from n skip cs

-- these definitions, and then more
abbrev pub after_defined : List Defined → Read → Read
after_defined ds (Ok more) = Ok (ds ++ more)
after_defined ds (Err why) = Err why

abbrev pub viewed_line : Numbered → Defined
viewed_line d = (d.line, d.definition.name.items, d.definition.steps.items)

abbrev pub IsRead : Read → Result (Vec Numbered Global) FileFault → Type 0
IsRead found (Ok ds) = found ≡ Ok (map viewed_line ds.items)
IsRead found (Err fault.Memory) = Unit {0}
IsRead found (Err (fault.Line line at why)) = found ≡ Err (line, at, why)

-- what a line adds to these definitions: whatever follows, they and it give what the line and it give
abbrev pub IsAfterLine : ℕ → Found → List Defined → List Defined → Result ⊤ FileFault → Type 0
IsAfterLine n found ds ds' (Ok done) = (more : Read) → after_defined ds' more ≡ after_defined ds (with_line n found more)
IsAfterLine n found ds ds' (Err fault.Memory) = Unit {0}
IsAfterLine n found ds ds' (Err (fault.Line line at why)) = (line ≡ n) × (found ≡ Err (at, why))
