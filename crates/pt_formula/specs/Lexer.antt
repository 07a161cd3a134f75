-- The words in a line of text.
use Rattle.std.specs.Prelude.{◌≡◌, ◌≤◌, ℕ, zero, suc, ◌+◌, ◌-◌, ◌*◌, ◌^◌, ◌==◌, ◌||◌, ◌&&◌, Bool, false, nat_le, nat_lt, List, [], ◌∷◌, ◌++◌, take, codes, bytes_eq, Option, Some, None, Result, Ok, Err, if◌then◌else◌, ℤ, pos}
use Rattle.std.specs.List.{prefix_len}
use Rattle.std.specs.declared.alloc.Global.{Global}
use Rattle.std.specs.declared.vec.Vec.{Vec}
use Rattle.pt_formula.specs.declared.step.One.TheVariants.{Absolute, Not}
use Rattle.pt_formula.specs.declared.step.Two.TheVariants.{Either, Both, Less, AtMost, More, AtLeast, Same, Unlike, Total, Difference, Product, Quotient, Remainder, Lesser, Greater}
use Rattle.pt_formula.specs.declared.step.Three.TheVariants.{Clamp, Scale, Choose}
use Rattle.pt_formula.specs.declared.token.NamedFunction.TheVariants.{Unary, Binary, Ternary}
use Rattle.pt_formula.specs.declared.token.Token.{Token}
use Rattle.pt_formula.specs.declared.token.Token.TheVariants as token
use Rattle.pt_formula.specs.declared.lexer.Lexeme.{Lexeme}
use Rattle.pt_formula.specs.declared.lexer.Lexeme.TheVariants.{Blank, Comment, Word, Unread}
use Rattle.pt_formula.specs.declared.lexer.Unknown.{Unknown}
use Rattle.pt_formula.specs.declared.lexer.Unknown.TheVariants.{Character, HalfSign, TooLarge, NoName}
use Rattle.pt_formula.specs.declared.lexer.Placed.{Placed}
use Rattle.pt_formula.specs.declared.lexer.LexFault.{LexFault}
use Rattle.pt_formula.specs.declared.lexer.LexFault.TheVariants.{Memory, At}

-- a space, a tab, or the carriage return of a line's end
abbrev pub is_blank : ℕ → Bool
is_blank c = c == 32 || (c == 9 || c == 13)

abbrev pub is_digit : ℕ → Bool
is_digit c = nat_le 48 c && nat_le c 57

abbrev pub is_letter : ℕ → Bool
is_letter c = (nat_le 65 c && nat_le c 90) || (nat_le 97 c && nat_le c 122)

-- what goes on a name: a letter, a digit or `_`
abbrev pub in_name : ℕ → Bool
in_name c = is_letter c || (is_digit c || c == 95)

-- the number with these digits after those of n, below 2 ^ 63
abbrev pub number_from : ℕ → List ℕ → Option ℤ
number_from n [] = Some (pos n)
number_from n (d ∷ ds) = if nat_lt (n * 10 + (d - 48)) (2 ^ 63) then number_from (n * 10 + (d - 48)) ds else None

abbrev pub number_lexeme : ℕ → Option ℤ → Lexeme
number_lexeme len (Some n) = Word (token.Number n) len
number_lexeme len None = Unread TooLarge

-- the word with these letters
abbrev pub named : List ℕ → Option Token
named name =
    if bytes_eq name (codes "a") then Some token.A else (
    if bytes_eq name (codes "b") then Some token.B else (
    if bytes_eq name (codes "or") then Some (token.Operator Either) else (
    if bytes_eq name (codes "and") then Some (token.Operator Both) else (
    if bytes_eq name (codes "not") then Some (token.Name (Unary Not)) else (
    if bytes_eq name (codes "abs") then Some (token.Name (Unary Absolute)) else (
    if bytes_eq name (codes "min") then Some (token.Name (Binary Lesser)) else (
    if bytes_eq name (codes "max") then Some (token.Name (Binary Greater)) else (
    if bytes_eq name (codes "clamp") then Some (token.Name (Ternary Clamp)) else (
    if bytes_eq name (codes "scale") then Some (token.Name (Ternary Scale)) else (
    if bytes_eq name (codes "if") then Some (token.Name (Ternary Choose)) else None))))))))))

abbrev pub name_lexeme : ℕ → Option Token → Lexeme
name_lexeme len (Some word) = Word word len
name_lexeme len None = Unread NoName

-- whether `=` comes next
abbrev pub equals_next : List ℕ → Bool
equals_next [] = false
equals_next (c ∷ cs) = c == 61

-- a sign of one byte, or of this and `=`
abbrev pub sign_lexeme : ℕ → Bool → Lexeme
sign_lexeme c equals =
    if c == 60 then (if equals then Word (token.Operator AtMost) 2 else Word (token.Operator Less) 1) else (
    if c == 62 then (if equals then Word (token.Operator AtLeast) 2 else Word (token.Operator More) 1) else (
    if c == 61 then (if equals then Word (token.Operator Same) 2 else Unread HalfSign) else (
    if c == 33 then (if equals then Word (token.Operator Unlike) 2 else Unread HalfSign) else (
    if c == 43 then Word (token.Operator Total) 1 else (
    if c == 45 then Word (token.Operator Difference) 1 else (
    if c == 42 then Word (token.Operator Product) 1 else (
    if c == 47 then Word (token.Operator Quotient) 1 else (
    if c == 37 then Word (token.Operator Remainder) 1 else (
    if c == 40 then Word token.Open 1 else (
    if c == 41 then Word token.Close 1 else (
    if c == 44 then Word token.Comma 1 else Unread Character)))))))))))

-- what a text begins with: its first byte is c, and then it has cs; a word has so many bytes
abbrev pub lexeme : ℕ → List ℕ → Lexeme
lexeme c cs =
    if is_blank c then Blank else (
    if c == 35 then Comment else (
    if is_digit c then number_lexeme (prefix_len is_digit (c ∷ cs)) (number_from 0 (take (prefix_len is_digit (c ∷ cs)) (c ∷ cs))) else (
    if is_letter c then name_lexeme (prefix_len in_name (c ∷ cs)) (named (take (prefix_len in_name (c ∷ cs)) (c ∷ cs))) else sign_lexeme c (equals_next cs))))

abbrev pub placed : ℕ → Token → Placed
placed at word = record { at = at; word = word }

-- a word in front of those that follow
abbrev pub with_word : ℕ → Token → Result (List Placed) (ℕ × Unknown) → Result (List Placed) (ℕ × Unknown)
with_word at word (Ok words) = Ok (placed at word ∷ words)
with_word at word (Err why) = Err why

abbrev pub lexed_on : Lexeme → ℕ → (ℕ → Result (List Placed) (ℕ × Unknown)) → Result (List Placed) (ℕ × Unknown)
lexed_on Blank at on = on 0
lexed_on Comment at on = Ok []
lexed_on (Word word len) at on = with_word at word (on (len - 1))
lexed_on (Unread why) at on = Err (at, why)

-- the words of a text whose first byte is at this place, without its first `skip` bytes
abbrev pub lexed : ℕ → ℕ → List ℕ → Result (List Placed) (ℕ × Unknown)
lexed at skip [] = Ok []
lexed at zero (c ∷ cs) = lexed_on (lexeme c cs) at (λ skip. lexed (at + 1) skip cs)
lexed at (suc skip) (c ∷ cs) = lexed (at + 1) skip cs

-- these words, and then what follows
abbrev pub after_words : List Placed → Result (List Placed) (ℕ × Unknown) → Result (List Placed) (ℕ × Unknown)
after_words words (Ok more) = Ok (words ++ more)
after_words words (Err why) = Err why

-- what the program read is what the text says; memory may have run out
abbrev pub IsLexed : Result (List Placed) (ℕ × Unknown) → Result (Vec Placed Global) LexFault → Type 0
IsLexed words (Ok found) = words ≡ Ok found.items
IsLexed words (Err Memory) = Unit {0}
IsLexed words (Err (At at why)) = words ≡ Err (at, why)

-- what a text begins with; a word ends within it
abbrev pub IsLexeme : List ℕ → Lexeme → Type 0
IsLexeme [] found = ⊥
IsLexeme (c ∷ cs) found = found ≡ lexeme c cs

abbrev pub EndsWithin : ℕ → Lexeme → Type 0
EndsWithin most Blank = Unit {0}
EndsWithin most Comment = Unit {0}
EndsWithin most (Word word len) = len ≤ most
EndsWithin most (Unread why) = Unit {0}
