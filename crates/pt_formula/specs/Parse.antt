-- How words are read as steps: what waits for words to come is a stack, whose first is the newest.
use Rattle.std.specs.Prelude.{◌≡◌, ℕ, ◌+◌, ◌==◌, ◌&&◌, Bool, false, nat_le, nat_lt, List, [], ◌∷◌, ◌++◌, length, Result, Ok, Err, if◌then◌else◌, ⊤}
use Rattle.pt_formula.specs.declared.step.Two.{Two}
use Rattle.pt_formula.specs.declared.step.One.TheVariants.{Negate}
use Rattle.pt_formula.specs.declared.step.Two.TheVariants.{Either, Both, Less, AtMost, More, AtLeast, Same, Unlike, Total, Difference, Product, Quotient, Remainder, Lesser, Greater}
use Rattle.pt_formula.specs.declared.step.Step.{Step}
use Rattle.pt_formula.specs.declared.step.Step.TheVariants as step
use Rattle.pt_formula.specs.declared.token.NamedFunction.{NamedFunction}
use Rattle.pt_formula.specs.declared.token.NamedFunction.TheVariants as function
use Rattle.pt_formula.specs.declared.token.Token.{Token}
use Rattle.pt_formula.specs.declared.token.Token.TheVariants.{A, B, Number, Operator, Name, Open, Close, Comma}
use Rattle.pt_formula.specs.declared.token.Expects.{Expects}
use Rattle.pt_formula.specs.declared.token.Expects.TheVariants.{Value, Opening, Sign}
use Rattle.pt_formula.specs.declared.token.Unfinished.{Unfinished}
use Rattle.pt_formula.specs.declared.token.Unfinished.TheVariants.{Minus, Left, Group, Call}
use Rattle.std.specs.declared.alloc.AllocError.{AllocError}
use Rattle.std.specs.declared.alloc.Global.{Global}
use Rattle.std.specs.declared.vec.Vec.{Vec}
use Rattle.pt_formula.specs.declared.words.ParseFault.{ParseFault}
use Rattle.pt_formula.specs.declared.words.ParseFault.TheVariants.{Memory, Refused}
use Rattle.pt_formula.specs.declared.token.Refusal.{Refusal}
use Rattle.pt_formula.specs.declared.token.Refusal.TheVariants.{NoValue, NoOpening, NoSign, Chained, Unopened, Unclosed, Uncalled, Count, Long}

-- how tightly a sign binds
abbrev pub level : Two → ℕ
level Either = 1
level Both = 2
level Less = 3
level AtMost = 3
level More = 3
level AtLeast = 3
level Same = 3
level Unlike = 3
level Total = 4
level Difference = 4
level Product = 5
level Quotient = 5
level Remainder = 5
level Lesser = 6
level Greater = 6

abbrev pub is_test : Two → Bool
is_test op = level op == 3

-- how tightly its left side has to bind: the same, but tests don't chain
abbrev pub left_level : Two → ℕ
left_level op = if is_test op then 4 else level op

-- how many formulas a function takes, and its step
abbrev pub arity : NamedFunction → ℕ
arity (function.Unary f) = 1
arity (function.Binary f) = 2
arity (function.Ternary f) = 3

abbrev pub step_of : NamedFunction → Step
step_of (function.Unary f) = step.Unary f
step_of (function.Binary f) = step.Binary f
step_of (function.Ternary f) = step.Ternary f

-- of all that waits, what stays when a word comes that ends each `-` and each sign of level k or more, up to a `(`
abbrev pub released : ℕ → List Unfinished → List Unfinished
released k [] = []
released k (Minus ∷ ps) = released k ps
released k (Left op ∷ ps) = if nat_le k (level op) then released k ps else Left op ∷ ps
released k (Group ∷ ps) = Group ∷ ps
released k (Call f n ∷ ps) = Call f n ∷ ps

-- and the steps of what doesn't
abbrev pub emitted : ℕ → List Unfinished → List Step
emitted k [] = []
emitted k (Minus ∷ ps) = step.Unary Negate ∷ emitted k ps
emitted k (Left op ∷ ps) = if nat_le k (level op) then step.Binary op ∷ emitted k ps else []
emitted k (Group ∷ ps) = []
emitted k (Call f n ∷ ps) = []

abbrev pub is_chained : List Unfinished → Bool
is_chained [] = false
is_chained (Minus ∷ ps) = false
is_chained (Left op ∷ ps) = is_test op
is_chained (Group ∷ ps) = false
is_chained (Call f n ∷ ps) = false

-- where the reader is: what may come next, the steps so far, and what waits
pub record Place : Type 0 where
  pub expects : Expects
  pub steps : List Step
  pub pending : List Unfinished

abbrev pub at : Expects → List Step → List Unfinished → Result Place Refusal
at expects steps pending = Ok (record { expects = expects; steps = steps; pending = pending })

-- a word where a formula should stand
abbrev pub value_turn : Token → List Step → List Unfinished → Result Place Refusal
value_turn A ss ps = at Sign (ss ++ step.A ∷ []) ps
value_turn B ss ps = at Sign (ss ++ step.B ∷ []) ps
value_turn (Number n) ss ps = at Sign (ss ++ step.Number n ∷ []) ps
value_turn (Operator Difference) ss ps = at Value ss (Minus ∷ ps)
value_turn Open ss ps = at Value ss (Group ∷ ps)
value_turn (Name f) ss ps = at (Opening f) ss ps
value_turn _ ss ps = Err NoValue

-- a word after the name of a function
abbrev pub opening_turn : NamedFunction → Token → List Step → List Unfinished → Result Place Refusal
opening_turn f Open ss ps = at Value ss (Call f 1 ∷ ps)
opening_turn f _ ss ps = Err NoOpening

-- a sign, where `ps` stays
abbrev pub operator_turn : Two → List Step → List Unfinished → Result Place Refusal
operator_turn op ss ps = if is_test op && is_chained ps then Err Chained else at Value ss (Left op ∷ ps)

-- `)`, where `ps` stays
abbrev pub close_turn : List Step → List Unfinished → Result Place Refusal
close_turn ss (Group ∷ ps) = at Sign ss ps
close_turn ss (Call f n ∷ ps) = if n == arity f then at Sign (ss ++ step_of f ∷ []) ps else Err (Count f)
close_turn ss _ = Err Unopened

-- `,`, where `ps` stays
abbrev pub comma_turn : List Step → List Unfinished → Result Place Refusal
comma_turn ss (Call f n ∷ ps) = if nat_lt n (arity f) then at Value ss (Call f (n + 1) ∷ ps) else Err (Count f)
comma_turn ss _ = Err Uncalled

-- a word after a formula
abbrev pub sign_turn : Token → List Step → List Unfinished → Result Place Refusal
sign_turn (Operator op) ss ps = operator_turn op (ss ++ emitted (left_level op) ps) (released (left_level op) ps)
sign_turn Close ss ps = close_turn (ss ++ emitted 0 ps) (released 0 ps)
sign_turn Comma ss ps = comma_turn (ss ++ emitted 0 ps) (released 0 ps)
sign_turn _ ss ps = Err NoSign

-- a word
abbrev pub turn : Expects → Token → List Step → List Unfinished → Result Place Refusal
turn Value word ss ps = value_turn word ss ps
turn (Opening f) word ss ps = opening_turn f word ss ps
turn Sign word ss ps = sign_turn word ss ps

-- the end of the words, where `ps` stays
abbrev pub last : List Step → List Unfinished → Result (List Step) Refusal
last ss [] = if nat_le (length ss) 64 then Ok ss else Err Long
last ss (p ∷ ps) = Err Unclosed

abbrev pub ended : Expects → List Step → List Unfinished → Result (List Step) Refusal
ended Value ss ps = Err NoValue
ended (Opening f) ss ps = Err NoOpening
ended Sign ss ps = last (ss ++ emitted 0 ps) (released 0 ps)

-- a refusal with the number of the word that is refused
abbrev pub numbered : {X : Type 0} → ℕ → Result X Refusal → Result X (ℕ × Refusal)
numbered n (Ok x) = Ok x
numbered n (Err why) = Err (n, why)

abbrev pub then_read : Result Place (ℕ × Refusal) → (Place → Result (List Step) (ℕ × Refusal)) → Result (List Step) (ℕ × Refusal)
then_read (Ok p) read = read p
then_read (Err why) read = Err why

-- the steps that these words write, the first of which has number n
abbrev pub parsed : ℕ → Expects → List Token → List Step → List Unfinished → Result (List Step) (ℕ × Refusal)
parsed n e [] ss ps = numbered n (ended e ss ps)
parsed n e (word ∷ words) ss ps = then_read (numbered n (turn e word ss ps)) (λ p. parsed (n + 1) p.expects words p.steps p.pending)

-- what a turn of the program leaves: the place, or why the word is refused
abbrev pub IsAfter : Expects → Token → List Step → List Unfinished → List Step → List Unfinished → Result (Result Expects Refusal) AllocError → Type 0
IsAfter e word ss ps ss' ps' (Ok (Ok next)) = turn e word ss ps ≡ at next ss' ps'
IsAfter e word ss ps ss' ps' (Ok (Err why)) = turn e word ss ps ≡ Err why
IsAfter e word ss ps ss' ps' (Err memory) = Unit {0}

-- what the program read is what the words write; memory may have run out
abbrev pub IsParsed : Result (List Step) (ℕ × Refusal) → Result (Vec Step Global) ParseFault → Type 0
IsParsed words (Ok steps) = words ≡ Ok steps.items
IsParsed words (Err Memory) = Unit {0}
IsParsed words (Err (Refused word why)) = words ≡ Err (word, why)

abbrev pub IsEnded : Expects → List Step → List Unfinished → List Step → Result (Result ⊤ Refusal) AllocError → Type 0
IsEnded e ss ps ss' (Ok (Ok done)) = ended e ss ps ≡ Ok ss'
IsEnded e ss ps ss' (Ok (Err why)) = ended e ss ps ≡ Err why
IsEnded e ss ps ss' (Err memory) = Unit {0}
