-- Formulas as trees: what they mean, the words that they are written in, and their steps.
use Rattle.std.specs.Prelude.{◌≡◌, ℕ, ◌+◌, ◌≤◌, Bool, true, false, nat_lt, List, [], ◌∷◌, ◌++◌, ◌==◌, length, if◌then◌else◌, ℤ, Ok}
use Rattle.pt_formula.specs.declared.step.One.{One}
use Rattle.pt_formula.specs.declared.step.One.TheVariants.{Negate}
use Rattle.pt_formula.specs.declared.step.Two.{Two}
use Rattle.pt_formula.specs.declared.step.Two.TheVariants.{Difference}
use Rattle.pt_formula.specs.declared.step.Three.{Three}
use Rattle.pt_formula.specs.declared.step.Step.{Step}
use Rattle.pt_formula.specs.declared.step.Step.TheVariants as step
use Rattle.pt_formula.specs.declared.token.NamedFunction.TheVariants as function
use Rattle.pt_formula.specs.declared.token.Token.{Token}
use Rattle.pt_formula.specs.declared.token.Token.TheVariants as token
use Rattle.pt_formula.specs.declared.token.Expects.TheVariants.{Value}
use Rattle.pt_formula.specs.Meaning.{one_value, two_value, three_value, value}
use Rattle.pt_formula.specs.Parse.{level, left_level, parsed}

-- a formula
pub data Formula : Type 0 where
  a : Formula
  b : Formula
  number : ℤ → Formula
  one : One → Formula → Formula
  two : Two → Formula → Formula → Formula
  three : Three → Formula → Formula → Formula → Formula

-- its value for x and y
abbrev pub meaning : Formula → ℤ → ℤ → ℤ
meaning a x y = x
meaning b x y = y
meaning (number n) x y = n
meaning (one f p) x y = one_value f (meaning p x y)
meaning (two f p q) x y = two_value f (meaning p x y) (meaning q x y)
meaning (three f p q r) x y = three_value f (meaning p x y) (meaning q x y) (meaning r x y)

-- its steps
abbrev pub steps_of : Formula → List Step
steps_of a = step.A ∷ []
steps_of b = step.B ∷ []
steps_of (number n) = step.Number n ∷ []
steps_of (one f p) = steps_of p ++ step.Unary f ∷ []
steps_of (two f p q) = steps_of p ++ steps_of q ++ step.Binary f ∷ []
steps_of (three f p q r) = steps_of p ++ steps_of q ++ steps_of r ++ step.Ternary f ∷ []

-- the words of a call
abbrev pub called : Token → List Token → List Token
called f inner = f ∷ token.Open ∷ inner ++ token.Close ∷ []

-- in parentheses, if it has to be
abbrev pub grouped : Bool → List Token → List Token
grouped true words = token.Open ∷ words ++ token.Close ∷ []
grouped false words = words

-- `-` before a formula, or a function of one by its name
abbrev pub one_words : One → List Token → List Token → List Token
one_words Negate signed plain = token.Operator Difference ∷ signed
one_words f signed plain = called (token.Name (function.Unary f)) plain

-- `min` and `max` are called by their names; the other functions of two are signs
abbrev pub is_named : Two → Bool
is_named f = level f == 6

-- a sign between two formulas, or a call
abbrev pub two_words : Two → ℕ → List Token → List Token → List Token → List Token → List Token
two_words f k left right p q =
    if is_named f then called (token.Name (function.Binary f)) (p ++ token.Comma ∷ q) else grouped (nat_lt (level f) k) (left ++ token.Operator f ∷ right)

-- the words of a formula with no parentheses but those that it needs where signs of level k and more bind it
abbrev pub words_of : ℕ → Formula → List Token
words_of k a = token.A ∷ []
words_of k b = token.B ∷ []
words_of k (number n) = token.Number n ∷ []
words_of k (one f p) = one_words f (words_of 7 p) (words_of 0 p)
words_of k (two f p q) = two_words f k (words_of (left_level f) p) (words_of (level f + 1) q) (words_of 0 p) (words_of 0 q)
words_of k (three f p q r) = called (token.Name (function.Ternary f)) (words_of 0 p ++ token.Comma ∷ words_of 0 q ++ token.Comma ∷ words_of 0 r)

-- the words of each formula of at most 64 steps are read as its steps, and these give its value
abbrev pub IsReadBack : Formula → Type 0
IsReadBack f = length (steps_of f) ≤ 64 → parsed 0 Value (words_of 0 f) [] [] ≡ Ok (steps_of f)

abbrev pub IsComputed : Formula → Type 0
IsComputed f = (x y : ℤ) → value (steps_of f) x y ≡ meaning f x y
