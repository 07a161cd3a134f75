-- A command line with a file of formulas is one with an order.
use Rattle.std.proofs.Common.{◌≡◌, ℕ, Bool, true, List, [], ◌∷◌, Option, None, Some, String, is_some, string_bytes, map, refl, sym, subst, ◌∙◌, ap}
use Rattle.std.specs.declared.alloc.Global.{Global}
use Rattle.pt_io.specs.Calls.{Contents, SinkCall, SourceCall}
use Rattle.pt_blocks.specs.declared.blocks.Named.{Named}
use Rattle.pt_words.specs.Grammar.{Order, order_of}
use Rattle.pt_program.specs.Answers.{IsAnswerOver, IsAnswerTo, order_in}

order_in_words : (words : List (String Global)) → order_of words ≡ order_in (map string_bytes words)
order_in_words [] = refl
order_in_words (word ∷ words) = refl

over_order : (order : Option Order) (file : List ℕ) (status : ℕ) (contents : Contents) (blocks : List Named) (r : SourceCall) (w n : SinkCall) → is_some order ≡ true → IsAnswerOver file status order contents blocks r w n → IsAnswerTo file status order contents blocks r w n
over_order None file status contents blocks r w n h answer = absurd cc
over_order (Some order) file status contents blocks r w n h answer = answer

pub over_words : (words list : List (String Global)) (valid : Bool) (file : List ℕ) (status : ℕ) (contents : Contents) (blocks : List Named) (r : SourceCall) (w n : SinkCall)
    → list ≡ words → valid ≡ is_some (order_of list) → valid ≡ true → IsAnswerOver file status (order_of words) contents blocks r w n
    → IsAnswerTo file status (order_in (map string_bytes words)) contents blocks r w n
over_words words list valid file status contents blocks r w n same is holds answer =
    subst (λ order. IsAnswerTo file status order contents blocks r w n) (order_in_words words)
    (over_order (order_of words) file status contents blocks r w n (ap (λ ws. is_some (order_of ws)) (sym same) ∙ sym is ∙ holds) answer)
