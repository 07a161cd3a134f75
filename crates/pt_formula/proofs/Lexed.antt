-- A text is read word by word.
use Rattle.std.proofs.Common.{◌≡◌, ℕ, zero, suc, ◌+◌, ◌-◌, max, length, take, subst, List, [], ◌∷◌, ◌++◌, drop, refl, sym, ap, ◌∙◌, append_assoc, arith, Result, Ok, Err}
use Rattle.std.proofs.lemmas.Grind.{common_steps}
use Rattle.pt_formula.specs.declared.token.Token.{Token}
use Rattle.pt_formula.specs.declared.lexer.Lexeme.{Lexeme}
use Rattle.pt_formula.specs.declared.lexer.Lexeme.TheVariants.{Blank, Word}
use Rattle.pt_formula.specs.declared.lexer.Unknown.{Unknown}
use Rattle.pt_formula.specs.declared.lexer.Placed.{Placed}
use Rattle.pt_formula.specs.Lexer.{IsLexeme, after_words, lexed, lexed_on, placed, with_word}

-- skipped bytes
skipped : (at k : ℕ) (xs : List ℕ) → lexed at k xs ≡ lexed (at + k) 0 (drop k xs)
skipped at zero xs = ap (λ n. lexed n 0 xs) (omega arith)
skipped at (suc k) [] = refl
skipped at (suc k) (c ∷ cs) = skipped (at + 1) k cs ∙ ap (λ n. lexed n 0 (drop k cs)) (omega arith)

blank : (at : ℕ) (xs : List ℕ) → IsLexeme xs Blank → lexed at 0 xs ≡ lexed (at + 1) 0 (drop 1 xs)
blank at [] h = absurd h
blank at (c ∷ cs) h = ap (λ f. lexed_on f at (λ skip. lexed (at + 1) skip cs)) (sym h)

word : (at : ℕ) (xs : List ℕ) (w : Token) (len n : ℕ) → n ≡ max len 1 → IsLexeme xs (Word w len) → lexed at 0 xs ≡ with_word at w (lexed (at + n) 0 (drop n xs))
word at [] w len n is h = absurd h
word at (c ∷ cs) w len n is h =
    let one : n ≡ suc (len - 1) = omega arith in
    ap (λ f. lexed_on f at (λ skip. lexed (at + 1) skip cs)) (sym h)
    ∙ ap (with_word at w) (skipped (at + 1) (len - 1) cs ∙ ap (λ k. lexed k 0 (drop (len - 1) cs)) (omega arith) ∙ ap (λ k. lexed (at + k) 0 (drop k (c ∷ cs))) (sym one))

joined : (words : List Placed) (at : ℕ) (w : Token) (r : Result (List Placed) (ℕ × Unknown)) → after_words words (with_word at w r) ≡ after_words (words ++ placed at w ∷ []) r
joined words at w (Ok more) = ap (λ ws. Ok ws) (sym (append_assoc words (placed at w ∷ []) more))
joined words at w (Err why) = refl

further : (text : List ℕ) (at n : ℕ) → drop n (drop at text) ≡ drop (at + n) text
further text at n = grind (arith, common_steps)

pub past_blank : (text : List ℕ) (at : ℕ) (words : List Placed) → IsLexeme (drop at text) Blank → after_words words (lexed (at + 1) 0 (drop (at + 1) text)) ≡ after_words words (lexed at 0 (drop at text))
past_blank text at words h = ap (after_words words) (sym (blank at (drop at text) h ∙ ap (lexed (at + 1) 0) (further text at 1)))

pub past_word : (text : List ℕ) (at len n : ℕ) (w : Token) (words words' : List Placed) → n ≡ max len 1 → IsLexeme (drop at text) (Word w len) → words' ≡ words ++ placed at w ∷ []
    → after_words words' (lexed (at + n) 0 (drop (at + n) text)) ≡ after_words words (lexed at 0 (drop at text))
past_word text at len n w words words' is h added =
    ap (λ ws. after_words ws (lexed (at + n) 0 (drop (at + n) text))) added
    ∙ sym (ap (after_words words) (word at (drop at text) w len n is h ∙ ap (λ xs. with_word at w (lexed (at + n) 0 xs)) (further text at n)) ∙ joined words at w (lexed (at + n) 0 (drop (at + n) text)))

-- `&text[at..]`
pub whole : (text : List ℕ) (at : ℕ) (found : Lexeme) → IsLexeme (take (length text - at) (drop at text)) found → IsLexeme (drop at text) found
whole text at found h = let e : take (length text - at) (drop at text) ≡ drop at text = grind (arith, common_steps) in let P : List ℕ → Type 0 = λ xs. IsLexeme xs found in subst P e h
