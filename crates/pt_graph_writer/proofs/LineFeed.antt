-- A text of JSON tokens and a line feed have the tokens of the text.
use Rattle.std.proofs.Common.{◌≡◌, ℕ, List, [], ◌∷◌, ◌++◌, Bool, true, false, cond, ◌&&◌, refl, sym, ap, ap₂, ◌∙◌, append_assoc}
use Rattle.json.specs.Token.{Token, begin_object, end_object, begin_array, end_array, key, string, number, boolean, null, bad}
use Rattle.json.specs.Word.{ends_word, word}
use Rattle.json.specs.Lex.{token, string_token, lex, between, fresh, punctuate, tokens}
use Rattle.json.specs.Print.{escape, quoted, token_text, begins, ends, separator, print_from, print, IsPrintableOrBad, ArePrintableOrBad}
use Rattle.json.proofs.Printed.Strings.{content-escape, lex-escape}
use Rattle.json.proofs.Printed.Numbers.{lex-number, in_word-ended}
use Rattle.json.proofs.Numbered.{ArePrintableOrBad-tokens}
use Rattle.serde_json.specs.Read.{read, of_json, max_depth}
use Rattle.json.specs.Json as json
use Rattle.std.specs.Prelude.{option_and_then}

-- after a value stands a comma, a closing bracket or nothing
value_ends : (ts : List Token) → ends_word (print_from true ts) ≡ true
unfolding print_from
value_ends [] = refl
value_ends (begin_object ∷ ts) = refl
value_ends (end_object ∷ ts) = refl
value_ends (begin_array ∷ ts) = refl
value_ends (end_array ∷ ts) = refl
value_ends (key s ∷ ts) = refl
value_ends (string s ∷ ts) = refl
value_ends (number s ∷ ts) = refl
value_ends (boolean b ∷ ts) = refl
value_ends (null ∷ ts) = refl
value_ends (bad ∷ ts) = refl

-- or a line feed
value_ends_line : (ts : List Token) → ends_word (print_from true ts ++ 10 ∷ []) ≡ true
unfolding print_from
value_ends_line [] = refl
value_ends_line (begin_object ∷ ts) = refl
value_ends_line (end_object ∷ ts) = refl
value_ends_line (begin_array ∷ ts) = refl
value_ends_line (end_array ∷ ts) = refl
value_ends_line (key s ∷ ts) = refl
value_ends_line (string s ∷ ts) = refl
value_ends_line (number s ∷ ts) = refl
value_ends_line (boolean b ∷ ts) = refl
value_ends_line (null ∷ ts) = refl
value_ends_line (bad ∷ ts) = refl

lex_quoted : (s r : List ℕ) → lex between (quoted s ++ r) ≡ token (string s) ∷ lex between r
unfolding lex
lex_quoted s r =
    ap (λ l. lex between (34 ∷ l)) (append_assoc (escape s) (34 ∷ []) r) ∙ ap₂ (λ o l. token (string_token o) ∷ l) (content-escape s r) (lex-escape s r)

-- a token has the same lexemes before two texts with the same lexemes
after_token : (t : Token) (r q : List ℕ) → IsPrintableOrBad t → (ends t ≡ true → ends_word r ≡ true) → (ends t ≡ true → ends_word q ≡ true) → lex between r ≡ lex between q
    → lex between (token_text t ++ r) ≡ lex between (token_text t ++ q)
unfolding lex word
after_token begin_object r q h one two same = rw same refl
after_token end_object r q h one two same = rw same refl
after_token begin_array r q h one two same = rw same refl
after_token end_array r q h one two same = rw same refl
after_token (key s) r q h one two same =
    let colon_first : lex between (58 ∷ r) ≡ lex between (58 ∷ q) = rw same refl in
    ap (lex between) (append_assoc (quoted s) (58 ∷ []) r) ∙ (lex_quoted s (58 ∷ r) ∙ (ap (λ l. token (string s) ∷ l) colon_first ∙ (sym (lex_quoted s (58 ∷ q)) ∙ ap (lex between) (sym (append_assoc (quoted s) (58 ∷ []) q)))))
after_token (string s) r q h one two same = lex_quoted s r ∙ (ap (λ l. token (string s) ∷ l) same ∙ sym (lex_quoted s q))
after_token (number s) r q h one two same = lex-number s r h (one refl) ∙ (ap (λ l. token (number s) ∷ l) same ∙ sym (lex-number s q h (two refl)))
after_token (boolean true) r q h one two same = rw (one refl, two refl, in_word-ended r (one refl), in_word-ended q (two refl), same) refl
after_token (boolean false) r q h one two same = rw (one refl, two refl, in_word-ended r (one refl), in_word-ended q (two refl), same) refl
after_token null r q h one two same = rw (one refl, two refl, in_word-ended r (one refl), in_word-ended q (two refl), same) refl
after_token bad r q h one two same = same

after_comma : (b : Bool) (r q : List ℕ) → lex between r ≡ lex between q → lex between (cond b (44 ∷ []) [] ++ r) ≡ lex between (cond b (44 ∷ []) [] ++ q)
unfolding lex
after_comma true r q same = rw same refl
after_comma false r q same = same

same_lexemes : (c : Bool) (ts : List Token) → ArePrintableOrBad ts → lex between (print_from c ts ++ 10 ∷ []) ≡ lex between (print_from c ts)
unfolding lex print_from
same_lexemes c [] h = refl
same_lexemes c (t ∷ ts) h =
    let rest = print_from (ends t) ts in
    let comma = separator c t in
    let grouped : (comma ++ (token_text t ++ rest)) ++ 10 ∷ [] ≡ comma ++ (token_text t ++ (rest ++ 10 ∷ [])) = append_assoc comma (token_text t ++ rest) (10 ∷ []) ∙ ap (λ l. comma ++ l) (append_assoc (token_text t) rest (10 ∷ [])) in
    ap (lex between) grouped
    ∙ after_comma (c && begins t) (token_text t ++ (rest ++ 10 ∷ [])) (token_text t ++ rest)
    (after_token t (rest ++ 10 ∷ []) rest h.0
    (λ e. ap (λ b. ends_word (print_from b ts ++ 10 ∷ [])) e ∙ value_ends_line ts)
    (λ e. ap (λ b. ends_word (print_from b ts)) e ∙ value_ends ts)
    (same_lexemes (ends t) ts h.1))

tokens_line : (text : List ℕ) → text ≡ print (tokens text) → tokens (text ++ 10 ∷ []) ≡ tokens text
tokens_line text compact =
    let same = same_lexemes false (tokens text) (ArePrintableOrBad-tokens text) in
    ap (λ s. tokens (s ++ 10 ∷ [])) compact ∙ (ap (punctuate fresh) same ∙ ap tokens (sym compact))

-- a text that is printed as its tokens is read with a line feed as it is without
pub read_line : (text : List ℕ) → text ≡ print (tokens text) → read (text ++ 10 ∷ []) ≡ read text
read_line text compact = ap (λ ts. option_and_then of_json (option_and_then (λ p. json.if_last p.0 p.1) (json.value max_depth ts))) (tokens_line text compact)
