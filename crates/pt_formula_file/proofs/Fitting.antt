-- What is read from a file fits blocks.
use Rattle.std.proofs.Common.{◌≡◌, ◌≤◌, ◌<◌, ◌+◌, ◌∙◌, nat_eq, ℕ, zero, suc, Bool, true, false, cond, if◌then◌else◌, nat_le, List, [], ◌∷◌, ◌++◌, length, take, drop, refl, sym, ap, subst, arith, Option, Some, None, Result, Ok, Err, IsAscii}
use Rattle.std.specs.List.{prefix_len}
use Rattle.std.proofs.lemmas.Str.Ascii.{IsAscii-cons, IsAscii-nil}
use Rattle.pt_formula.specs.declared.step.Step.{Step}
use Rattle.pt_formula.specs.declared.token.Expects.{Expects}
use Rattle.pt_formula.specs.declared.token.Expects.TheVariants.{Value, Opening, Sign}
use Rattle.pt_formula.specs.declared.token.Refusal.{Refusal}
use Rattle.pt_formula.specs.declared.token.Refusal.TheVariants.{Long}
use Rattle.pt_formula.specs.declared.token.Token.{Token}
use Rattle.pt_formula.specs.declared.token.Unfinished.{Unfinished}
use Rattle.pt_formula.specs.declared.lexer.Placed.{Placed}
use Rattle.pt_formula.specs.declared.lexer.Unknown.{Unknown}
use Rattle.pt_formula.specs.declared.lines.Wrong.{Wrong}
use Rattle.pt_formula.specs.declared.lines.Wrong.TheVariants as wrong
use Rattle.pt_formula.specs.Lexer.{equals_next, in_name, is_blank, lexed}
use Rattle.pt_formula.specs.Parse.{Place, emitted, ended, last, numbered, parsed, released, then_read, turn}
use Rattle.pt_formula.specs.Lines.{Defined, Found, Read, equals_line, formula_line, in_front, in_line, is_name, line_of, name_line, read_from, trimmed_line, with_line, with_steps, with_words, words_in}
use Rattle.pt_formula_file.specs.Fitting.{AreFit, IsFit}

-- At most 64 steps.

le_of : (n m : ℕ) → nat_le n m ≡ true → n ≤ m
le_of n m h = grind arith

few_if : (b : Bool) (ss steps : List Step) → nat_le (length ss) 64 ≡ b → ◌≡◌ {A = Result (List Step) Refusal} (if b then Ok ss else Err Long) (Ok steps) → length steps ≤ 64
few_if true ss steps le h = let same : ss ≡ steps = cc in subst (λ s. length s ≤ 64) same (le_of (length ss) 64 le)
few_if false ss steps le h = absurd cc

few_last : (ss steps : List Step) (ps : List Unfinished) → last ss ps ≡ Ok steps → length steps ≤ 64
few_last ss steps [] h = few_if (nat_le (length ss) 64) ss steps refl h
few_last ss steps (p ∷ ps) h = absurd cc

few_ended : (e : Expects) (ss steps : List Step) (ps : List Unfinished) → ended e ss ps ≡ Ok steps → length steps ≤ 64
few_ended Value ss steps ps h = absurd cc
few_ended (Opening f) ss steps ps h = absurd cc
few_ended Sign ss steps ps h = few_last (ss ++ emitted 0 ps) steps (released 0 ps) h

unnumbered : {X : Type 0} (n : ℕ) (r : Result X Refusal) (x : X) → numbered n r ≡ Ok x → r ≡ Ok x
unnumbered n (Ok y) x h = cc
unnumbered n (Err why) x h = absurd cc

few_after : (r : Result Place (ℕ × Refusal)) (next : Place → Result (List Step) (ℕ × Refusal)) (steps : List Step) → ((p : Place) → next p ≡ Ok steps → length steps ≤ 64) → then_read r next ≡ Ok steps → length steps ≤ 64
few_after (Ok p) next steps few h = few p h
few_after (Err why) next steps few h = absurd cc

few_parsed : (words : List Token) (n : ℕ) (e : Expects) (ss steps : List Step) (ps : List Unfinished) → parsed n e words ss ps ≡ Ok steps → length steps ≤ 64
few_parsed [] n e ss steps ps h = few_ended e ss steps ps (unnumbered n (ended e ss ps) steps h)
few_parsed (word ∷ words) n e ss steps ps h =
    few_after (numbered n (turn e word ss ps)) (λ p. parsed (n + 1) p.expects words p.steps p.pending) steps (λ p is. few_parsed words (n + 1) p.expects p.steps steps p.pending is) h

-- Names are ASCII.

small : (c : ℕ) → in_name c ≡ true → c < 128
small c h = grind arith

ascii_after : (b : Bool) (x n : ℕ) (xs : List ℕ) → in_name x ≡ b → IsAscii (take n xs) → IsAscii (take (cond b (1 + n) 0) (x ∷ xs))
ascii_after true x n xs is ascii = let more : 1 + n ≡ suc n = omega arith in subst (λ k. IsAscii (take k (x ∷ xs))) (sym more) (IsAscii-cons x (take n xs) (small x is) ascii)
ascii_after false x n xs is ascii = IsAscii-nil

ascii_name : (xs : List ℕ) → IsAscii (take (prefix_len in_name xs) xs)
ascii_name [] = IsAscii-nil
ascii_name (x ∷ xs) = ascii_after (in_name x) x (prefix_len in_name xs) xs refl (ascii_name xs)

-- A line defines nothing, or what fits.

abbrev IsFitting : Found → Type 0
IsFitting found = (name : List ℕ) (steps : List Step) → found ≡ Ok (Some (name, steps)) → IsAscii name × (length steps ≤ 64)

abbrev name_in : Found → List ℕ
name_in (Ok (Some d)) = d.0
name_in _ = []

abbrev steps_in : Found → List Step
steps_in (Ok (Some d)) = d.1
steps_in _ = []

fit_steps : (name : List ℕ) (end : ℕ) (words : List Placed) (tokens : List Token) (r : Result (List Step) (ℕ × Refusal)) → IsAscii name → r ≡ parsed 0 Value tokens [] [] → IsFitting (with_steps name end words r)
fit_steps name end words tokens (Ok ss) ascii is name' steps h =
    let n : name ≡ name' = ap name_in h in
    let s : ss ≡ steps = ap steps_in h in
    (subst IsAscii n ascii, few_parsed tokens 0 Value [] steps [] (sym is ∙ ap (λ x. Ok x) s))
fit_steps name end words tokens (Err why) ascii is name' steps h = absurd cc

fit_words : (name : List ℕ) (end : ℕ) (r : Result (List Placed) (ℕ × Unknown)) → IsAscii name → IsFitting (with_words name end r)
fit_words name end (Ok words) ascii name' steps h = fit_steps name end words (words_in words) (parsed 0 Value (words_in words) [] []) ascii refl name' steps h
fit_words name end (Err unread) ascii name' steps h = absurd cc

fit_equals_if : (b : Bool) (name : List ℕ) (at blanks : ℕ) (text : List ℕ) → IsAscii name → IsFitting (if b then formula_line name (at + blanks + 1) (drop 1 (drop blanks text)) else Err (at + blanks, wrong.Equals))
fit_equals_if true name at blanks text ascii name' steps h = fit_words name (at + blanks + 1 + length (drop 1 (drop blanks text))) (lexed (at + blanks + 1) 0 (drop 1 (drop blanks text))) ascii name' steps h
fit_equals_if false name at blanks text ascii name' steps h = absurd cc

fit_equals : (name : List ℕ) (at : ℕ) (text : List ℕ) → IsAscii name → IsFitting (equals_line name at text)
fit_equals name at text ascii = fit_equals_if (equals_next (drop (prefix_len is_blank text) text)) name at (prefix_len is_blank text) text ascii

fit_name_if : (b : Bool) (at len : ℕ) (text : List ℕ) → IsAscii (take len text) → IsFitting (if b then equals_line (take len text) (at + len) (drop len text) else Err (at, wrong.Name))
fit_name_if true at len text ascii name' steps h = fit_equals (take len text) (at + len) (drop len text) ascii name' steps h
fit_name_if false at len text ascii name' steps h = absurd cc

fit_name : (at : ℕ) (text : List ℕ) → IsFitting (name_line at text)
fit_name at text = fit_name_if (is_name (take (prefix_len in_name text) text)) at (prefix_len in_name text) text (ascii_name text)

fit_trimmed_if : (b : Bool) (at : ℕ) (text : List ℕ) → IsFitting (if b then Ok None else name_line at text)
fit_trimmed_if true at text name steps h = absurd cc
fit_trimmed_if false at text name steps h = fit_name at text name steps h

fit_trimmed : (at : ℕ) (text : List ℕ) → IsFitting (trimmed_line at text)
fit_trimmed at [] name steps h = absurd cc
fit_trimmed at (c ∷ cs) name steps h = fit_trimmed_if (nat_eq c 35) at (c ∷ cs) name steps h

fit_line : (line : List ℕ) → IsFitting (line_of line)
fit_line line = fit_trimmed (prefix_len is_blank line) (drop (prefix_len is_blank line) line)

-- A file.

fit_front : (d : Defined) (more : Read) (ds : List Defined) → IsFit d → ((rest : List Defined) → more ≡ Ok rest → AreFit rest) → in_front d more ≡ Ok ds → AreFit ds
fit_front d (Ok rest) ds fit others h = let is : d ∷ rest ≡ ds = cc in subst AreFit is (fit, others rest refl)
fit_front d (Err why) ds fit others h = absurd cc

fit_with : (n : ℕ) (found : Found) (more : Read) (ds : List Defined) → IsFitting found → ((rest : List Defined) → more ≡ Ok rest → AreFit rest) → with_line n found more ≡ Ok ds → AreFit ds
fit_with n (Ok None) more ds fit others h = others ds h
fit_with n (Ok (Some d)) more ds fit others h = fit_front (n, d.0, d.1) more ds (fit d.0 d.1 refl) others h
fit_with n (Err why) more ds fit others h = absurd cc

pub are_fit : (n skip : ℕ) (text : List ℕ) (ds : List Defined) → read_from n skip text ≡ Ok ds → AreFit ds
are_fit n skip [] ds h = let none : [] ≡ ds = cc in subst AreFit none tt
are_fit n zero (c ∷ cs) ds h =
    let len : ℕ = prefix_len in_line (c ∷ cs) in
    fit_with n (line_of (take len (c ∷ cs))) (read_from (n + 1) len cs) ds (fit_line (take len (c ∷ cs))) (λ rest is. are_fit (n + 1) len cs rest is) h
are_fit n (suc skip) (c ∷ cs) ds h = are_fit n skip cs ds h
