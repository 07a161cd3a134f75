-- Words before the option.
use Rattle.std.proofs.Common.{◌≡◌, ◌<◌, ℕ, suc, ◌+◌, Bool, true, false, List, [], ◌∷◌, ◌++◌, length, get_or, drop, map, refl, sym, ap, ◌∙◌, append_assoc, arith, Some, None, String, string_bytes, bytes_eq, codes, drop-cons}
use Rattle.std.specs.List.{before_first}
use Rattle.std.specs.declared.alloc.Global.{Global}
use Rattle.pt_formula_file.specs.Option.{Found, behind, found, is_equals, needs_value}

behind_twice : (xs : List (List ℕ)) (y : List ℕ) (f : Found) → behind (xs ++ y ∷ []) f ≡ behind xs (behind (y ∷ []) f)
behind_twice xs y None = refl
behind_twice xs y (Some f) = ap (λ ws. Some (f.0, ws)) (append_assoc xs (y ∷ []) f.1)

next_of : (words : List (String Global)) (at : ℕ) (w : String Global) → at < length words → w ≡ get_or words at w → map string_bytes (drop at words) ≡ string_bytes w ∷ map string_bytes (drop (at + 1) words)
next_of words at w within is = let n : suc at ≡ at + 1 = omega arith in ap (map string_bytes) (drop-cons words at w within ∙ ap (λ x. x ∷ drop (suc at) words) (sym is)) ∙ ap (λ k. string_bytes w ∷ map string_bytes (drop k words)) n

-- past a word that is the value of an option
pub past_value : (words : List (String Global)) (at : ℕ) (w : String Global) (xs xs' : List (List ℕ)) (all : Found) → at < length words → w ≡ get_or words at w → xs' ≡ xs ++ string_bytes w ∷ []
    → behind xs (found true (map string_bytes (drop at words))) ≡ all → behind xs' (found false (map string_bytes (drop (at + 1) words))) ≡ all
past_value words at w xs xs' all within is added goes =
    ap (λ ws. behind ws (found false (map string_bytes (drop (at + 1) words)))) added
    ∙ behind_twice xs (string_bytes w) (found false (map string_bytes (drop (at + 1) words)))
    ∙ ap (λ ws. behind xs (found true ws)) (sym (next_of words at w within is))
    ∙ goes

plain : (w : List ℕ) (ws : List (List ℕ)) → bytes_eq w (codes "--") ≡ false → bytes_eq w (codes "--blocks") ≡ false → bytes_eq (before_first is_equals w) (codes "--blocks") ≡ false → found false (w ∷ ws) ≡ behind (w ∷ []) (found (needs_value w) ws)
plain w ws a b c = rw (a, b, c) refl

-- past any other word
pub past_word : (words : List (String Global)) (at : ℕ) (w : String Global) (xs xs' : List (List ℕ)) (all : Found) → at < length words → w ≡ get_or words at w → xs' ≡ xs ++ string_bytes w ∷ []
    → bytes_eq (string_bytes w) (codes "--") ≡ false → bytes_eq (string_bytes w) (codes "--blocks") ≡ false → bytes_eq (before_first is_equals (string_bytes w)) (codes "--blocks") ≡ false
    → behind xs (found false (map string_bytes (drop at words))) ≡ all → behind xs' (found (needs_value (string_bytes w)) (map string_bytes (drop (at + 1) words))) ≡ all
past_word words at w xs xs' all within is added a b c goes =
    let rest : List (List ℕ) = map string_bytes (drop (at + 1) words) in
    ap (λ ws. behind ws (found (needs_value (string_bytes w)) rest)) added
    ∙ behind_twice xs (string_bytes w) (found (needs_value (string_bytes w)) rest)
    ∙ ap (behind xs) (sym (plain (string_bytes w) rest a b c))
    ∙ ap (λ ws. behind xs (found false ws)) (sym (next_of words at w within is))
    ∙ goes

-- a test of a word that fails, of the text that was compared
pub no : (s t x : List ℕ) (r : Bool) → s ≡ t → r ≡ bytes_eq s x → r ≡ false → bytes_eq t x ≡ false
no s t x r e is f = ap (λ z. bytes_eq z x) (sym e) ∙ sym is ∙ f
