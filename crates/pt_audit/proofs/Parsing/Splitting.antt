-- The lines of a text, cut where some of them end.
use Rattle.std.proofs.Common.{◌≡◌, ℕ, ◌⊎◌, inl, inr, append-nil, true, false, ◌==◌, List, [], ◌∷◌, ◌++◌, Some, None, bytes_eq, refl, sym, ap, ◌∙◌, subst, ⊎_elim, append_assoc}
use Rattle.std.specs.List.{concat}
use Rattle.std.proofs.lemmas.Bool.{cases_Bool}
use Rattle.pt_semantics.specs.Lists.{Each}
use Rattle.pt_tables.specs.Log.{log_head}
use Rattle.pt_audit.specs.Parsing.Lines.{at_log, before_first, text_lines}

pub concat_push : (xs : List (List ℕ)) (y : List ℕ) → concat (xs ++ y ∷ []) ≡ concat xs ++ y
concat_push [] y = append-nil y
concat_push (x ∷ xs) y = ap (λ (ys : List ℕ). x ++ ys) (concat_push xs y) ∙ sym (append_assoc x (concat xs) y)

-- a list that begins a list with a first item is empty or has that item first
first_apart : (x : List ℕ) (xs front rest : List (List ℕ)) → x ∷ xs ≡ front ++ rest → (front ≡ []) ⊎ ((more : List (List ℕ)) × (front ≡ x ∷ more) × (xs ≡ more ++ rest))
first_apart x xs [] rest e = inl refl
first_apart x xs (y ∷ front) rest e = inr (front, cc, cc)

lines_front_at : (b : ℕ) (lines front rest : List (List ℕ)) → ((more : List (List ℕ)) (less : List (List ℕ)) → lines ≡ more ++ less → text_lines (concat more) ≡ more) → (b == 10) ≡ false → before_first b lines ≡ front ++ rest → text_lines (concat front) ≡ front
lines_front_at b [] front rest known other e = ⊎_elim
    (λ (nothing : front ≡ []). subst (λ (ls : List (List ℕ)). text_lines (concat ls) ≡ ls) (sym nothing) refl)
    (λ (some : (more : List (List ℕ)) × (front ≡ (b ∷ []) ∷ more) × ([] ≡ more ++ rest)). subst (λ (ls : List (List ℕ)). text_lines (concat ls) ≡ ls) (sym (some.1 ∙ ap (λ (ls : List (List ℕ)). (b ∷ []) ∷ ls) (nothing_left some.0 rest some.2))) (rw other refl))
    (first_apart (b ∷ []) [] front rest e)
  where
    nothing_left : (more less : List (List ℕ)) → [] ≡ more ++ less → more ≡ []
    nothing_left [] less h = refl
    nothing_left (x ∷ more) less h = cc
lines_front_at b (line ∷ lines) front rest known other e = ⊎_elim
    (λ (nothing : front ≡ []). subst (λ (ls : List (List ℕ)). text_lines (concat ls) ≡ ls) (sym nothing) refl)
    (λ (some : (more : List (List ℕ)) × (front ≡ (b ∷ line) ∷ more) × (lines ≡ more ++ rest)). subst (λ (ls : List (List ℕ)). text_lines (concat ls) ≡ ls) (sym some.1) (rw other (ap (before_first b) (known (line ∷ some.0) rest (ap (λ (ls : List (List ℕ)). line ∷ ls) some.2)))))
    (first_apart (b ∷ line) lines front rest e)

-- the first lines of a text, joined, are those lines again
pub lines_front : (bytes : List ℕ) (front rest : List (List ℕ)) → text_lines bytes ≡ front ++ rest → text_lines (concat front) ≡ front
lines_front [] [] rest e = refl
lines_front [] (line ∷ front) rest e = cc
lines_front (b ∷ bytes) front rest e = ⊎_elim
    (λ (ends : (b == 10) ≡ true). ⊎_elim
    (λ (nothing : front ≡ []). subst (λ (ls : List (List ℕ)). text_lines (concat ls) ≡ ls) (sym nothing) refl)
    (λ (some : (more : List (List ℕ)) × (front ≡ (b ∷ []) ∷ more) × (text_lines bytes ≡ more ++ rest)). subst (λ (ls : List (List ℕ)). text_lines (concat ls) ≡ ls) (sym some.1) (rw ends (ap (λ (ls : List (List ℕ)). (b ∷ []) ∷ ls) (lines_front bytes some.0 rest some.2))))
    (first_apart (b ∷ []) (text_lines bytes) front rest (rw ends at e)))
    (λ (other : (b == 10) ≡ false). lines_front_at b (text_lines bytes) front rest (lines_front bytes) other (rw other at e))
    (cases_Bool (b == 10))

-- none of these lines is `log`
abbrev pub HaveNoLog : List (List ℕ) → Type 0
HaveNoLog lines = Each (λ (line : List ℕ). bytes_eq line log_head ≡ false) lines

pub at_log_past : (lines rest : List (List ℕ)) → HaveNoLog lines → at_log (lines ++ log_head ∷ rest) ≡ Some (lines, rest)
at_log_past [] rest none = refl
at_log_past (line ∷ lines) rest none = rw (none.0, at_log_past lines rest none.1) refl

pub at_log_none : (lines : List (List ℕ)) → HaveNoLog lines → at_log lines ≡ None
at_log_none [] none = refl
at_log_none (line ∷ lines) none = rw (none.0, at_log_none lines none.1) refl

pub no_log_push : (lines : List (List ℕ)) (line : List ℕ) → HaveNoLog lines → bytes_eq line log_head ≡ false → HaveNoLog (lines ++ line ∷ [])
no_log_push [] line none other = (other, tt)
no_log_push (l ∷ lines) line none other = (none.0, no_log_push lines line none.1 other)
