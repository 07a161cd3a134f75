-- Texts cut at a byte, and their first lines.
use Rattle.std.proofs.Common.{◌≡◌, ◌≢◌, ℕ, zero, suc, ◌<◌, true, false, ◌==◌, List, [], ◌∷◌, ◌++◌, length, get_or, take, drop, refl, ap, arith}
use Rattle.std.proofs.lemmas.List.{drop_all, take_all}
use Rattle.std.proofs.lemmas.Bool.{eq-eqb, false_from_ne_true, ne_eqb}
use Rattle.pt_semantics.specs.Lists.{Each}
use Rattle.pt_audit.specs.Parsing.Fields.{after, before}
use Rattle.pt_audit.specs.Parsing.Lines.{before_first, text_lines}

-- no byte of the text is b
abbrev pub Lacks : ℕ → List ℕ → Type 0
Lacks b xs = Each (λ x. x ≢ b) xs

-- the first b is at place k
pub cut_here : (b : ℕ) (xs : List ℕ) (k : ℕ) → k < length xs → (get_or xs k 0 == b) ≡ true → ((j : ℕ) → j < k → (get_or xs j 0 == b) ≡ true → ⊥) → (before b xs ≡ take k xs) × (after b xs ≡ drop (suc k) xs)
cut_here b [] k less is none = absurd (omega arith)
cut_here b (x ∷ xs) zero less is none = rw is (refl, refl)
cut_here b (x ∷ xs) (suc k) less is none =
    let other : (x == b) ≡ false = false_from_ne_true (x == b) (none 0 (omega arith)) in
    let rest = cut_here b xs k (omega arith) is (λ j small. none (suc j) (omega arith)) in
    rw other (ap (λ (ys : List ℕ). x ∷ ys) rest.0, rest.1)

-- there is no b
pub cut_none : (b : ℕ) (xs : List ℕ) → ((j : ℕ) → j < length xs → (get_or xs j 0 == b) ≡ true → ⊥) → (before b xs ≡ xs) × (after b xs ≡ [])
cut_none b [] none = (refl, refl)
cut_none b (x ∷ xs) none =
    let other : (x == b) ≡ false = false_from_ne_true (x == b) (none 0 (omega arith)) in
    let rest = cut_none b xs (λ j small. none (suc j) (omega arith)) in
    rw other (ap (λ (ys : List ℕ). x ∷ ys) rest.0, rest.1)

pub before_at : (b : ℕ) (xs ys : List ℕ) → Lacks b xs → before b (xs ++ b ∷ ys) ≡ xs
before_at b [] ys lacks = rw (eq-eqb b b refl) refl
before_at b (x ∷ xs) ys lacks = rw (ne_eqb x b lacks.0) (ap (λ (zs : List ℕ). x ∷ zs) (before_at b xs ys lacks.1))

pub after_at : (b : ℕ) (xs ys : List ℕ) → Lacks b xs → after b (xs ++ b ∷ ys) ≡ ys
after_at b [] ys lacks = rw (eq-eqb b b refl) refl
after_at b (x ∷ xs) ys lacks = rw (ne_eqb x b lacks.0) (after_at b xs ys lacks.1)

-- a text of two parts that lack a byte lacks it
pub lacks_append : (b : ℕ) (xs ys : List ℕ) → Lacks b xs → Lacks b ys → Lacks b (xs ++ ys)
lacks_append b [] ys one other = other
lacks_append b (x ∷ xs) ys one other = (one.0, lacks_append b xs ys one.1 other)

-- the first line ends at place k
pub line_here : (xs : List ℕ) (k : ℕ) → k < length xs → (get_or xs k 0 == 10) ≡ true → ((j : ℕ) → j < k → (get_or xs j 0 == 10) ≡ true → ⊥) → text_lines xs ≡ take (suc k) xs ∷ text_lines (drop (suc k) xs)
line_here [] k less is none = absurd (omega arith)
line_here (x ∷ xs) zero less is none = rw is refl
line_here (x ∷ xs) (suc k) less is none =
    let other : (x == 10) ≡ false = false_from_ne_true (x == 10) (none 0 (omega arith)) in
    let rest = line_here xs k (omega arith) is (λ j small. none (suc j) (omega arith)) in
    rw other (ap (before_first x) rest)

-- the only line has no line feed
pub line_whole : (xs : List ℕ) → 0 < length xs → ((j : ℕ) → j < length xs → (get_or xs j 0 == 10) ≡ true → ⊥) → text_lines xs ≡ xs ∷ []
line_whole [] some none = absurd (omega arith)
line_whole (x ∷ []) some none =
    let other : (x == 10) ≡ false = false_from_ne_true (x == 10) (none 0 (omega arith)) in
    rw other refl
line_whole (x ∷ y ∷ xs) some none =
    let other : (x == 10) ≡ false = false_from_ne_true (x == 10) (none 0 (omega arith)) in
    let rest = line_whole (y ∷ xs) (omega arith) (λ j small. none (suc j) (omega arith)) in
    rw other (ap (before_first x) rest)

pub line_whole_at : (xs : List ℕ) → 0 < length xs → ((j : ℕ) → j < length xs → (get_or xs j 0 == 10) ≡ true → ⊥) → text_lines xs ≡ take (length xs) xs ∷ text_lines (drop (length xs) xs)
line_whole_at xs some none = rw (take_all (length xs) xs (omega arith), drop_all (length xs) xs (omega arith)) (line_whole xs some none)
