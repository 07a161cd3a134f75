-- The blocks of the lines of a text, cut where the first block ends.
use Rattle.std.proofs.Common.{◌≡◌, ◌≢◌, ℕ, suc, Bool, true, false, ◌==◌, ◌&&◌, nat_eq, List, [], ◌∷◌, ◌++◌, bytes_eq, codes, length, take, refl, sym, ap, ◌∙◌, ⊎_elim, append_assoc, arith}
use Rattle.std.proofs.lemmas.Bool.{cases_Bool, eqb-true, ne_eqb}
use Rattle.pt_audit.specs.Parsing.Lines.{Block, before_first, begins_turn, blocks_from, text_lines, with_line}
use Rattle.pt_audit.proofs.Parsing.Cuts.{Lacks}

-- the text of the first block; nothing if there is none
abbrev pub first_text : List Block → List ℕ
first_text [] = []
first_text (block ∷ blocks) = block.text

-- it begins with w
abbrev begins : List ℕ → List ℕ → Bool
begins w xs = bytes_eq (take (length w) xs) w

first_of_line_at : (n x : ℕ) (line : List ℕ) (block : Block) (blocks : List Block) (b : Bool) → begins_turn block.text ≡ b → (more : List ℕ) × (first_text (with_line n (x ∷ line) (block ∷ blocks)) ≡ x ∷ more) × (first_text (with_line n line (block ∷ blocks)) ≡ more)
first_of_line_at n x line block blocks true e = (line, rw e refl, rw e refl)
first_of_line_at n x line block blocks false e = (line ++ block.text, rw e refl, rw e refl)

-- the first block begins with the line
first_of_line : (n x : ℕ) (line : List ℕ) (blocks : List Block) → (more : List ℕ) × (first_text (with_line n (x ∷ line) blocks) ≡ x ∷ more) × (first_text (with_line n line blocks) ≡ more)
first_of_line n x line [] = (line, refl, refl)
first_of_line n x line (block ∷ blocks) = first_of_line_at n x line block blocks (begins_turn block.text) refl

first_of_before : (n x : ℕ) (lines : List (List ℕ)) → first_text (blocks_from n (before_first x lines)) ≡ x ∷ first_text (blocks_from n lines)
first_of_before n x [] = refl
first_of_before n x (line ∷ lines) =
    let parts = first_of_line n x line (blocks_from (suc n) lines) in
    parts.1 ∙ ap (λ (ys : List ℕ). x ∷ ys) (sym parts.2)

apart : (x c : ℕ) (xs w : List ℕ) → x ≡ 10 → c ≢ 10 → begins (c ∷ w) (x ∷ xs) ≡ false
apart x c xs w e other = rw (ne_eqb x c (λ (h : x ≡ c). other (sym h ∙ e))) refl

-- the first block begins as the text does, up to a line feed
first_begins : (n : ℕ) (w xs : List ℕ) → Lacks 10 w → begins w (first_text (blocks_from n (text_lines xs))) ≡ begins w xs
first_begins n [] xs lacks = refl
first_begins n (c ∷ w) [] lacks = refl
first_begins n (c ∷ w) (x ∷ xs) lacks = ⊎_elim
    (λ (ends : (x == 10) ≡ true).
    let parts = first_of_line n x [] (blocks_from (suc n) (text_lines xs)) in
    rw (ends, parts.1) (apart x c parts.0 w (eqb-true x 10 ends) lacks.0 ∙ sym (apart x c xs w (eqb-true x 10 ends) lacks.0)))
    (λ (other : (x == 10) ≡ false). rw (other, first_of_before n x (text_lines xs)) (ap (λ (b : Bool). nat_eq x c && b) (first_begins n w xs lacks.1)))
    (cases_Bool (x == 10))

turn_lacks : Lacks 10 (codes "turn,")
turn_lacks = (omega arith, (omega arith, (omega arith, (omega arith, (omega arith, tt)))))

pub first_begins_turn : (n : ℕ) (xs : List ℕ) → begins_turn (first_text (blocks_from n (text_lines xs))) ≡ begins_turn xs
first_begins_turn n xs = first_begins n (codes "turn,") xs turn_lacks

with_two_at : (n m : ℕ) (text line : List ℕ) (block : Block) (blocks : List Block) (b : Bool) → begins_turn block.text ≡ b → begins_turn (first_text (with_line m line (block ∷ blocks))) ≡ false → with_line n text (with_line m line (block ∷ blocks)) ≡ with_line n (text ++ line) (block ∷ blocks)
with_two_at n m text line block blocks true e h =
    let no_turn : begins_turn line ≡ false = rw e at h in rw (e, no_turn) refl
with_two_at n m text line block blocks false e h =
    let no_turn : begins_turn (line ++ block.text) ≡ false = rw e at h in
    rw (e, no_turn, append_assoc) refl

-- two lines before the blocks, of which the second begins no block
with_two : (n m : ℕ) (text line : List ℕ) (blocks : List Block) → begins_turn (first_text (with_line m line blocks)) ≡ false → with_line n text (with_line m line blocks) ≡ with_line n (text ++ line) blocks
with_two n m text line [] h = rw h refl
with_two n m text line (block ∷ blocks) h = with_two_at n m text line block blocks (begins_turn block.text) refl h

-- a further line that does not begin with `turn,` is of the block
pub block_more : (n m : ℕ) (text line rest more : List ℕ) → text_lines rest ≡ line ∷ text_lines more → begins_turn rest ≡ false → with_line n text (blocks_from m (text_lines rest)) ≡ with_line n (text ++ line) (blocks_from (suc m) (text_lines more))
block_more n m text line rest more e h =
    let first = first_begins_turn m rest ∙ h in
    let no_turn : begins_turn (first_text (with_line m line (blocks_from (suc m) (text_lines more)))) ≡ false = rw e at first in
    rw e (with_two n m text line (blocks_from (suc m) (text_lines more)) no_turn)

ends_at : (n : ℕ) (text : List ℕ) (blocks : List Block) → begins_turn (first_text blocks) ≡ true → with_line n text blocks ≡ record { line = n; text = text } ∷ blocks
ends_at n text [] h = absurd cc
ends_at n text (block ∷ blocks) h = rw h refl

-- a rest that begins with `turn,` is not of the block
pub block_ends : (n m : ℕ) (text rest : List ℕ) → begins_turn rest ≡ true → with_line n text (blocks_from m (text_lines rest)) ≡ record { line = n; text = text } ∷ blocks_from m (text_lines rest)
block_ends n m text rest h = ends_at n text (blocks_from m (text_lines rest)) (first_begins_turn m rest ∙ h)
