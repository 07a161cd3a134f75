-- The blocks of a text, joined, and its lines, joined.
use Rattle.std.proofs.Common.{◌≡◌, ℕ, suc, Bool, true, false, ◌==◌, List, [], ◌∷◌, ◌++◌, flat_map, refl, ap, ◌∙◌, append_assoc, ⊎_elim}
use Rattle.std.specs.List.{concat}
use Rattle.std.proofs.lemmas.Bool.{cases_Bool}
use Rattle.pt_audit.specs.Parsing.Lines.{Block, before_first, begins_turn, blocks_from, text_lines, with_line}

-- the texts of blocks, one after another
abbrev pub joined : List Block → List ℕ
joined blocks = flat_map (λ (block : Block). block.text) blocks

joined_line_at : (n : ℕ) (line : List ℕ) (block : Block) (blocks : List Block) (b : Bool) → begins_turn block.text ≡ b → joined (with_line n line (block ∷ blocks)) ≡ line ++ joined (block ∷ blocks)
joined_line_at n line block blocks true e = rw e refl
joined_line_at n line block blocks false e = rw e (append_assoc line block.text (joined blocks))

joined_line : (n : ℕ) (line : List ℕ) (blocks : List Block) → joined (with_line n line blocks) ≡ line ++ joined blocks
joined_line n line [] = refl
joined_line n line (block ∷ blocks) = joined_line_at n line block blocks (begins_turn block.text) refl

-- the blocks of lines, joined, are the lines, joined
pub joined_lines : (n : ℕ) (lines : List (List ℕ)) → joined (blocks_from n lines) ≡ concat lines
joined_lines n [] = refl
joined_lines n (line ∷ lines) = joined_line n line (blocks_from (suc n) lines) ∙ ap (λ (xs : List ℕ). line ++ xs) (joined_lines (suc n) lines)

concat_first : (b : ℕ) (lines : List (List ℕ)) → concat (before_first b lines) ≡ b ∷ concat lines
concat_first b [] = refl
concat_first b (line ∷ lines) = refl

-- the lines of a text, joined, are the text
pub concat_lines : (text : List ℕ) → concat (text_lines text) ≡ text
concat_lines [] = refl
concat_lines (b ∷ bs) = ⊎_elim
    (λ (ends : (b == 10) ≡ true). rw ends (ap (λ (xs : List ℕ). b ∷ xs) (concat_lines bs)))
    (λ (other : (b == 10) ≡ false). rw other (concat_first b (text_lines bs) ∙ ap (λ (xs : List ℕ). b ∷ xs) (concat_lines bs)))
    (cases_Bool (b == 10))
