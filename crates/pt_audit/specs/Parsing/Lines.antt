-- The lines of a file, and the blocks of the log in it.
use Rattle.std.specs.Prelude.{ℕ, suc, Bool, ◌==◌, List, [], ◌∷◌, ◌++◌, codes, Option, None, Some, option_map, bytes_eq, take, if◌then◌else◌}
use Rattle.pt_tables.specs.Log.{log_head}

-- this byte before these lines: it begins the first one
abbrev pub before_first : ℕ → List (List ℕ) → List (List ℕ)
before_first b [] = (b ∷ []) ∷ []
before_first b (line ∷ lines) = (b ∷ line) ∷ lines

-- the lines of a text, each with its line feed; a rest without one is the last
abbrev pub text_lines : List ℕ → List (List ℕ)
text_lines [] = []
text_lines (b ∷ bs) = if b == 10 then (b ∷ []) ∷ text_lines bs else before_first b (text_lines bs)

-- the lines before the first line `log`, and those after it; None if no line is `log`
abbrev pub at_log : List (List ℕ) → Option (List (List ℕ) × List (List ℕ))
at_log [] = None
at_log (line ∷ lines) = if bytes_eq line log_head then Some ([], lines) else option_map (λ (parts : List (List ℕ) × List (List ℕ)). (line ∷ parts.0, parts.1)) (at_log lines)

-- the lines of one turn, joined, and the number of the first of them in the file, from 1
pub record Block : Type 0 where
  pub line : ℕ
  pub text : List ℕ

-- it begins with `turn,`
abbrev pub begins_turn : List ℕ → Bool
begins_turn text = bytes_eq (take 5 text) (codes "turn,")

-- this line, with its number, before these blocks: it begins the first one, or is a block if that one begins with `turn,`
abbrev pub with_line : ℕ → List ℕ → List Block → List Block
with_line n line [] = record { line = n; text = line } ∷ []
with_line n line (block ∷ blocks) =
    if begins_turn block.text then record { line = n; text = line } ∷ block ∷ blocks else record { line = n; text = line ++ block.text } ∷ blocks

-- the blocks of these lines, which are numbered from n on: the first line begins a block, and so does each later one that
-- begins with `turn,`
abbrev pub blocks_from : ℕ → List (List ℕ) → List Block
blocks_from n [] = []
blocks_from n (line ∷ lines) = with_line n line (blocks_from (suc n) lines)
