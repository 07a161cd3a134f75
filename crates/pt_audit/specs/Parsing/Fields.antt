-- A text cut at the first of a byte, and its first line.
use Rattle.std.specs.Prelude.{◌≡◌, ℕ, ◌==◌, ◌<◌, ◌≤◌, List, [], ◌∷◌, length, take, drop, if◌then◌else◌}
use Rattle.pt_audit.specs.Parsing.Lines.{text_lines}

-- what comes before the first b; the whole text if there is no b
abbrev pub before : ℕ → List ℕ → List ℕ
before b [] = []
before b (x ∷ xs) = if x == b then [] else x ∷ before b xs

-- what comes after the first b; nothing if there is no b
abbrev pub after : ℕ → List ℕ → List ℕ
after b [] = []
after b (x ∷ xs) = if x == b then xs else after b xs

-- the first line of a text that has one has this many bytes
pub record IsFirstLine (bytes : List ℕ) (len : ℕ) : Type 0 where
  pub some : 0 < len
  pub within : len ≤ length bytes
  pub lines : text_lines bytes ≡ take len bytes ∷ text_lines (drop len bytes)
