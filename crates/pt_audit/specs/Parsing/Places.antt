-- Where the log part of a file begins, and where its blocks end.
use Rattle.std.specs.Prelude.{◌≡◌, ℕ, ◌+◌, ◌≤◌, ◌++◌, ◌∷◌, List, Some, take, drop, length}
use Rattle.pt_tables.specs.Log.{log_head}
use Rattle.pt_audit.specs.Parsing.Lines.{at_log, blocks_from, text_lines}

-- the first line `log` of the file begins at this place and has this number, from 1
pub record IsLogAt (bytes : List ℕ) (place line : ℕ) : Type 0 where
  pub lines : at_log (text_lines bytes) ≡ Some (text_lines (take place bytes), text_lines (drop (place + 4) bytes))
  pub number : line ≡ length (text_lines (take place bytes)) + 1
  pub parts : bytes ≡ take place bytes ++ log_head ++ drop (place + 4) bytes
  pub few : line ≤ place + 1
  pub within : place + 4 ≤ length bytes

-- the first block of the text has this many bytes, and this many lines
pub record IsFirstBlock (bytes : List ℕ) (len lines : ℕ) : Type 0 where
  pub some : 1 ≤ lines
  pub few : lines ≤ len
  pub within : len ≤ length bytes
  pub blocks : (n : ℕ) → blocks_from n (text_lines bytes) ≡ record { line = n; text = take len bytes } ∷ blocks_from (n + lines) (text_lines (drop len bytes))
