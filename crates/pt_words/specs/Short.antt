-- Words that clap would read as bundles of short options.
use Rattle.std.specs.Prelude.{ℕ, List, [], ◌∷◌, Bool, false, bytes_eq, not, ◌||◌, ◌&&◌, ◌==◌, if◌then◌else◌}

-- a word that begins with a single `-` and is longer than that
abbrev pub is_short : List ℕ → Bool
is_short [] = false
is_short (byte ∷ []) = false
is_short (byte ∷ next ∷ more) = byte == 45 && not (next == 45)

-- such a word comes before any word `--`
abbrev pub has_short : List (List ℕ) → Bool
has_short [] = false
has_short (word ∷ words) = if bytes_eq word (45 ∷ 45 ∷ []) then false else is_short word || has_short words
