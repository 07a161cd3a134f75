-- The option `--blocks` in the words of a command line. A word is a list of bytes.
use Rattle.std.specs.Prelude.{ℕ, ◌==◌, ◌||◌, Bool, true, false, List, [], ◌∷◌, ◌++◌, length, map, Option, Some, None, option_map, codes, bytes_eq, string_bytes, if◌then◌else◌}
use Rattle.std.specs.List.{after_first, before_first}
use Rattle.pt_formula_file.specs.declared.option.BlocksOption.{BlocksOption}

-- the byte `=`
abbrev pub is_equals : ℕ → Bool
is_equals byte = byte == 61

-- a word that begins with `-` and is longer than that
abbrev pub is_dashed : List ℕ → Bool
is_dashed [] = false
is_dashed (byte ∷ []) = false
is_dashed (byte ∷ next ∷ more) = byte == 45

-- an option whose value is the next word
abbrev pub needs_value : List ℕ → Bool
needs_value word = bytes_eq word (codes "--workers") || (bytes_eq word (codes "--clock") || bytes_eq word (codes "--claims"))

-- a file of formulas and the other words, or nothing
abbrev pub Found : Type 0
Found = Option (List ℕ × List (List ℕ))

-- these words come before the others
abbrev pub behind : List (List ℕ) → Found → Found
behind before = option_map (λ f. (f.0, before ++ f.1))

-- the file has this name, if it isn't empty
abbrev pub named_by : List ℕ → List (List ℕ) → Found
named_by file words = if length file == 0 then None else Some (file, words)

-- the file is the next word, if that isn't an option
abbrev pub named_next : List (List ℕ) → Found
named_next [] = None
named_next (file ∷ words) = if is_dashed file then None else named_by file words

-- from these words on; the first may be the value of the option before it
abbrev pub found : Bool → List (List ℕ) → Found
found is_value [] = None
found true (word ∷ words) = behind (word ∷ []) (found false words)
found false (word ∷ words) =
    if bytes_eq word (codes "--") then None else (
    if bytes_eq word (codes "--blocks") then named_next words else (
    if bytes_eq (before_first is_equals word) (codes "--blocks") then named_by (after_first is_equals word) words else behind (word ∷ []) (found (needs_value word) words)))

-- of a whole command line, whose first word is the command; `make` reads no graph
abbrev pub option_of : List (List ℕ) → Found
option_of [] = None
option_of (verb ∷ words) = if bytes_eq verb (codes "make") then None else behind (verb ∷ []) (found false words)

-- what the program found
abbrev pub viewed : Option BlocksOption → Found
viewed = option_map (λ (o : BlocksOption). (string_bytes o.file, map string_bytes o.words.items))
