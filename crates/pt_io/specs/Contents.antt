-- What a shelf gives: named contents in a list, and the numbers of the calls that fail.
use Rattle.std.specs.Prelude.{ℕ, ◌+◌, ◌==◌, Bool, cond, List, Option, None, option_map, find, bytes_eq, take}
use Rattle.std.specs.List.{list_any}

-- the first content of that name
abbrev pub content : List (List ℕ × List ℕ) → List ℕ → Option (List ℕ)
content contents name = option_map (λ c. c.1) (find (λ c. bytes_eq c.0 name) contents)

-- the call of this number fails
abbrev pub fails : List ℕ → ℕ → Bool
fails failing call = list_any (λ f. f == call) failing

-- what the call of this number gives: nothing if it fails or the name is missing, else the first `most + 1` bytes, or all
abbrev pub given : List (List ℕ × List ℕ) → List ℕ → ℕ → List ℕ → ℕ → Option (List ℕ)
given contents failing call name most = cond (fails failing call) None (option_map (take (most + 1)) (content contents name))
