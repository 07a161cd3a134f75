-- What command lines without `--claims` ask for.
use Rattle.std.specs.Prelude.{◌≡◌, ℕ, ◌==◌, ◌||◌, Bool, false, List, [], ◌∷◌, String, string_bytes, map, option_map, codes, bytes_eq, if◌then◌else◌}
use Rattle.std.specs.List.{before_first}
use Rattle.std.specs.declared.alloc.Global.{Global}
use Rattle.pt_words.specs.Grammar.{Order, over, make, migrate, audit, replay, usual_file, order_of}
use Rattle.pt_words.specs.Before as before

-- a word `--claims` or `--claims=VALUE`
abbrev pub names_claims : List ℕ → Bool
names_claims word = bytes_eq (codes "--claims") (before_first (λ byte. byte == 61) word)

-- such a word comes before any word `--`
abbrev pub has_claims : List (List ℕ) → Bool
has_claims [] = false
has_claims (word ∷ words) = if bytes_eq word (45 ∷ 45 ∷ []) then false else names_claims word || has_claims words

-- an order of the grammar before, with the usual number of claims
abbrev pub with_usual : before.Order → Order
with_usual (before.over command graph) = over command (usual_file graph)
with_usual (before.make number workers) = make number workers
with_usual (before.migrate graph) = migrate (usual_file graph)
with_usual (before.audit graph log) = audit (usual_file graph) log
with_usual (before.replay graph air workers log) = replay (usual_file graph) air workers log

-- without such a word the words ask for what they asked for before
abbrev pub NoPresentAnswerChanges : Type 0
NoPresentAnswerChanges = (words : List (String Global)) → has_claims (map string_bytes words) ≡ false → order_of words ≡ option_map with_usual (before.order_of words)
