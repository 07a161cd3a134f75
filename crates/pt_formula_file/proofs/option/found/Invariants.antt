use Rattle.std.proofs.Common.{◌≡◌, ◌∷◌, [], drop, false, map, string_bytes}
use Rattle.pt_formula_file.specs.Option.{behind, found}
use Rattle.pt_formula_file.proofs.option.found.Given as goal

-- the words so far, in front of what the words to come give
abbrev pub invariant-loop-at : goal.invariant-loop-at
invariant-loop-at l = behind (map string_bytes l.before.items) (found l.is_value (map string_bytes (drop l.at l.words))) ≡ behind (string_bytes l.verb ∷ []) (found false (map string_bytes l.words))
