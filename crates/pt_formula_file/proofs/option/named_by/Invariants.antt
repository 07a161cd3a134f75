use Rattle.std.proofs.Common.{◌≡◌, ◌++◌, drop, map, string_bytes}
use Rattle.pt_formula_file.proofs.option.named_by.Given as goal

-- the words so far, and those to come
abbrev pub invariant-loop-word : goal.invariant-loop-word
invariant-loop-word l = map string_bytes l.others.items ++ map string_bytes (drop l.word-index l.words) ≡ map string_bytes l.fn.before.items ++ map string_bytes l.words
