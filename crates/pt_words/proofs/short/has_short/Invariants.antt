use Rattle.std.proofs.Common.{◌≡◌, drop, map, string_bytes}
use Rattle.pt_words.specs.Short.{has_short}
use Rattle.pt_words.proofs.short.has_short.Given as goal

abbrev pub invariant-loop-word : goal.invariant-loop-word
invariant-loop-word l = has_short (map string_bytes (drop l.word-index l.words)) ≡ has_short (map string_bytes l.words)
