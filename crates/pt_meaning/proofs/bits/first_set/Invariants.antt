use Rattle.std.proofs.Common.{◌≡◌, ◌*◌, ◌<◌, ℕ}
use Rattle.pt_causality.specs.Before.{bit_of}
use Rattle.pt_meaning.proofs.bits.first_set.Given as goal

abbrev pub invariant-loop-index : goal.invariant-loop-index
invariant-loop-index l = (n : ℕ) → n < 64 * l.index → bit_of l.words n ≡ 0
