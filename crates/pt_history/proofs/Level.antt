-- What is known of neighbours.
use Rattle.std.proofs.Common.{◌≡◌, ℕ, ◌+◌, ◌/◌, ◌%◌, ◌^◌, List, ◌++◌, length-append, sym, ap, ◌∙◌, arith}
use Rattle.std.proofs.lemmas.Nat.{shr-shr}
use Rattle.pt_history.specs.declared.head.Head.{Head}
use Rattle.pt_history.specs.Levels.{IsSingleAfter}
use Rattle.pt_history.proofs.Dated.{at_left}

pub bit_after : (bits j : ℕ) → bits / 2 ^ j / 2 % 2 ≡ 0 → bits / 2 ^ (j + 1) % 2 ≡ 0
bit_after bits j is = ap (λ m. m % 2) (sym (shr-shr bits j 1)) ∙ is

-- heads that others follow
pub single_in : (past recent : List Head) (n : ℕ) → IsSingleAfter past n → IsSingleAfter (past ++ recent) n
single_in past recent n after = record {
  next = omega (arith, after.next, length-append past recent);
  is = λ head was. at_left past recent (n + 1) after.next ∙ after.is head (sym (at_left past recent n (omega (arith, after.next))) ∙ was);
}
