-- What the first line of a turn says.
use Rattle.std.specs.Prelude.{◌≡◌, ℕ}
use Rattle.pt_audit.specs.declared.parse.head.Head.{Head}

-- platform p, a turn's first and last reading, and its count
pub record IsTurnHead (p r s n : ℕ) (head : Head) : Type 0 where
  pub platform : head.platform ≡ p
  pub first : head.first ≡ r
  pub last : head.last ≡ s
  pub count : head.count ≡ n
