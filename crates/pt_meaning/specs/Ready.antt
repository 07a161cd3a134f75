-- Bits, 64 in a word, and the values at the inputs of positions.
use Rattle.std.specs.Prelude.{◌≡◌, ℕ, ◌*◌, ◌<◌, ◌≤◌, ◌^◌, Bool, true, false, List, [], Option, ℤ, length, slice_index_or}
use Rattle.std.specs.Int.{bit_at}
use Rattle.pt_causality.specs.Before.{bit_of}
use Rattle.pt_semantics.specs.Firing.{any_present}

-- bit k is the lowest of a word that is set
pub record IsFirstBit (word k : ℕ) : Type 0 where
  pub low : k < 64
  pub set : bit_at word k ≡ 1
  pub first : (i : ℕ) → i < k → bit_at word i ≡ 0

-- bit k is the lowest of these words that is set
pub record IsFirstSet (words : List ℕ) (k : ℕ) : Type 0 where
  pub set : bit_of words k ≡ 1
  pub first : (n : ℕ) → n < k → bit_of words n ≡ 0

-- the values at the inputs of a position
abbrev pub ports_at : List (List (Option ℤ)) → ℕ → List (Option ℤ)
ports_at inputs n = slice_index_or inputs n []

-- position k is the first that has a value
pub record IsFirstReady (inputs : List (List (Option ℤ))) (k : ℕ) : Type 0 where
  pub there : any_present (ports_at inputs k) ≡ true
  pub first : (n : ℕ) → n < k → any_present (ports_at inputs n) ≡ false

-- 1 if a test is true, else 0
abbrev pub bit_if : Bool → ℕ
bit_if true = 1
bit_if false = 0

-- eight inputs at each position, and bits that are set where there is a value
pub record HaveReadyBits (inputs : List (List (Option ℤ))) (ready : List ℕ) : Type 0 where
  pub bits : (n : ℕ) → bit_of ready n ≡ bit_if (any_present (ports_at inputs n))
  pub eight : (n : ℕ) → n < length inputs → length (ports_at inputs n) ≡ 8
  pub words : length inputs ≤ 64 * length ready
  pub few : length ready ≤ 2 ^ 32
