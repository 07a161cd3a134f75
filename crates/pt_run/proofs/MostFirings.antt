-- The product of the claims and the platforms of a lawful graph fits 64 bits.
use Rattle.std.proofs.Common.{ℕ, ◌*◌, ◌≤◌, arith}
use Rattle.std.proofs.lemmas.Nat.{mul-le}

pub few_products : (claims platforms : ℕ) → claims ≤ 100000000 → platforms ≤ 16 → claims * platforms ≤ 1600000000
few_products claims platforms few_claims few_platforms = omega (arith, mul-le claims platforms 100000000 16 few_claims few_platforms)
