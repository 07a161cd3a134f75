-- The limit of a log is far from the greatest length.
use Rattle.std.proofs.Common.{ℕ, ◌≤◌, ◌*◌, Bool, true, false, nat_le, arith, if◌then◌else◌}
use Rattle.pt_types.specs.Limits.{greatest_claims, most_log_bytes, usual_claims}
use Rattle.pt_audit.specs.Limits.{log_limit}

either : (b : Bool) (most x y : ℕ) → x ≤ most → y ≤ most → (if b then x else y) ≤ most
either true most x y h k = h
either false most x y h k = k

pub small_limit : (claims : ℕ) → claims ≤ greatest_claims → log_limit claims ≤ 1024 * greatest_claims
unfolding log_limit
small_limit claims few = either (nat_le claims usual_claims) (1024 * greatest_claims) most_log_bytes (1024 * claims) (omega arith) (omega (arith, few))
