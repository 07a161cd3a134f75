-- The limits of a file allow few rows.
use Rattle.std.proofs.Common.{ℕ, ◌≤◌, ◌*◌, Bool, true, false, nat_le, arith, if◌then◌else◌}
use Rattle.pt_types.specs.Limits.{greatest_claims, usual_claims}
use Rattle.pt_sensors.specs.Limits.{file_limits}
use Rattle.pt_sensors.specs.declared.limits.FileLimits.{FileLimits}

either : (b : Bool) (most : ℕ) (x y : FileLimits) → x.rows ≤ most → y.rows ≤ most → (if b then x else y).rows ≤ most
either true most x y h k = h
either false most x y h k = k

pub few_rows : (claims : ℕ) → claims ≤ greatest_claims → (file_limits claims).rows ≤ greatest_claims
unfolding file_limits
few_rows claims few =
    either (nat_le claims usual_claims) greatest_claims (record { rows = 100000; bytes = 8388608 }) (record { rows = claims; bytes = 64 * claims }) (omega arith) few
