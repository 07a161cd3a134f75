-- The limits of the files of sensors and of the network (this project's own choice).
use Rattle.std.specs.Prelude.{ℕ, ◌*◌, nat_le, if◌then◌else◌}
use Rattle.pt_types.specs.Limits.{usual_claims}
use Rattle.pt_sensors.specs.declared.limits.FileLimits.{FileLimits}

-- the limits of a file, by the most claims of a platform: each row makes its sensor fire, so that no more rows than claims can be
-- used, and a row takes at most 64 bytes
unfoldable pub file_limits : ℕ → FileLimits
file_limits claims = if nat_le claims usual_claims then record { rows = 100000; bytes = 8388608 } else record { rows = claims; bytes = 64 * claims }
