-- The limit of a log (this project's own choice).
use Rattle.std.specs.Prelude.{ℕ, ◌*◌, nat_le, if◌then◌else◌}
use Rattle.pt_types.specs.Limits.{most_log_bytes, usual_claims}

-- the most bytes of a log that is judged, by the most claims of a platform
unfoldable pub log_limit : ℕ → ℕ
log_limit claims = if nat_le claims usual_claims then most_log_bytes else 1024 * claims
