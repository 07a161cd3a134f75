use Rattle.std.proofs.Common.{◌≡◌, ℕ, true, ◌<◌, length, slice_index_or}
use Rattle.pt_turn.specs.declared.state.fields.OpenClaim.{OpenClaim}
use Rattle.pt_turn.specs.Fields.Others.{is_other}
use Rattle.pt_turn.proofs.state.open_claims.place_among.Given as goal

abbrev pub invariant-loop-place : goal.invariant-loop-place
invariant-loop-place l = (k : ℕ) (c : OpenClaim) → k < l.place → k < length l.claims.items → slice_index_or l.claims.items k c ≡ c → is_other l.unit c ≡ true
