use Rattle.std.proofs.Common.{◌≡◌, take}
use Rattle.pt_semantics.specs.Lists.{IsIn}
use Rattle.pt_turn.specs.declared.state.fields.OpenClaim.{OpenClaim}
use Rattle.pt_turn.proofs.state.open_claims.OpenClaims.find_among.Given as goal

abbrev pub invariant-loop-place : goal.invariant-loop-place
invariant-loop-place l = (c : OpenClaim) → IsIn c (take l.place l.self-inside.claims.items) → c.task ≡ l.task → ⊥
