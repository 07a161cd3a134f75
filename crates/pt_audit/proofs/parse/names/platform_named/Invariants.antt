use Rattle.std.proofs.Common.{◌≡◌, ℕ, ◌<◌}
use Rattle.pt_types.specs.Lookups.{platform_name}
use Rattle.pt_audit.proofs.parse.names.platform_named.Given as goal

abbrev pub invariant-loop-number : goal.invariant-loop-number
invariant-loop-number l = (k : ℕ) → k < l.number → platform_name l.graph k ≡ l.name → ⊥
