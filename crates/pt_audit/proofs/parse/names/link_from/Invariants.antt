use Rattle.std.proofs.Common.{◌≡◌, ℕ, ◌<◌, slice_get}
use Rattle.pt_tables.specs.Names.{sender_name}
use Rattle.pt_audit.proofs.parse.names.link_from.Given as goal

abbrev pub invariant-loop-number : goal.invariant-loop-number
invariant-loop-number l = (k : ℕ) → k < l.number → sender_name l.graph (slice_get l.graph.links k) ≡ l.name → ⊥
