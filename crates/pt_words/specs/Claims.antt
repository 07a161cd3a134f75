-- The numbers of claims that an order can have.
use Rattle.std.specs.Prelude.{◌≡◌, ℕ, ◌≤◌, ⊤}
use Rattle.pt_words.specs.declared.orders.Command.{Command}
use Rattle.pt_words.specs.declared.orders.Command.TheVariants.{Run, Check, Meaning, Slacks}
use Rattle.pt_words.specs.Grammar.{Order, over, make, migrate, audit, replay, usual_claims, greatest_claims}

-- from the usual number to the greatest
abbrev pub AreFewClaims : ℕ → Type 0
AreFewClaims claims = (usual_claims ≤ claims) × (claims ≤ greatest_claims)

-- the same for a command that makes claims, and for the others the usual number alone
abbrev pub AreFewFor : Command → ℕ → Type 0
AreFewFor (Run workers clock log) claims = AreFewClaims claims
AreFewFor Check claims = claims ≡ usual_claims
AreFewFor Meaning claims = AreFewClaims claims
AreFewFor Slacks claims = claims ≡ usual_claims

-- the same for the graph file of an order
abbrev pub HasFewClaims : Order → Type 0
HasFewClaims (over command graph) = AreFewFor command graph.claims
HasFewClaims (make number workers) = ⊤
HasFewClaims (migrate graph) = graph.claims ≡ usual_claims
HasFewClaims (audit graph log) = AreFewClaims graph.claims
HasFewClaims (replay graph air workers log) = AreFewClaims graph.claims
