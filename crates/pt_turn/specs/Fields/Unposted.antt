-- The open claims of a platform.
use Rattle.std.specs.Prelude.{◌≡◌, ℕ, true, List, [], ◌∷◌}
use Rattle.pt_semantics.specs.Lists.{Each}
use Rattle.pt_turn.specs.declared.state.fields.OpenClaim.{OpenClaim}
use Rattle.pt_turn.specs.Fields.Others.{is_other}

-- open claims as contracts see them: the claims in order, and how many more fit in memory
pub record Unposted : Type 0 where
  pub items : List OpenClaim
  pub spare : ℕ

-- no two claims are of the same unit
abbrev pub AreOfDifferentUnits : List OpenClaim → Type 0
AreOfDifferentUnits [] = Unit {0}
AreOfDifferentUnits (c ∷ cs) = Each (λ (o : OpenClaim). is_other c.unit o ≡ true) cs × AreOfDifferentUnits cs
