use Rattle.std.proofs.Common.{◌≡◌, ◌∷◌, ◌++◌, [], None, ap, ◌∙◌, subst, sym, arith}
use Rattle.pt_semantics.specs.Lists.{Each}
use Rattle.pt_turn.specs.Fields.State.{busy_in, IsOpen}
use Rattle.pt_turn.specs.Fields.Unposted.{AreOfDifferentUnits, Unposted}
use Rattle.pt_turn.proofs.Fields.ClaimLists.{apart_push, busy_push, sound_push}
use Rattle.pt_turn.proofs.state.open_claims.OpenClaims.add.Goals as goal

pub invariant_of-self : goal.invariant_of-self
invariant_of-self c =
    let free : busy_in c.self.inside.claims.items c.args.claim.unit ≡ None = subst (λ (v : Unposted). busy_in v.items c.args.claim.unit ≡ None) (sym {A = Unposted} c.self.view_is) c.requires.free in
    (subst AreOfDifferentUnits (sym c.in-Ok.ensures.items) (apart_push c.self.inside.claims.items c.args.claim c.self.invariant.0 free), omega (arith, c.self.invariant.1, c.in-Ok.ensures.len, c.in-Ok.ensures.capacity, c.requires.spare, ap (λ (v : Unposted). v.spare) c.self.view_is))

pub returns-clause-busy : goal.returns-clause-busy
returns-clause-busy c = ap busy_in (c.in-Ok.ensures.items ∙ ap (λ (v : Unposted). v.items ++ c.args.claim ∷ []) c.self.view_is) ∙ busy_push c.args.self.now.items c.args.claim c.requires.free

pub returns-clause-open_claims : goal.returns-clause-open_claims
returns-clause-open_claims c = λ g h unit is.
    subst (λ xs. Each (IsOpen g xs) xs) (sym (c.in-Ok.ensures.items ∙ ap (λ (v : Unposted). v.items ++ c.args.claim ∷ []) c.self.view_is))
    (sound_push g c.args.self.now.items c.args.claim h c.requires.free unit is)
