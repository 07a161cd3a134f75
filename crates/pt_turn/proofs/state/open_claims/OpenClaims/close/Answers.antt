use Rattle.std.proofs.Common.{◌≡◌, ap, ◌∙◌, subst, sym, arith}
use Rattle.pt_semantics.specs.Lists.{Each}
use Rattle.pt_turn.specs.Fields.State.{busy_in, IsOpen}
use Rattle.pt_turn.specs.Fields.Unposted.{AreOfDifferentUnits, Unposted}
use Rattle.pt_turn.proofs.Fields.ClaimLists.{apart_others, busy_others, none_goes, one_goes, others, sound_others}
use Rattle.pt_turn.proofs.state.open_claims.OpenClaims.close.Goals as goal

left_inside : (c : goal.After-remove_at) → c.remove_at.new.claims.items ≡ others c.args.unit c.self.inside.claims.items
left_inside c = c.remove_at.ensures.items ∙ one_goes c.args.unit c.self.inside.claims.items c.in-Some.place c.self.invariant.0 c.in-Some.ensures

left : (c : goal.After-remove_at) → c.remove_at.new.claims.items ≡ others c.args.unit c.args.self.now.items
left c = left_inside c ∙ ap (λ (v : Unposted). others c.args.unit v.items) c.self.view_is

none : (c : goal.In-None) → c.args.self.now.items ≡ others c.args.unit c.args.self.now.items
none c = subst (λ (v : Unposted). v.items ≡ others c.args.unit v.items) c.self.view_is (none_goes c.args.unit c.self.inside.claims.items c.in-None.ensures)

pub invariant_of-self : goal.invariant_of-self
invariant_of-self c =
    (subst AreOfDifferentUnits (sym (left_inside c)) (apart_others c.args.unit c.self.inside.claims.items c.self.invariant.0), omega (arith, c.self.invariant.1, c.remove_at.ensures.len, c.remove_at.ensures.capacity))

pub returns-in-None-clause-items : goal.returns-in-None-clause-items
returns-in-None-clause-items c = none c

pub returns-in-None-clause-busy : goal.returns-in-None-clause-busy
returns-in-None-clause-busy c = ap busy_in (none c) ∙ busy_others c.args.unit c.args.self.now.items

pub returns-in-Some-clause-items : goal.returns-in-Some-clause-items
returns-in-Some-clause-items c = left c

pub returns-in-Some-clause-busy : goal.returns-in-Some-clause-busy
returns-in-Some-clause-busy c = ap busy_in (left c) ∙ busy_others c.args.unit c.args.self.now.items

pub returns-in-Some-clause-open_claims : goal.returns-in-Some-clause-open_claims
returns-in-Some-clause-open_claims c = λ g h. subst (λ xs. Each (IsOpen g xs) xs) (sym (left c)) (sound_others g c.args.unit c.args.self.now.items h)
