use Rattle.std.proofs.Common.{◌≡◌, ap, ◌∙◌, subst, sym}
use Rattle.pt_semantics.specs.Lists.{Each}
use Rattle.pt_turn.specs.Fields.State.{busy_in, IsOpen}
use Rattle.pt_turn.specs.Fields.Unposted.{Unposted}
use Rattle.pt_turn.proofs.Fields.ClaimLists.{busy_others, one_goes, others, sound_others}
use Rattle.pt_turn.proofs.state.open_claims.OpenClaims.take.Goals as goal

left : (c : goal.After-remove_at) → c.remove_at.new.claims.items ≡ others c.in-Some.unit c.args.self.now.items
left c = c.remove_at.ensures.items ∙ one_goes c.in-Some.unit c.self.inside.claims.items 0 c.self.invariant.0 c.in-Some.ensures.place ∙ ap (λ (v : Unposted). others c.in-Some.unit v.items) c.self.view_is

pub returns-in-Some-clause-items : goal.returns-in-Some-clause-items
returns-in-Some-clause-items c = left c

pub returns-in-Some-clause-busy : goal.returns-in-Some-clause-busy
returns-in-Some-clause-busy c = ap busy_in (left c) ∙ busy_others c.in-Some.unit c.args.self.now.items

pub returns-in-Some-clause-open_claims : goal.returns-in-Some-clause-open_claims
returns-in-Some-clause-open_claims c = λ g h. subst (λ xs. Each (IsOpen g xs) xs) (sym (left c)) (sound_others g c.in-Some.unit c.args.self.now.items h)
