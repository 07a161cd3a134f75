use Rattle.std.proofs.Common.{ap, ◌∙◌}
use Rattle.std.specs.Option.{is_some}
use Rattle.pt_turn.specs.Fields.State.{busy_in}
use Rattle.pt_turn.specs.Fields.Unposted.{Unposted}
use Rattle.pt_turn.proofs.Fields.ClaimLists.{busy_place}
use Rattle.pt_turn.proofs.state.open_claims.OpenClaims.has.Goals as goal

pub returns : goal.returns
returns c = c.is_some.ensures ∙ busy_place c.args.unit c.self.inside.claims.items c.place_of.result c.place_of.ensures ∙ ap (λ (v : Unposted). is_some (busy_in v.items c.args.unit)) c.self.view_is
