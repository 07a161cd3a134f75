use Rattle.std.proofs.Common.{length, ap, sym, ◌∙◌}
use Rattle.pt_semantics.specs.Turn.{Turn}
use Rattle.pt_history.specs.Turns.{RoomyTurns}
use Rattle.pt_history.specs.Whole.{lists_of}
use Rattle.std.specs.List.{flat_map}
use Rattle.pt_history.proofs.Reading.{all_claims}
use Rattle.pt_history.proofs.history.History.claims.Goals as goal

pub returns : goal.returns
returns c =
    c.claims.ensures
    ∙ ap length (sym (all_claims (lists_of c.self.inside) c.self.inside.heads.items c.self.invariant.claimed.lists))
    ∙ ap (λ (v : RoomyTurns). length (flat_map (λ (turn : Turn). turn.claimed) v.turns)) c.self.view_is
