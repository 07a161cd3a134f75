use Rattle.std.proofs.Common.{◌≡◌, ◌+◌, length, take, ap, sym, ◌∙◌, arith}
use Rattle.std.specs.List.{flat_map}
use Rattle.pt_semantics.specs.Turn.{Turn}
use Rattle.pt_history.specs.Turns.{RoomyTurns}
use Rattle.pt_history.specs.Whole.{lists_of}
use Rattle.pt_history.proofs.Reading.{first_claimed, length-turns}
use Rattle.pt_history.proofs.history.History.claims_through.Goals as goal

pub claims_through-requires : goal.claims_through-requires
claims_through-requires c =
    let lists : length c.args.self.now.turns ≡ length c.self.inside.heads.items = ap (λ (v : RoomyTurns). length v.turns) (sym c.self.view_is) ∙ length-turns (lists_of c.self.inside) 0 c.self.inside.heads.items in
    omega (arith, lists, c.requires, c.self.invariant.claimed.lists)

pub returns : goal.returns
returns c =
    c.claims_through.ensures
    ∙ sym (ap length (first_claimed (lists_of c.self.inside) (c.args.turn + 1) c.self.inside.heads.items c.self.invariant.claimed.lists))
    ∙ ap (λ (v : RoomyTurns). length (flat_map (λ (turn : Turn). turn.claimed) (take (c.args.turn + 1) v.turns))) c.self.view_is
