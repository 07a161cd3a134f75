use Rattle.std.proofs.Common.{◌≡◌, length, ap, sym, ◌∙◌, arith}
use Rattle.pt_history.specs.Turns.{RoomyTurns, claimed_in}
use Rattle.pt_history.specs.Whole.{lists_of}
use Rattle.pt_history.proofs.Reading.{length-turns, claimed_of}
use Rattle.pt_history.proofs.history.History.claimed.Goals as goal

pub claimed-requires : goal.claimed-requires
claimed-requires c =
    let lists : length c.args.self.now.turns ≡ length c.self.inside.heads.items = ap (λ (v : RoomyTurns). length v.turns) (sym c.self.view_is) ∙ length-turns (lists_of c.self.inside) 0 c.self.inside.heads.items in
    omega (arith, lists, c.requires, c.self.invariant.claimed.lists)

pub returns : goal.returns
returns c =
    c.claimed.ensures
    ∙ ap length (sym (claimed_of (lists_of c.self.inside) c.args.turn c.self.inside.heads.items c.self.invariant.claimed.lists))
    ∙ ap (λ (v : RoomyTurns). length (claimed_in v.turns c.args.turn)) c.self.view_is
