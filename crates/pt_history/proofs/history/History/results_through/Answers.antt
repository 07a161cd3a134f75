use Rattle.std.proofs.Common.{◌≡◌, ◌+◌, length, take, ap, sym, ◌∙◌, arith}
use Rattle.std.specs.List.{flat_map}
use Rattle.pt_semantics.specs.Turn.{Turn}
use Rattle.pt_history.specs.Turns.{RoomyTurns}
use Rattle.pt_history.specs.Whole.{lists_of}
use Rattle.pt_history.proofs.Reading.{first_posted, length-turns}
use Rattle.pt_history.proofs.history.History.results_through.Goals as goal

pub results_through-requires : goal.results_through-requires
results_through-requires c =
    let lists : length c.args.self.now.turns ≡ length c.self.inside.heads.items = ap (λ (v : RoomyTurns). length v.turns) (sym c.self.view_is) ∙ length-turns (lists_of c.self.inside) 0 c.self.inside.heads.items in
    omega (arith, lists, c.requires, c.self.invariant.posted.lists)

pub returns : goal.returns
returns c =
    c.results_through.ensures
    ∙ sym (ap length (first_posted (lists_of c.self.inside) (c.args.turn + 1) c.self.inside.heads.items c.self.invariant.posted.lists))
    ∙ ap (λ (v : RoomyTurns). length (flat_map (λ (turn : Turn). turn.posted) (take (c.args.turn + 1) v.turns))) c.self.view_is
