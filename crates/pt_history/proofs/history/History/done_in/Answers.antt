use Rattle.std.proofs.Common.{◌≡◌, ◌<◌, [], length, ap, sym, subst, ◌∙◌, get_or}
use Rattle.std.specs.Prelude.{slice_get}
use Rattle.pt_history.specs.Turns.{RoomyTurns, posted_in}
use Rattle.pt_history.specs.Whole.{lists_of}
use Rattle.pt_history.proofs.Reading.{posted_of, within_lists}
use Rattle.pt_history.proofs.history.History.done_in.Goals as goal

pub done_in-requires : goal.done_in-requires
done_in-requires c =
    let is : posted_in c.args.self.now.turns c.args.turn ≡ get_or c.self.inside.work.posted.lists c.args.turn [] =
    ap (λ (v : RoomyTurns). posted_in v.turns c.args.turn) (sym c.self.view_is) ∙ posted_of (lists_of c.self.inside) c.args.turn c.self.inside.heads.items c.self.invariant.posted.lists in
    let low : c.args.number < length (get_or c.self.inside.work.posted.lists c.args.turn []) = subst (λ l. c.args.number < length l) is c.requires in
    record { list = within_lists c.self.inside.work.posted.lists c.args.turn c.args.number low; number = low }

pub returns : goal.returns
returns c =
    let is : posted_in c.args.self.now.turns c.args.turn ≡ get_or c.self.inside.work.posted.lists c.args.turn [] =
    ap (λ (v : RoomyTurns). posted_in v.turns c.args.turn) (sym c.self.view_is) ∙ posted_of (lists_of c.self.inside) c.args.turn c.self.inside.heads.items c.self.invariant.posted.lists in
    ap (λ l. slice_get l c.args.number) is ∙ c.done_in.ensures
