use Rattle.std.proofs.Common.{◌≡◌, ◌<◌, [], length, ap, sym, subst, ◌∙◌, get_or}
use Rattle.std.specs.Prelude.{option_map, slice_get}
use Rattle.pt_types.specs.declared.firing.Done.{Done}
use Rattle.pt_history.specs.Tasks.{mark_of}
use Rattle.pt_history.specs.Turns.{RoomyTurns, posted_in}
use Rattle.pt_history.specs.Whole.{lists_of}
use Rattle.pt_history.proofs.Reading.{posted_of, within_lists}
use Rattle.pt_history.proofs.history.History.done_mark.Goals as goal

pub done_mark-requires : goal.done_mark-requires
done_mark-requires c =
    let is : posted_in c.args.self.now.turns c.args.turn ≡ get_or c.self.inside.work.posted.lists c.args.turn [] =
    ap (λ (v : RoomyTurns). posted_in v.turns c.args.turn) (sym c.self.view_is) ∙ posted_of (lists_of c.self.inside) c.args.turn c.self.inside.heads.items c.self.invariant.posted.lists in
    let low : c.args.number < length (get_or c.self.inside.work.posted.lists c.args.turn []) = subst (λ l. c.args.number < length l) is c.requires in
    record { list = within_lists c.self.inside.work.posted.lists c.args.turn c.args.number low; number = low }

pub returns : goal.returns
returns c =
    let is : posted_in c.args.self.now.turns c.args.turn ≡ get_or c.self.inside.work.posted.lists c.args.turn [] =
    ap (λ (v : RoomyTurns). posted_in v.turns c.args.turn) (sym c.self.view_is) ∙ posted_of (lists_of c.self.inside) c.args.turn c.self.inside.heads.items c.self.invariant.posted.lists in
    ap (λ l. option_map (λ (done : Done). mark_of done.task) (slice_get l c.args.number)) is ∙ c.done_mark.ensures
