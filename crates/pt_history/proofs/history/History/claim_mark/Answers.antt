use Rattle.std.proofs.Common.{◌≡◌, ◌<◌, [], length, ap, sym, subst, ◌∙◌, get_or}
use Rattle.std.specs.Prelude.{option_map, slice_get}
use Rattle.pt_history.specs.Tasks.{mark_of}
use Rattle.pt_history.specs.Turns.{RoomyTurns, claimed_in}
use Rattle.pt_history.specs.Whole.{lists_of}
use Rattle.pt_history.proofs.Reading.{claimed_of, within_lists}
use Rattle.pt_history.proofs.history.History.claim_mark.Goals as goal

pub claim_mark-requires : goal.claim_mark-requires
claim_mark-requires c =
    let is : claimed_in c.args.self.now.turns c.args.turn ≡ get_or c.self.inside.work.claimed.lists c.args.turn [] =
    ap (λ (v : RoomyTurns). claimed_in v.turns c.args.turn) (sym c.self.view_is) ∙ claimed_of (lists_of c.self.inside) c.args.turn c.self.inside.heads.items c.self.invariant.claimed.lists in
    let low : c.args.number < length (get_or c.self.inside.work.claimed.lists c.args.turn []) = subst (λ l. c.args.number < length l) is c.requires in
    record { list = within_lists c.self.inside.work.claimed.lists c.args.turn c.args.number low; number = low }

pub returns : goal.returns
returns c =
    let is : claimed_in c.args.self.now.turns c.args.turn ≡ get_or c.self.inside.work.claimed.lists c.args.turn [] =
    ap (λ (v : RoomyTurns). claimed_in v.turns c.args.turn) (sym c.self.view_is) ∙ claimed_of (lists_of c.self.inside) c.args.turn c.self.inside.heads.items c.self.invariant.claimed.lists in
    ap (λ l. option_map mark_of (slice_get l c.args.number)) is ∙ c.claim_mark.ensures
