use Rattle.std.proofs.Common.{◌≡◌, Some, length, ap, sym, refl, ◌∙◌, arith}
use Rattle.std.specs.Prelude.{option_map, slice_get}
use Rattle.std.proofs.lemmas.Option.{get_or_from_slice_get}
use Rattle.pt_history.specs.Turns.{RoomyTurns, turn_head}
use Rattle.pt_history.specs.Whole.{lists_of}
use Rattle.pt_history.specs.declared.head.Head.{Head}
use Rattle.pt_history.proofs.Reading.{length-turns, number_of}
use Rattle.pt_history.proofs.history.History.head.Goals as goal

pub get-requires : goal.get-requires
get-requires c =
    let lists : length c.args.self.now.turns ≡ length c.self.inside.heads.items = ap (λ (v : RoomyTurns). length v.turns) (sym c.self.view_is) ∙ length-turns (lists_of c.self.inside) 0 c.self.inside.heads.items in
    omega (arith, lists, c.requires)

pub returns : goal.returns
returns c =
    let lists : length c.args.self.now.turns ≡ length c.self.inside.heads.items = ap (λ (v : RoomyTurns). length v.turns) (sym c.self.view_is) ∙ length-turns (lists_of c.self.inside) 0 c.self.inside.heads.items in
    ap (λ (v : RoomyTurns). option_map turn_head (slice_get v.turns c.args.number)) (sym c.self.view_is)
    ∙ number_of turn_head (λ (h : Head). h) (lists_of c.self.inside) c.args.number c.self.inside.heads.items c.get.result (omega (arith, lists)) refl
    ∙ ap (λ (h : Head). Some h) (get_or_from_slice_get c.self.inside.heads.items c.args.number c.get.result c.get.result c.get.ensures)
