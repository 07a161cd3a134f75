use Rattle.std.proofs.Common.{◌≡◌, ℕ, ◌+◌, ◌*◌, ◌<◌, true, [], ◌∷◌, List, length, subst, ap, sym, ◌∙◌, arith}
use mathlib.Core.Option.{none}
use Rattle.atomic_table.specs.Table.{Me, Allows, step, rest}
use Rattle.pt_board.specs.declared.rule.SlotView.{SlotView}
use Rattle.pt_board.specs.declared.rule.View.{View}
use Rattle.pt_board.specs.declared.table.Item.{Item}
use Rattle.pt_board.specs.declared.table.Item.TheVariants.{Placed}
use Rattle.pt_board.specs.Rule.{part, with_part, BoardRule}
use Rattle.pt_board.specs.Plays.{looking, holding, put_ready}
use Rattle.pt_board.proofs.Touch.{part_here}
use Rattle.pt_board.proofs.Moves.{takes_free, puts_ready}
use Rattle.pt_board.proofs.slots.Slots.place_at.Goals as goal

pub load-requires : goal.load-requires
load-requires c =
    let z = c.args.self.now.table.shared.table_id in
    let me = c.args.keeper.now.me in
    (c.requires.seat.0.0, omega (arith, c.args.self.now.sized.0, c.requires.slot.0), takes_free c.args.self.now.table.shared.key z.slots c.args.keeper.now.id me.0 me.1 c.args.slot c.requires.slot.0 c.requires.seat.1.0 c.requires.slot.1 c.requires.slot.2)

pub store-requires : goal.store-requires
store-requires c =
    let l = c.load.ensures in
    let x = c.exchange.ensures in
    let r = c.requires in
    let z = c.args.self.now.table.shared.table_id in
    let k = c.args.slot in
    let t = c.args.task in
    let v = c.args.keeper.now.me.0 in
    let p = holding (looking (part k v) c.load.result) true in
    let V = with_part v k p in
    let id = c.exchange.new.seat.id in
    let low : k < length v.parts = omega (arith, r.seat.1.1, r.slot.0) in
    let here = part_here v k p low in
    let m = c.exchange.new.seat.me in
    let e : m ≡ (V, (k, Placed t) ∷ []) = x.3 ∙ ap (λ (y : Me Item View). (y.0, (k, Placed t) ∷ rest y.1)) l.2.1 ∙ ap (λ (c : List (ℕ × Item)). (V, (k, Placed t) ∷ c)) r.seat.0.1 in
    let P : Me Item View → Type 0 = λ y. Allows (BoardRule c.args.self.now.table.shared.key) z.slots id y k (λ _. c.args.number * 4 + 1) (λ _. put_ready (step z.slots k (c.args.number * 4 + 1) 0 none) y) in (
      x.0 ∙ l.0 ∙ r.seat.0.0,
      omega (arith, c.args.self.now.sized.0, r.slot.0),
      subst P (sym e) (puts_ready c.args.self.now.table.shared.key z.slots id V [] k c.args.number t r.slot.0 r.seat.1.0 (ap (λ (y : SlotView). y.out) here ∙ r.slot.1) (ap (λ (y : SlotView). y.holds) here)),
    )
