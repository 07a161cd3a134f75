use Rattle.std.proofs.Common.{◌≡◌, ℕ, ◌+◌, ◌*◌, ◌%◌, ◌<◌, eqb, eq-eqb, true, Bool, Some, [], ◌∷◌, List, length, refl, subst, ap, sym, ◌∙◌, arith}
use mathlib.Core.Option.{none}
use Rattle.atomic_table.specs.Table.{Me, Allows, step, rest}
use Rattle.pt_board.specs.declared.rule.SlotView.{SlotView}
use Rattle.pt_board.specs.declared.rule.View.{View}
use Rattle.pt_board.specs.declared.table.Item.{Item}
use Rattle.pt_board.specs.declared.table.Item.TheVariants.{Nothing, Finished}
use Rattle.pt_board.specs.Rule.{part, with_part, BoardRule}
use Rattle.pt_board.specs.Plays.{looking, holding, put_free}
use Rattle.pt_board.proofs.Moves.{looks_done, puts_free, front, once}
use Rattle.pt_board.proofs.slots.Slots.collect_at.Goals as goal

pub load-word-requires : goal.load-word-requires
load-word-requires c =
    let z = c.args.self.now.table.shared.table_id in
    let me = c.args.keeper.now.me in
    let o = c.requires.out.1 in
    (c.requires.seat.0.0, omega (arith, c.args.self.now.sized.0, c.requires.slot.0), looks_done c.args.self.now.table.shared.key z.slots c.args.keeper.now.id me.0 me.1 c.args.slot c.args.number o.0 c.requires.slot.0 c.requires.seat.1.0 o.1 c.requires.slot.1)

pub exchange-item-requires : goal.exchange-item-requires
exchange-item-requires c =
    let l = c.load-word.ensures in
    let h = rw (eq-eqb (c.load-word.result % 4) 3 c.if-word-ne3.false) at l.2 in
    (l.0 ∙ c.requires.seat.0.0, (Finished h.1, front c.load-word.new.seat.me.1 (c.args.slot, Finished h.1) c.args.keeper.now.me.1 (ap (λ (y : Me Item View). y.1) h.4)))

pub store-requires : goal.store-requires
store-requires c =
    let l = c.load-word.ensures in
    let h = rw (eq-eqb (c.load-word.result % 4) 3 c.if-word-ne3.false) at l.2 in
    let x = c.exchange-item.ensures in
    let r = c.requires in
    let z = c.args.self.now.table.shared.table_id in
    let k = c.args.slot in
    let v = c.args.keeper.now.me.0 in
    let p = holding (looking (part k v) c.load-word.result) true in
    let V = with_part v k p in
    let o = once v V k p r.seat.1.1 r.slot.0 refl in
    let id = c.exchange-item.new.seat.id in
    let m = c.exchange-item.new.seat.me in
    let e : m ≡ (V, (k, Nothing) ∷ []) = x.3 ∙ ap (λ (y : Me Item View). (y.0, (k, Nothing) ∷ rest y.1)) h.4 ∙ ap (λ (c' : List (ℕ × Item)). (V, (k, Nothing) ∷ c')) r.seat.0.1 in
    let P : Me Item View → Type 0 = λ y. Allows (BoardRule c.args.self.now.table.shared.key) z.slots id y k (λ _. c.args.number * 4) (λ _. put_free (step z.slots k (c.args.number * 4) 0 none) y) in (
      x.0 ∙ l.0 ∙ r.seat.0.0,
      omega (arith, c.args.self.now.sized.0, r.slot.0),
      subst P (sym e) (puts_free c.args.self.now.table.shared.key z.slots id V [] Nothing k c.args.number r.out.1.0 r.slot.0 r.seat.1.0 (ap (λ (y : SlotView). y.out) o.0 ∙ r.out.1.1) (ap (λ (y : SlotView). y.holds) o.0)),
    )
