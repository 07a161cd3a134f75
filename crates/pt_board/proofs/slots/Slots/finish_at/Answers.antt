use Rattle.std.proofs.Common.{◌≡◌, ℕ, ◌+◌, ◌*◌, ◌<◌, true, Some, [], ◌∷◌, List, length, refl, subst, ap, sym, ◌∙◌, arith}
use mathlib.Core.Option.{none}
use Rattle.atomic_table.specs.Table.{Me, Allows, step, rest}
use Rattle.pt_board.specs.declared.rule.SlotView.{SlotView}
use Rattle.pt_board.specs.declared.rule.View.{View}
use Rattle.pt_board.specs.declared.table.Item.{Item}
use Rattle.pt_board.specs.declared.table.Item.TheVariants.{Finished}
use Rattle.pt_types.specs.declared.firing.Task.{Task}
use Rattle.pt_board.specs.Rule.{part, with_part, BoardRule}
use Rattle.pt_board.specs.Plays.{looking, holding, put_done}
use Rattle.pt_board.proofs.Moves.{takes_again, puts_done, once}
use Rattle.pt_board.proofs.slots.Slots.finish_at.Goals as goal

pub load-requires : goal.load-requires
load-requires c =
    let z = c.args.self.now.table.shared.table_id in
    let me = c.args.hand.now.me in
    let r = c.requires in
    (r.seat.0.0, omega (arith, c.args.self.now.sized.0, r.claimed.0), takes_again c.args.self.now.table.shared.key z.slots c.args.hand.now.id me.0 me.1 c.args.slot c.args.number c.args.done.task r.claimed.0 r.seat.1.0 r.claimed.2.0 r.claimed.2.1)

pub store-requires : goal.store-requires
store-requires c =
    let l = c.load.ensures in
    let x = c.exchange.ensures in
    let r = c.requires in
    let z = c.args.self.now.table.shared.table_id in
    let n = c.args.number in
    let k = c.args.slot in
    let id = c.exchange.new.seat.id in
    let v = c.args.hand.now.me.0 in
    let p = holding (looking (part k v) c.load.result) true in
    let V = with_part v k p in
    let o = once v V k p r.seat.1.1 r.claimed.0 refl in
    let m = c.exchange.new.seat.me in
    let e : m ≡ (V, (k, Finished c.args.done) ∷ []) =
    x.3 ∙ ap (λ (y : Me Item View). (y.0, (k, Finished c.args.done) ∷ rest y.1)) l.2.1 ∙ ap (λ (c' : List (ℕ × Item)). (V, (k, Finished c.args.done) ∷ c')) r.seat.0.1 in
    let P : Me Item View → Type 0 = λ y. Allows (BoardRule c.args.self.now.table.shared.key) z.slots id y k (λ _. n * 4 + 3) (λ _. put_done (step z.slots k (n * 4 + 3) 0 none) y) in (
      x.0 ∙ l.0 ∙ r.seat.0.0,
      omega (arith, c.args.self.now.sized.0, r.claimed.0),
      subst P (sym e) (puts_done c.args.self.now.table.shared.key z.slots id V [] k n c.args.done r.claimed.0 r.seat.1.0 (ap (λ (y : SlotView). y.mine) o.0 ∙ r.claimed.2.0) (ap (λ (y : SlotView). y.holds) o.0) r.done.0 r.done.1 r.done.2),
    )
