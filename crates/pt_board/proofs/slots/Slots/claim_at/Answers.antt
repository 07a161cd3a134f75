use Rattle.std.proofs.Common.{◌≡◌, ℕ, ◌+◌, ◌*◌, ◌/◌, ◌<◌, eqb, eq-eqb, true, false, Bool, Some, [], ◌∷◌, List, length, refl, subst, ap, sym, ◌∙◌, arith}
use Rattle.std.specs.Prelude.{MatchBool}
use Rattle.atomic_table.specs.Table.{Me, Allows, step, rest}
use mathlib.Core.Option.{none}
use Rattle.pt_board.specs.declared.rule.SlotView.{SlotView}
use Rattle.pt_board.specs.declared.rule.View.{View}
use Rattle.pt_board.specs.declared.table.Item.{Item}
use Rattle.pt_board.specs.declared.table.Item.TheVariants.{Nothing, Placed}
use Rattle.pt_board.specs.Rule.{part, with_part, BoardRule}
use Rattle.pt_board.specs.Plays.{looking, with_claim, gave_back}
use Rattle.pt_board.proofs.Touch.{part_here}
use Rattle.pt_board.proofs.Moves.{looks, tries, front, once, gives_back}
use Rattle.pt_board.proofs.slots.Slots.claim_at.Goals as goal

pub load-word-requires : goal.load-word-requires
load-word-requires c =
    let z = c.args.self.now.table.shared.table_id in
    let me = c.args.hand.now.me in
    (c.requires.seat.0.0, omega (arith, c.args.self.now.sized.0, c.requires.slot), looks c.args.self.now.table.shared.key z.slots c.args.hand.now.id me.0 me.1 c.args.slot c.requires.slot)

pub compare_exchange-found-requires : goal.compare_exchange-found-requires
compare_exchange-found-requires c =
    let z = c.args.self.now.table.shared.table_id in
    let seat = c.load-word.new.seat in
    let l = c.load-word.ensures in (
      l.0 ∙ c.requires.seat.0.0,
      omega (arith, c.args.self.now.sized.0, c.requires.slot),
      tries c.args.self.now.table.shared.key z.slots seat.id seat.me.0 seat.me.1 c.args.slot (c.load-word.result / 4) c.requires.slot (ap (λ (y : Me Item View). y.0.is_keeper) l.2 ∙ c.requires.seat.1.0),
    )

pub exchange-item-requires : goal.exchange-item-requires
exchange-item-requires c =
    let x = c.compare_exchange-found.ensures in
    let h = rw (eq-eqb c.compare_exchange-found.result (c.load-word.result / 4 * 4 + 1) c.if-found-number.false) at x.2 in
    (x.0 ∙ c.load-word.ensures.0 ∙ c.requires.seat.0.0, (Placed h.0, front c.compare_exchange-found.new.seat.me.1 (c.args.slot, Placed h.0) c.load-word.new.seat.me.1 (ap (λ (y : Me Item View). y.1) h.1)))

pub load-requires : goal.load-requires
load-requires c =
    let z = c.args.self.now.table.shared.table_id in
    let k = c.args.slot in
    let v = c.args.hand.now.me.0 in
    let l = c.load-word.ensures in
    let x = c.compare_exchange-found.ensures in
    let n = c.load-word.result / 4 in
    let h = rw (eq-eqb c.compare_exchange-found.result (n * 4 + 1) c.if-found-number.false) at x.2 in
    let u = c.exchange-item.ensures in
    let m1 = c.load-word.new.seat.me in
    let a = once v m1.0 k (looking (part k v) c.load-word.result) c.requires.seat.1.1 c.requires.slot (ap (λ (y : Me Item View). y.0) l.2) in
    let q = with_claim (part k m1.0) (Some ((n * 4 + 1) / 4, h.0)) true in
    let V = with_part m1.0 k q in
    let b = once m1.0 V k q a.3 c.requires.slot refl in
    let id = c.exchange-item.new.seat.id in
    let m = c.exchange-item.new.seat.me in
    let e : m ≡ (V, (k, Nothing) ∷ m1.1) = u.3 ∙ ap (λ (y : Me Item View). (y.0, (k, Nothing) ∷ rest y.1)) h.1 in
    let P : Me Item View → Type 0 = λ y. Allows (BoardRule c.args.self.now.table.shared.key) z.slots id y k (λ w. w) (gave_back (step z.slots k 0 0 none) y) in (
      u.0 ∙ x.0 ∙ l.0 ∙ c.requires.seat.0.0,
      omega (arith, c.args.self.now.sized.0, c.requires.slot),
      subst P (sym e) (gives_back c.args.self.now.table.shared.key z.slots id V m1.1 Nothing k ((n * 4 + 1) / 4) h.0 c.requires.slot (a.2 ∙ c.requires.seat.1.0) (ap (λ (y : SlotView). y.mine) b.0) (ap (λ (y : SlotView). y.holds) b.0)),
    )
