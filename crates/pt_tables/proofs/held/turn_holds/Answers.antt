use Rattle.std.proofs.Common.{◌≡◌, Option, ap, subst, arith}
use Rattle.std.specs.Prelude.{slice_get}
use Rattle.pt_semantics.specs.Lists.{Each}
use Rattle.pt_semantics.specs.Turn.{Turn}
use Rattle.pt_history.specs.Turns.{turn_head}
use Rattle.pt_history.specs.declared.head.Head.{Head}
use Rattle.pt_tables.specs.Held.{IsHeldMessage}
use Rattle.pt_tables.proofs.Written.{read_of}
use Rattle.pt_tables.proofs.held.turn_holds.Goals as goal

pub returns : goal.returns
returns c = λ turn at.
    let o : Option Turn = slice_get c.args.history.now.turns c.args.number in
    let head = c.head-head.result in
    let same : head ≡ turn_head turn = read_of turn_head o turn head at c.head-head.ensures in
    let first : head.first ≡ turn.first = ap (λ (h : Head). h.first) same in
    let last : head.last ≡ turn.last = ap (λ (h : Head). h.last) same in
    let count : head.count ≡ turn.count = ap (λ (h : Head). h.count) same in (
      record {
        first = omega (arith, first, c.head-head.type_inv);
        last = omega (arith, last, c.head-head.type_inv);
        count = omega (arith, count, c.head-head.type_inv);
      },
      subst (Each IsHeldMessage) (read_of (λ (t : Turn). t.taken) o turn c.taken_in.result.now at c.taken_in.ensures) c.messages_hold.ensures,
      subst (Each IsHeldMessage) (read_of (λ (t : Turn). t.sent) o turn c.sent_in.result.now at c.sent_in.ensures) c.messages_hold-2.ensures,
    )
