use Rattle.std.proofs.Common.{sym, ◌∙◌, refl}
use Rattle.std.proofs.lemmas.Bool.{false≢true}
use Rattle.pt_turn.proofs.Closes.Ending.{closing_bounds, empty_opens, empty_box}
use Rattle.pt_turn.proofs.close.closing.can_close.Goals as goal

pub returns-then-not-is_empty-2 : goal.returns-then-not-is_empty-2
returns-then-not-is_empty-2 c = λ g i taken closing. (
  λ e. absurd (false≢true e),
  λ can. absurd (false≢true (sym c.if-not-is_empty-2.true ∙ (empty_opens c.args.fields.now.open_claims.items _ c.is_empty-2.result refl c.is_empty-2.ensures).1 can.nothing_open)),
)

pub returns : goal.returns
returns c = λ g i taken closing. (
  λ e. record {
    was_open = c.if-fields.false;
    bounds = closing_bounds g i c.args.closing c.args.reading closing c.if-reading-closing.false;
    nothing_waits = c.is_empty.ensures.0 c.if-not-is_empty.false;
    nothing_open = (empty_opens c.args.fields.now.open_claims.items _ c.is_empty-2.result refl c.is_empty-2.ensures).0 c.if-not-is_empty-2.false;
    nothing_to_send = (empty_box c.args.fields.now.outbox.items _ c.is_empty-3.result refl c.is_empty-3.ensures).0 e;
  },
  λ can. (empty_box c.args.fields.now.outbox.items _ c.is_empty-3.result refl c.is_empty-3.ensures).1 can.nothing_to_send,
)
