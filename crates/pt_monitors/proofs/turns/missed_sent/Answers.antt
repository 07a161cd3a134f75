use Rattle.std.proofs.Common.{arith, ◌++◌, length, sym, ap, ◌∙◌, eqb-true}
use Rattle.std.proofs.lemmas.List.{append-nil}
use Rattle.pt_monitors.specs.Misses.{missed_at}
use Rattle.pt_monitors.proofs.InTime.{nothing_missed}
use Rattle.pt_monitors.proofs.Missing.{empty_list}
use Rattle.pt_monitors.proofs.Sent.{none_first}
use Rattle.pt_monitors.proofs.turns.missed_sent.Goals as goal

pub returns-then-is_empty : goal.returns-then-is_empty
returns-then-is_empty c =
    sym (append-nil c.args.misses.now.items)
    ∙ ap (λ l. c.args.misses.now.items ++ l) (sym (nothing_missed c.args.graph.now c.args.history.now.turns c.requires.in_time
    (sym c.all_sent.ensures ∙ empty_list c.all_sent.result.now (eqb-true (length c.all_sent.result.now) 0 (sym c.is_empty.ensures ∙ c.if-is_empty.true)))))

pub loop-start-init : goal.loop-start-init
loop-start-init c = (
  sym (append-nil c.args.misses.now.items)
      ∙ ap (λ l. c.args.misses.now.items ++ l) (sym (none_first (missed_at c.args.graph.now) c.args.history.now.turns)),
  omega arith,
)

pub loop-start-preserved : goal.loop-start-preserved
loop-start-preserved c = (c.in_ok-missed_in_block.ensures c.args.misses.now.items c.loop-start.invariant.0, omega arith)
