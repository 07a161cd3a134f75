use Rattle.std.proofs.Common.{◌≡◌, ◌++◌, length, drop, map, sym, ap, ◌∙◌, arith, append-nil}
use Rattle.pt_semantics.specs.Entering.{due}
use Rattle.pt_queue.specs.Events.{waiting_in}
use Rattle.pt_turn.specs.Fields.Sensors.{at_sensor}
use Rattle.pt_turn.proofs.Enters.Rows.{seen_none}
use Rattle.pt_turn.proofs.enter.entering.enter_due.Goals as goal

pub returns-then-not-is_seen-clause-waits : goal.returns-then-not-is_seen-clause-waits
returns-then-not-is_seen-clause-waits c = sym (seen_none c.args.sensor (waiting_in c.args.queue.now.events) _ (c.is_seen.ensures.none c.if-not-is_seen.true))

pub returns-then-not-is_seen-clause-spare : goal.returns-then-not-is_seen-clause-spare
returns-then-not-is_seen-clause-spare c = let none : length (due c.args.reading (drop c.args.entered c.args.rows.now)) ≡ 0 = ap length (c.is_seen.ensures.none c.if-not-is_seen.true) in omega (arith, none)

pub returns-then-not-is_seen-clause-rows : goal.returns-then-not-is_seen-clause-rows
returns-then-not-is_seen-clause-rows c = sym (append-nil c.args.kept.now.items) ∙ ap (λ z. c.args.kept.now.items ++ map (at_sensor c.args.sensor) z) (sym (c.is_seen.ensures.none c.if-not-is_seen.true))

pub returns-then-not-is_seen-clause-kept : goal.returns-then-not-is_seen-clause-kept
returns-then-not-is_seen-clause-kept c = let none : length (due c.args.reading (drop c.args.entered c.args.rows.now)) ≡ 0 = ap length (c.is_seen.ensures.none c.if-not-is_seen.true) in (omega arith, omega (arith, none))

pub returns-then-not-is_seen-clause-left : goal.returns-then-not-is_seen-clause-left
returns-then-not-is_seen-clause-left c = sym (c.is_seen.ensures.left c.if-not-is_seen.true)
