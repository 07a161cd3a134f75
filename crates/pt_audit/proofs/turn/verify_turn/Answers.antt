use Rattle.std.proofs.Common.{◌≡◌, true, sym, ◌∙◌}
use Rattle.std.proofs.lemmas.Bool.{false≢true}
use Rattle.pt_audit.specs.Remaking.Remade.{HasRemade, IsOnly}
use Rattle.pt_audit.proofs.Remade.{logged_here, uncounted, unlogged_here}
use Rattle.pt_audit.proofs.turn.verify_turn.Goals as goal

pub returns-then-not-is_counted-clause-none : goal.returns-then-not-is_counted-clause-none
returns-then-not-is_counted-clause-none g c = λ e.
    let yes : c.in_ok-remake_turn.field-0 ≡ true = c.if-not-branch.false in
    let made : HasRemade c.args.hints.now c.args.platform.now c.remake_turn.new.platform = c.in_ok-remake_turn.ensures.made yes in
    let only : IsOnly c.args.hints.now c.args.platform.now c.remake_turn.new.platform = c.in_ok-remake_turn.ensures.one yes in
    let plan : c.remake_turn.new.platform.plan ≡ c.args.platform.now.plan = made.stays.plan in
    let graph : c.graph-graph.result.now ≡ c.args.platform.now.plan.graph = cc in
    uncounted c.args.platform.now c.remake_turn.new.platform c.args.hints.now c.args.block.now c.graph-graph.result.now c.history-history.result.now.turns made c.requires.named graph c.history-history.ensures.turns
    only c.was_quiet.result c.was_quiet.ensures (λ right. false≢true (sym c.if-not-is_counted.true ∙ c.is_counted.ensures.counted.1 right))

pub returns-clause-made : goal.returns-clause-made
returns-clause-made g c = λ e.
    let yes : c.in_ok-remake_turn.field-0 ≡ true = c.if-not-branch.false in
    let made : HasRemade c.args.hints.now c.args.platform.now c.remake_turn.new.platform = c.in_ok-remake_turn.ensures.made yes in
    let only : IsOnly c.args.hints.now c.args.platform.now c.remake_turn.new.platform = c.in_ok-remake_turn.ensures.one yes in
    let plan : c.remake_turn.new.platform.plan ≡ c.args.platform.now.plan = made.stays.plan in
    let graph : c.graph-graph.result.now ≡ c.args.platform.now.plan.graph = cc in
    logged_here c.args.platform.now c.remake_turn.new.platform c.args.hints.now c.args.block.now c.graph-graph.result.now c.history-history.result.now.turns made c.requires.named graph c.history-history.ensures.turns
    only c.was_quiet.result c.was_quiet.ensures c.in_ok-same.same c.in_ok-same.ensures c.is_counted.ensures.fits (c.is_counted.ensures.counted.0 c.if-not-is_counted.false) e

pub returns-clause-none : goal.returns-clause-none
returns-clause-none g c = λ e.
    let yes : c.in_ok-remake_turn.field-0 ≡ true = c.if-not-branch.false in
    let made : HasRemade c.args.hints.now c.args.platform.now c.remake_turn.new.platform = c.in_ok-remake_turn.ensures.made yes in
    let only : IsOnly c.args.hints.now c.args.platform.now c.remake_turn.new.platform = c.in_ok-remake_turn.ensures.one yes in
    let plan : c.remake_turn.new.platform.plan ≡ c.args.platform.now.plan = made.stays.plan in
    let graph : c.graph-graph.result.now ≡ c.args.platform.now.plan.graph = cc in
    unlogged_here c.args.platform.now c.remake_turn.new.platform c.args.hints.now c.args.block.now c.graph-graph.result.now c.history-history.result.now.turns made c.requires.named graph c.history-history.ensures.turns
    only c.was_quiet.result c.was_quiet.ensures c.in_ok-same.same c.in_ok-same.ensures e
