use Rattle.std.proofs.Common.{◌≡◌, ◌-◌, ◌+◌, length, refl, slice_index, sym, subst, ap, ◌∙◌, arith}
use Rattle.pt_causality.specs.Delays.{least_of}
use Rattle.pt_slacks.specs.Rings.{IsRing}
use Rattle.pt_slacks.specs.Rows.{slack_row_at}
use Rattle.pt_slacks.proofs.Walking.{closed_ring}
use Rattle.pt_slacks.proofs.ring.closed.Goals as goal

pub overflow_sub-result : goal.overflow_sub-result
overflow_sub-result c =
    let before = c.slack_at-before.result in
    let after = c.slack_at-after.result in
    let count : c.len.result ≡ length c.in_ok-sends.sends.items = omega (arith, c.len.ensures, c.in_ok-sends.sends.ok.0) in
    let last : after ≡ slice_index (slack_row_at c.args.rows.now (c.args.round + length c.in_ok-sends.sends.items)) c.args.from =
    c.slack_at-after.ensures ∙ ap (λ n. slice_index (slack_row_at c.args.rows.now (c.args.round + n)) c.args.from) count in
    let both = closed_ring c.args.graph.now (least_of c.args.least.now) c.args.hops.now c.requires.lawful c.requires.hops c.requires.least c.args.rows.now c.requires.rows c.args.trail.now c.args.round c.args.from c.in_ok-sends.sends.items c.rotate_to_least.new.numbers.items before after (after - before) c.requires.closing c.in_ok-sends.ensures c.slack_at-before.ensures last refl c.rotate_to_least.ensures in
    omega (arith, both.1)

pub returns : goal.returns
returns c =
    let before = c.slack_at-before.result in
    let after = c.slack_at-after.result in
    let count : c.len.result ≡ length c.in_ok-sends.sends.items = omega (arith, c.len.ensures, c.in_ok-sends.sends.ok.0) in
    let last : after ≡ slice_index (slack_row_at c.args.rows.now (c.args.round + length c.in_ok-sends.sends.items)) c.args.from =
    c.slack_at-after.ensures ∙ ap (λ n. slice_index (slack_row_at c.args.rows.now (c.args.round + n)) c.args.from) count in
    let both = closed_ring c.args.graph.now (least_of c.args.least.now) c.args.hops.now c.requires.lawful c.requires.hops c.requires.least c.args.rows.now c.requires.rows c.args.trail.now c.args.round c.args.from c.in_ok-sends.sends.items c.rotate_to_least.new.numbers.items before after (after - before) c.requires.closing c.in_ok-sends.ensures c.slack_at-before.ensures last refl c.rotate_to_least.ensures in
    subst (λ sends. IsRing c.args.graph.now sends (after - before)) (sym c.new.ensures) both.0
