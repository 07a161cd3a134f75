use Rattle.std.proofs.Common.{◌≡◌, ◌++◌, ◌+◌, ◌<◌, drop, length, slice_index, get_or, subst, ap, ◌∙◌, arith}
use Rattle.pt_slacks.specs.Listed.{listed, listed_from}
use Rattle.pt_slacks.proofs.Entries.{entries_more, entries_whole}
use Rattle.pt_slacks.proofs.answer.list.Goals as goal

pub loop-number-preserved : goal.loop-number-preserved
loop-number-preserved c =
    let s = slice_index c.args.needs.now in
    let n = c.loop-number.number in
    let actors = c.args.graph.now.actors in
    let less : n < length actors = subst (λ xs. n < length xs) c.as_slice-actor-items.ensures c.loop-number-test.true in
    let read : c.actor-item.result ≡ get_or actors n c.actor-item.result = c.actor-item.is ∙ ap (λ xs. get_or xs n c.actor-item.result) c.as_slice-actor-items.ensures in
    ap (λ es. es ++ listed_from s (n + 1) (drop (n + 1) actors)) c.in_ok-add.ensures
    ∙ entries_more s n actors c.loop-number.slacks.items (listed c.args.graph.now s) c.actor-item.result less read c.loop-number.invariant

pub returns : goal.returns
returns c =
    let len = ap length c.as_slice-actor-items.ensures in
    entries_whole (slice_index c.args.needs.now) c.loop-number.number c.args.graph.now.actors c.loop-number.slacks.items (listed c.args.graph.now (slice_index c.args.needs.now)) (omega (arith, len)) c.loop-number.invariant
