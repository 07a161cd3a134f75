use Rattle.std.proofs.Common.{◌≡◌, ◌-◌, ◌<◌, length, None, sym, ap, ◌∙◌, arith}
use Rattle.json.specs.Json.{after_end_array, items, value}
use Rattle.serde_json.specs.Read.{of_items, converted}
use Rattle.pt_graph_text.specs.Apart.{so_far, and_part}
use Rattle.pt_graph_text.proofs.Turns.{item_read, item_refused, items_over}
use Rattle.pt_graph_text.proofs.Listed.{joined, joined-item, joined-end, joined-all, joined-none}
use Rattle.pt_graph_text.proofs.apart.read_each.Goals as goal

pub returns-in_err-part-clause-err : goal.returns-in_err-part-clause-err
returns-in_err-part-clause-err g c refused =
    let f = g.T.Decode.decoded c.args.version in
    let p = value c.args.depth in
    let l = c.items in
    let n = l.invariant.0 in
    let going : (after_end_array l.reader ≡ None) × (c.take_end_array.new.self ≡ l.reader) = grind arith in
    let none : converted of_items (items p n l.reader) ≡ None = item_refused p n l.reader going.0 (rw (← going.1) (c.read.ensures.err (grind arith))) in
    joined-none f _ (l.invariant.2 ∙ ap (joined f (so_far l.wrong l.found.items)) none)

pub items-preserved : goal.items-preserved
items-preserved g c =
    let f = g.T.Decode.decoded c.args.version in
    let p = value c.args.depth in
    let l = c.items in
    let n = l.invariant.0 in
    let going : (after_end_array l.reader ≡ None) × (c.take_end_array.new.self ≡ l.reader) = grind arith in
    let r = c.read.new.reader in
    let read = c.in_ok-part.ensures.ok in
    let d = read.0 in
    let less : length r < length l.reader = rw (← going.1) c.in_ok-part.ensures.shorter in
    let turn = item_read p n l.reader r d (omega (arith, l.invariant.1)) going.0 (rw (← going.1) read.1) in
    let before = so_far l.wrong l.found.items in
    let kept : so_far c.in_ok-wrong.wrong c.keep.new.found.items ≡ and_part before (f d) = c.in_ok-wrong.ensures.ok ∙ ap (and_part before) read.2 in (
      n - 1,
      omega (arith, l.invariant.1),
      l.invariant.2 ∙ ap (joined f before) turn ∙ joined-item f before d _ ∙ ap (λ b. joined f b (converted of_items (items p (n - 1) r))) (sym kept),
      omega (arith, l.invariant.3),
    )

pub returns-in-None-clause-ok : goal.returns-in-None-clause-ok
returns-in-None-clause-ok g c =
    let f = g.T.Decode.decoded c.args.version in
    let p = value c.args.depth in
    let l = c.items in
    let n = l.invariant.0 in
    let r = c.take_end_array.new.self in
    let before = so_far l.wrong l.found.items in
    let end = l.invariant.2 ∙ ap (joined f before) (items_over p n l.reader r l.invariant.1 (grind arith)) ∙ joined-end f before r in
    let all = joined-all f _ before r end in
    (all.0, all.1, grind (arith, all.2))

pub returns-in-Some-clause-ok : goal.returns-in-Some-clause-ok
returns-in-Some-clause-ok g c =
    let f = g.T.Decode.decoded c.args.version in
    let p = value c.args.depth in
    let l = c.items in
    let n = l.invariant.0 in
    let r = c.take_end_array.new.self in
    let before = so_far l.wrong l.found.items in
    let end = l.invariant.2 ∙ ap (joined f before) (items_over p n l.reader r l.invariant.1 (grind arith)) ∙ joined-end f before r in
    let all = joined-all f _ before r end in
    (all.0, all.1, grind (arith, all.2))
