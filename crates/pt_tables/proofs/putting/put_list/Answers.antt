use Rattle.std.proofs.Common.{◌≤◌, List, ℕ, length, subst, arith}
use Rattle.std.proofs.lemmas.List.{take_all}
use Rattle.std.proofs.lemmas.Result.{err_from_is_err_and}
use Rattle.pt_io.specs.Calls.{writing}
use Rattle.pt_tables.specs.Putting.{IsPut}
use Rattle.pt_tables.specs.TurnLists.{all_lines, entry_lines}
use Rattle.pt_tables.proofs.Out.{next_part, next_put, put_none}
use Rattle.pt_tables.proofs.Parts.{claimed_more, posted_more}
use Rattle.pt_tables.proofs.TurnLists.{counted}
use Rattle.pt_tables.proofs.putting.put_list.Goals as goal

pub count-index-end-requires-clause-results : goal.count-index-end-requires-clause-results
count-index-end-requires-clause-results g c = omega (arith, c.requires.lists.results, c.requires.lists.through.results, posted_more c.args.history.now.turns c.args.lists.now.number c.requires.number)

pub count-index-end-requires-clause-claims : goal.count-index-end-requires-clause-claims
count-index-end-requires-clause-claims g c = omega (arith, c.requires.lists.claims, c.requires.lists.through.claims, claimed_more c.args.history.now.turns c.args.lists.now.number c.requires.number)

abbrev own_line : List ℕ → List ℕ
own_line line = line

pub loop-index-init : goal.loop-index-init
loop-index-init g c = λ turn at. put_none g.K.Sink c.args.out.now

pub loop-index-preserved : goal.loop-index-preserved
loop-index-preserved g c = λ turn at.
    next_put g.K.Sink c.args.out.now c.loop-index.out c.put.new.self own_line (entry_lines c.args.graph.now turn c.args.list) c.loop-index.index c.write.new.pen.line (c.write.ensures turn at) (c.loop-index.invariant turn at)
    (record { all = rw c.as_bytes.ensures at c.in_ok-put.ensures.all; uncounted = c.in_ok-put.ensures.uncounted })

pub returns-in_err-put-clause-part : goal.returns-in_err-put-clause-part
returns-in_err-put-clause-part g c =
    let p = err_from_is_err_and c.from_residual.result c.from_residual.ensures.1 in
    rw p.1
    (λ turn at.
    next_part g.K.Sink c.args.out.now c.loop-index.out c.put.new.self own_line (entry_lines c.args.graph.now turn c.args.list) c.loop-index.index c.write.new.pen.line (c.write.ensures turn at) (c.loop-index.invariant turn at)
    (record { part = rw c.as_bytes.ensures at c.in_err-put.ensures.part; failed = c.in_err-put.ensures.failed; grows = c.put.ensures.grows }))

pub returns-clause-all : goal.returns-clause-all
returns-clause-all g c = λ turn at.
    let lines = entry_lines c.args.graph.now turn c.args.list in
    let all : length lines ≤ c.loop-index.index = omega (arith, c.loop-index-test.false, c.count-index-end.ensures, counted c.args.graph.now c.args.history.now.turns c.args.lists.now turn c.args.list c.requires.number c.requires.lists at) in
    subst (λ ls. IsPut (writing g.K.Sink c.args.out.now c.loop-index.out) (all_lines ls)) (take_all c.loop-index.index lines all) (c.loop-index.invariant turn at)
