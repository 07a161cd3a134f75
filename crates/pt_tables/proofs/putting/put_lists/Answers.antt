use Rattle.std.proofs.Common.{◌≡◌, Some, slice_get, subst}
use Rattle.std.proofs.lemmas.Result.{err_from_is_err_and, on_err_weaker, on_ok_weaker}
use Rattle.pt_io.specs.Calls.{writing}
use Rattle.pt_semantics.specs.Turn.{Turn}
use Rattle.pt_tables.specs.declared.turn_lists.TurnList.TheVariants.{Claimed, Posted, Rows, Sent, Taken}
use Rattle.pt_tables.specs.Putting.{IsPartPut, IsPut}
use Rattle.pt_tables.proofs.Out.{part_before, part_then, put_then}
use Rattle.pt_tables.proofs.TurnLists.{all_lists, claimed_on, lines_of, rows_on, taken_on}
use Rattle.pt_tables.proofs.putting.put_lists.Goals as goal

pub returns-in_err-put_list-clause-part : goal.returns-in_err-put_list-clause-part
returns-in_err-put_list-clause-part g c =
    let p = err_from_is_err_and c.from_residual.result c.from_residual.ensures.1 in
    let k = g.K.Sink in
    let graph = c.args.graph.now in
    rw p.1
    (λ turn at.
    subst (IsPartPut (writing k c.args.out.now c.put_list.new.out)) (all_lists graph turn)
    (part_before k c.args.out.now c.put_list.new.out (lines_of graph turn Posted) (rows_on graph turn) (c.in_err-put_list.ensures.part turn at)))

pub returns-in_err-put_list-2-clause-part : goal.returns-in_err-put_list-2-clause-part
returns-in_err-put_list-2-clause-part g c =
    let p = err_from_is_err_and c.from_residual-in_err-put_list-2.result c.from_residual-in_err-put_list-2.ensures.1 in
    let k = g.K.Sink in
    let graph = c.args.graph.now in
    rw p.1
    (λ turn at.
    subst (IsPartPut (writing k c.args.out.now c.put_list-2.new.out)) (all_lists graph turn)
    (part_then k c.args.out.now c.put_list.new.out c.put_list-2.new.out (lines_of graph turn Posted) (rows_on graph turn) (c.in_ok-put_list.ensures.all turn at)
    (part_before k c.put_list.new.out c.put_list-2.new.out (lines_of graph turn Rows) (taken_on graph turn) (c.in_err-put_list-2.ensures.part turn at))))

pub returns-in_err-put_list-3-clause-part : goal.returns-in_err-put_list-3-clause-part
returns-in_err-put_list-3-clause-part g c =
    let p = err_from_is_err_and c.from_residual-in_err-put_list-3.result c.from_residual-in_err-put_list-3.ensures.1 in
    let k = g.K.Sink in
    let graph = c.args.graph.now in
    rw p.1
    (λ turn at.
    subst (IsPartPut (writing k c.args.out.now c.put_list-3.new.out)) (all_lists graph turn)
    (part_then k c.args.out.now c.put_list.new.out c.put_list-3.new.out (lines_of graph turn Posted) (rows_on graph turn) (c.in_ok-put_list.ensures.all turn at)
    (part_then k c.put_list.new.out c.put_list-2.new.out c.put_list-3.new.out (lines_of graph turn Rows) (taken_on graph turn) (c.in_ok-put_list-2.ensures.all turn at)
    (part_before k c.put_list-2.new.out c.put_list-3.new.out (lines_of graph turn Taken) (claimed_on graph turn) (c.in_err-put_list-3.ensures.part turn at)))))

pub returns-in_err-put_list-4-clause-part : goal.returns-in_err-put_list-4-clause-part
returns-in_err-put_list-4-clause-part g c =
    let p = err_from_is_err_and c.from_residual-in_err-put_list-4.result c.from_residual-in_err-put_list-4.ensures.1 in
    let k = g.K.Sink in
    let graph = c.args.graph.now in
    rw p.1
    (λ turn at.
    subst (IsPartPut (writing k c.args.out.now c.put_list-4.new.out)) (all_lists graph turn)
    (part_then k c.args.out.now c.put_list.new.out c.put_list-4.new.out (lines_of graph turn Posted) (rows_on graph turn) (c.in_ok-put_list.ensures.all turn at)
    (part_then k c.put_list.new.out c.put_list-2.new.out c.put_list-4.new.out (lines_of graph turn Rows) (taken_on graph turn) (c.in_ok-put_list-2.ensures.all turn at)
    (part_then k c.put_list-2.new.out c.put_list-3.new.out c.put_list-4.new.out (lines_of graph turn Taken) (claimed_on graph turn) (c.in_ok-put_list-3.ensures.all turn at)
    (part_before k c.put_list-3.new.out c.put_list-4.new.out (lines_of graph turn Claimed) (lines_of graph turn Sent) (c.in_err-put_list-4.ensures.part turn at))))))

pub returns-clause-all : goal.returns-clause-all
returns-clause-all g c =
    let k = g.K.Sink in
    let graph = c.args.graph.now in
    let last = c.put_list-5.new.out in
    on_ok_weaker c.put_list-5.result
    (λ (all : (turn : Turn) → slice_get c.args.history.now.turns c.args.lists.now.number ≡ Some turn → IsPut (writing k c.put_list-4.new.out last) (lines_of graph turn Sent)). λ turn at.
    subst (IsPut (writing k c.args.out.now last)) (all_lists graph turn)
    (put_then k c.args.out.now c.put_list.new.out last (lines_of graph turn Posted) (rows_on graph turn) (c.in_ok-put_list.ensures.all turn at)
    (put_then k c.put_list.new.out c.put_list-2.new.out last (lines_of graph turn Rows) (taken_on graph turn) (c.in_ok-put_list-2.ensures.all turn at)
    (put_then k c.put_list-2.new.out c.put_list-3.new.out last (lines_of graph turn Taken) (claimed_on graph turn) (c.in_ok-put_list-3.ensures.all turn at)
    (put_then k c.put_list-3.new.out c.put_list-4.new.out last (lines_of graph turn Claimed) (lines_of graph turn Sent) (c.in_ok-put_list-4.ensures.all turn at) (all turn at))))))
    c.put_list-5.ensures.all

pub returns-clause-part : goal.returns-clause-part
returns-clause-part g c =
    let k = g.K.Sink in
    let graph = c.args.graph.now in
    let last = c.put_list-5.new.out in
    on_err_weaker c.put_list-5.result
    (λ (part : (turn : Turn) → slice_get c.args.history.now.turns c.args.lists.now.number ≡ Some turn → IsPartPut (writing k c.put_list-4.new.out last) (lines_of graph turn Sent)). λ turn at.
    subst (IsPartPut (writing k c.args.out.now last)) (all_lists graph turn)
    (part_then k c.args.out.now c.put_list.new.out last (lines_of graph turn Posted) (rows_on graph turn) (c.in_ok-put_list.ensures.all turn at)
    (part_then k c.put_list.new.out c.put_list-2.new.out last (lines_of graph turn Rows) (taken_on graph turn) (c.in_ok-put_list-2.ensures.all turn at)
    (part_then k c.put_list-2.new.out c.put_list-3.new.out last (lines_of graph turn Taken) (claimed_on graph turn) (c.in_ok-put_list-3.ensures.all turn at)
    (part_then k c.put_list-3.new.out c.put_list-4.new.out last (lines_of graph turn Claimed) (lines_of graph turn Sent) (c.in_ok-put_list-4.ensures.all turn at) (part turn at))))))
    c.put_list-5.ensures.part
