use Rattle.std.proofs.Common.{ap, slice_get, subst, ◌∙◌}
use Rattle.std.proofs.lemmas.Result.{err_from_is_err_and}
use Rattle.pt_io.specs.Calls.{writing}
use Rattle.pt_tables.specs.Log.{list_lines}
use Rattle.pt_tables.specs.Putting.{IsPartPut, IsPut}
use Rattle.pt_tables.specs.TurnLists.{named_lines}
use Rattle.pt_tables.proofs.Out.{part_before, part_then, put_then}
use Rattle.pt_tables.proofs.Written.{named_of}
use Rattle.pt_tables.proofs.putting.put_turn.Goals as goal

pub returns-in_err-put-clause-part : goal.returns-in_err-put-clause-part
returns-in_err-put-clause-part g c =
    let p = err_from_is_err_and c.from_residual.result c.from_residual.ensures.1 in
    let graph = c.args.graph.now in
    let line = c.renew.new.self.line in
    rw p.1
    (λ turn at.
    subst (IsPartPut (writing g.K.Sink c.args.out.now c.put.new.self))
    (named_of graph line.platform.now (slice_get c.args.history.now.turns c.args.number) line.first line.last line.count line.line turn c.renew.ensures.head c.renew.ensures.line.line at ∙ ap (λ name. named_lines graph name turn) c.renew.ensures.platform)
    (part_before g.K.Sink c.args.out.now c.put.new.self line.line (list_lines graph turn) (record { part = rw c.as_bytes.ensures at c.in_err-put.ensures.part; failed = c.in_err-put.ensures.failed; grows = c.put.ensures.grows })))

pub returns-in_err-put_lists-clause-part : goal.returns-in_err-put_lists-clause-part
returns-in_err-put_lists-clause-part g c =
    let p = err_from_is_err_and c.from_residual-in_err-put_lists.result c.from_residual-in_err-put_lists.ensures.1 in
    let graph = c.args.graph.now in
    let line = c.renew.new.self.line in
    rw p.1
    (λ turn at.
    subst (IsPartPut (writing g.K.Sink c.args.out.now c.put_lists.new.out))
    (named_of graph line.platform.now (slice_get c.args.history.now.turns c.args.number) line.first line.last line.count line.line turn c.renew.ensures.head c.renew.ensures.line.line at ∙ ap (λ name. named_lines graph name turn) c.renew.ensures.platform)
    (part_then g.K.Sink c.args.out.now c.put.new.self c.put_lists.new.out line.line (list_lines graph turn) (record { all = rw c.as_bytes.ensures at c.in_ok-put.ensures.all; uncounted = c.in_ok-put.ensures.uncounted })
    (c.in_err-put_lists.ensures.part turn (ap (slice_get c.args.history.now.turns) c.of-lists.ensures.number ∙ at))))

pub returns-clause-all : goal.returns-clause-all
returns-clause-all g c = λ turn at.
    let graph = c.args.graph.now in
    let line = c.renew.new.self.line in
    subst (IsPut (writing g.K.Sink c.args.out.now c.put_lists.new.out))
    (named_of graph line.platform.now (slice_get c.args.history.now.turns c.args.number) line.first line.last line.count line.line turn c.renew.ensures.head c.renew.ensures.line.line at ∙ ap (λ name. named_lines graph name turn) c.renew.ensures.platform)
    (put_then g.K.Sink c.args.out.now c.put.new.self c.put_lists.new.out line.line (list_lines graph turn) (record { all = rw c.as_bytes.ensures at c.in_ok-put.ensures.all; uncounted = c.in_ok-put.ensures.uncounted })
    (c.in_ok-put_lists.ensures.all turn (ap (slice_get c.args.history.now.turns) c.of-lists.ensures.number ∙ at)))
