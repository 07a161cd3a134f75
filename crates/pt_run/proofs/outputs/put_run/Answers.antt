use Rattle.std.proofs.Common.{◌++◌, List, ℕ}
use Rattle.std.proofs.lemmas.Result.{err_from_is_err_and, on_err_weaker}
use Rattle.pt_io.specs.Causes.{Appends, Rose}
use Rattle.pt_tables.proofs.Out.{appends_twice, part_next}
use Rattle.pt_run.specs.Runs.{asked_log}
use Rattle.pt_run.proofs.Puts.{kept_part}
use Rattle.pt_run.proofs.outputs.put_run.Goals as goal

pub returns-in_err-put_log_if-clause-part : goal.returns-in_err-put_log_if-clause-part
returns-in_err-put_log_if-clause-part g c =
    let residual = c.from_residual-in_err-put_log_if in
    let p = err_from_is_err_and residual.result residual.ensures.1 in
    rw p.1
    (part_next (g.K.Sink.written c.args.out.now) (g.K.Sink.written c.put_each_line.new.out) (g.K.Sink.written c.put_log_if.new.out) c.args.tables.now (asked_log c.args.log c.args.platforms.now) c.in_ok-put_each_line.ensures.all
    c.in_err-put_log_if.ensures.part)

pub returns-clause-part : goal.returns-clause-part
returns-clause-part g c =
    let tables : List ℕ = c.args.tables.now in
    let log : List ℕ = asked_log c.args.log c.args.platforms.now in
    let before = g.K.Sink.written c.args.out.now in
    let between = g.K.Sink.written c.put_each_line.new.out in
    let now = g.K.Sink.written c.put_log_if.new.out in
    let put : Appends before now (tables ++ log) = appends_twice before between now tables log c.in_ok-put_each_line.ensures.all c.in_ok-put_log_if.ensures.all in
    on_err_weaker c.flush.result (λ (rose : Rose (g.K.Sink.faults c.put_log_if.new.out) (g.K.Sink.faults c.flush.new.self)). kept_part before now (g.K.Sink.written c.flush.new.self) (tables ++ log) put c.flush.ensures.keeps) c.flush.ensures.failed
