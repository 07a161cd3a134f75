use Rattle.std.proofs.Common.{◌++◌, List, ℕ, [], drop, refl, subst, take, arith}
use Rattle.std.proofs.lemmas.Result.{err_from_is_err_and}
use Rattle.pt_io.specs.Causes.{AppendsPart, Rose}
use Rattle.pt_tables.proofs.Out.{joined, part_more, part_then, put_none, put_then}
use Rattle.pt_tables.proofs.each_line.put_each_line.Goals as goal

pub loop-rest-init : goal.loop-rest-init
loop-rest-init g c = ([], refl, put_none g.K.Sink c.args.out.now)

pub loop-rest-preserved : goal.loop-rest-preserved
loop-rest-preserved g c =
    let inv = c.loop-rest.invariant in
    let line : List ℕ = take c.line_len.result c.loop-rest.rest.now in (
      inv.0 ++ line,
      rw c.split_at.ensures.back (joined inv.0 c.loop-rest.rest.now c.args.text.now c.line_len.result inv.1),
      put_then g.K.Sink c.args.out.now c.loop-rest.out c.put.new.self inv.0 line inv.2 (record { all = rw c.split_at.ensures.front at c.in_ok-put.ensures.all; uncounted = c.in_ok-put.ensures.uncounted }),
    )

pub returns-in_err-put-clause-part : goal.returns-in_err-put-clause-part
returns-in_err-put-clause-part g c =
    let inv = c.loop-rest.invariant in
    let rest = c.loop-rest.rest.now in
    let line : List ℕ = take c.line_len.result rest in
    let p = err_from_is_err_and c.from_residual.result c.from_residual.ensures.1 in
    rw p.1
    (subst (AppendsPart (g.K.Sink.written c.args.out.now) (g.K.Sink.written c.put.new.self)) (joined inv.0 rest c.args.text.now c.line_len.result inv.1)
    (part_more (g.K.Sink.written c.args.out.now) (g.K.Sink.written c.put.new.self) (inv.0 ++ line) (drop c.line_len.result rest)
    (part_then g.K.Sink c.args.out.now c.loop-rest.out c.put.new.self inv.0 line inv.2 (record { part = rw c.split_at.ensures.front at c.in_err-put.ensures.part; failed = c.in_err-put.ensures.failed; grows = c.put.ensures.grows })).part))

pub returns-in_err-put-clause-failed : goal.returns-in_err-put-clause-failed
returns-in_err-put-clause-failed g c =
    let p = err_from_is_err_and c.from_residual.result c.from_residual.ensures.1 in
    rw p.1 (subst (λ n. Rose n (g.K.Sink.faults c.put.new.self)) c.loop-rest.invariant.2.uncounted c.in_err-put.ensures.failed)

pub returns-in_err-put-clause-grows : goal.returns-in_err-put-clause-grows
returns-in_err-put-clause-grows g c = omega (arith, c.loop-rest.invariant.2.uncounted, c.put.ensures.grows)

pub returns-clause-grows : goal.returns-clause-grows
returns-clause-grows g c = omega (arith, c.loop-rest.invariant.2.uncounted)
