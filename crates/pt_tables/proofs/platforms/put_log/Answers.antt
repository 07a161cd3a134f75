use Rattle.std.proofs.Common.{List, ℕ, arith}
use Rattle.std.specs.Prelude.{flat_map}
use Rattle.std.proofs.lemmas.Result.{err_from_is_err_and, on_err_weaker, on_ok_weaker}
use Rattle.pt_io.specs.Calls.{writing}
use Rattle.pt_tables.specs.Log.{log_head}
use Rattle.pt_tables.specs.Platforms.{platform_lines}
use Rattle.pt_tables.specs.Putting.{IsPartPut, IsPut}
use Rattle.pt_tables.proofs.Out.{grew, part_more, part_then, put_then}
use Rattle.pt_tables.proofs.platforms.put_log.Goals as goal

pub returns-in_err-put-clause-part : goal.returns-in_err-put-clause-part
returns-in_err-put-clause-part g c =
    let p = err_from_is_err_and c.from_residual.result c.from_residual.ensures.1 in
    rw p.1 (part_more (g.K.Sink.written c.args.out.now) (g.K.Sink.written c.put.new.self) log_head (flat_map platform_lines c.args.platforms.now) c.in_err-put.ensures.part)

pub returns-clause-all : goal.returns-clause-all
returns-clause-all g c =
    let lines : List ℕ = flat_map platform_lines c.args.platforms.now in
    on_ok_weaker c.put_platforms.result
    (λ (put : IsPut (writing g.K.Sink c.put.new.self c.put_platforms.new.out) lines).
    (put_then g.K.Sink c.args.out.now c.put.new.self c.put_platforms.new.out log_head lines (record { all = c.in_ok-put.ensures.all; uncounted = c.in_ok-put.ensures.uncounted }) put).all)
    c.put_platforms.ensures.all

pub returns-clause-uncounted : goal.returns-clause-uncounted
returns-clause-uncounted g c =
    let lines : List ℕ = flat_map platform_lines c.args.platforms.now in
    on_ok_weaker c.put_platforms.result
    (λ (put : IsPut (writing g.K.Sink c.put.new.self c.put_platforms.new.out) lines).
    (put_then g.K.Sink c.args.out.now c.put.new.self c.put_platforms.new.out log_head lines (record { all = c.in_ok-put.ensures.all; uncounted = c.in_ok-put.ensures.uncounted }) put).uncounted)
    c.put_platforms.ensures.all

pub returns-clause-part : goal.returns-clause-part
returns-clause-part g c =
    let lines : List ℕ = flat_map platform_lines c.args.platforms.now in
    on_err_weaker c.put_platforms.result
    (λ (part : IsPartPut (writing g.K.Sink c.put.new.self c.put_platforms.new.out) lines).
    (part_then g.K.Sink c.args.out.now c.put.new.self c.put_platforms.new.out log_head lines (record { all = c.in_ok-put.ensures.all; uncounted = c.in_ok-put.ensures.uncounted }) part).part)
    c.put_platforms.ensures.part

pub returns-clause-failed : goal.returns-clause-failed
returns-clause-failed g c =
    let lines : List ℕ = flat_map platform_lines c.args.platforms.now in
    on_err_weaker c.put_platforms.result
    (λ (part : IsPartPut (writing g.K.Sink c.put.new.self c.put_platforms.new.out) lines).
    (part_then g.K.Sink c.args.out.now c.put.new.self c.put_platforms.new.out log_head lines (record { all = c.in_ok-put.ensures.all; uncounted = c.in_ok-put.ensures.uncounted }) part).failed)
    c.put_platforms.ensures.part

pub returns-clause-grows : goal.returns-clause-grows
returns-clause-grows g c =
    let more = grew g.K.Sink c.put.new.self c.put_platforms.new.out c.put_platforms.result (flat_map platform_lines c.args.platforms.now) c.put_platforms.ensures.all c.put_platforms.ensures.part in
    omega (arith, c.put.ensures.grows, more)
