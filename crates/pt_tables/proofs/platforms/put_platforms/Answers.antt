use Rattle.std.proofs.Common.{◌≡◌, ◌≤◌, Some, length, slice_get, ap, sym, subst, ◌∙◌, arith}
use Rattle.std.specs.Prelude.{flat_map}
use Rattle.std.proofs.lemmas.List.{take_all}
use Rattle.std.proofs.lemmas.Option.{slice_get-get_or}
use Rattle.std.proofs.lemmas.Result.{err_from_is_err_and}
use Rattle.pt_io.specs.Calls.{writing}
use Rattle.pt_turn.specs.Platforms.{PlatformView}
use Rattle.pt_tables.specs.Platforms.{platform_lines}
use Rattle.pt_tables.specs.Putting.{IsPut}
use Rattle.pt_tables.proofs.Out.{next_part, next_put, put_none}
use Rattle.pt_tables.proofs.platforms.put_platforms.Goals as goal

pub loop-platform-init : goal.loop-platform-init
loop-platform-init g c = put_none g.K.Sink c.args.out.now

pub loop-platform-preserved : goal.loop-platform-preserved
loop-platform-preserved g c =
    let platforms = c.args.platforms.now in
    let n = c.loop-platform.platform-index in
    let v : PlatformView = c.platform-item.result in
    let at : slice_get platforms n ≡ Some v = slice_get-get_or platforms n v c.loop-platform-test.true ∙ ap Some (sym c.platform-item.is) in
    next_put g.K.Sink c.args.out.now c.loop-platform.out c.put_platform.new.out platform_lines platforms n v at c.loop-platform.invariant c.in_ok-put_platform.ensures.all

pub returns-in_err-put_platform-clause-part : goal.returns-in_err-put_platform-clause-part
returns-in_err-put_platform-clause-part g c =
    let platforms = c.args.platforms.now in
    let n = c.loop-platform.platform-index in
    let v : PlatformView = c.platform-item.result in
    let at : slice_get platforms n ≡ Some v = slice_get-get_or platforms n v c.loop-platform-test.true ∙ ap Some (sym c.platform-item.is) in
    let p = err_from_is_err_and c.from_residual.result c.from_residual.ensures.1 in
    rw p.1 (next_part g.K.Sink c.args.out.now c.loop-platform.out c.put_platform.new.out platform_lines platforms n v at c.loop-platform.invariant c.in_err-put_platform.ensures.part)

pub returns-clause-all : goal.returns-clause-all
returns-clause-all g c =
    let platforms = c.args.platforms.now in
    let n = c.loop-platform.platform-index in
    let all : length platforms ≤ n = omega (arith, c.loop-platform-test.false) in
    subst (λ ps. IsPut (writing g.K.Sink c.args.out.now c.loop-platform.out) (flat_map platform_lines ps)) (take_all n platforms all) c.loop-platform.invariant
