use Rattle.std.proofs.Common.{◌≡◌, ◌∙◌, ◌<◌, ◌≤◌, [], ℕ, Some, slice_get, sym, ap, subst, arith}
use Rattle.std.proofs.Math.Nat.{min-le_left, min-le_right}
use Rattle.std.proofs.lemmas.List.{nil_from_length}
use Rattle.std.proofs.lemmas.Option.{slice_get-get_or, slice_get_within}
use Rattle.pt_turn.specs.Platforms.{PlatformView}
use Rattle.pt_engine.specs.Idle.{IsIdleUntil}
use Rattle.pt_engine.proofs.Idle.{idle_before}
use Rattle.pt_engine.proofs.Listed.{one_more}
use Rattle.pt_engine.proofs.resting.all_idle_until.Goals as goal

pub loop-i-preserved : goal.loop-i-preserved
loop-i-preserved c =
    one_more (λ (v : PlatformView). IsIdleUntil c.min-least.result v × (v.open_claims ≡ [])) c.args.platforms.now c.loop-i.i c.index-platforms-i.result
    (slice_get-get_or c.args.platforms.now c.loop-i.i c.index-platforms-i.result c.loop-i-test.true ∙ ap Some (sym c.index-platforms-i.is)) (
      idle_before c.in_ok-idle_until.field-0 c.min-least.result c.index-platforms-i.result (subst (λ n. n ≤ c.in_ok-idle_until.field-0) (sym c.min-least.ensures) (min-le_right c.loop-i.least c.in_ok-idle_until.field-0)) c.in_ok-idle_until.ensures,
      nil_from_length c.index-platforms-i.result.open_claims (sym c.open_claims.ensures ∙ c.if-open_claims-ne0.false),
    )
    (λ j w lt at.
    let before = c.loop-i.invariant j w lt at in
    (idle_before c.loop-i.least c.min-least.result w (subst (λ n. n ≤ c.loop-i.least) (sym c.min-least.ensures) (min-le_left c.loop-i.least c.in_ok-idle_until.field-0)) before.0, before.1))

pub returns : goal.returns
returns c =
    let within : (j : ℕ) (w : PlatformView) → slice_get c.args.platforms.now j ≡ Some w → j < c.loop-i.i = λ j w at. (let lt = slice_get_within c.args.platforms.now j w at in omega (arith, lt, c.loop-i-test.false)) in
    record {
      each = λ j w at. (c.loop-i.invariant j w (within j w at) at).0;
      no_claims = λ j w at. (c.loop-i.invariant j w (within j w at) at).1;
      none_under_way = c.are_empty.ensures c.if-not-are_empty.false;
    }
