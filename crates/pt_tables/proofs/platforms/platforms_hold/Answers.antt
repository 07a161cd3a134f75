use Rattle.std.proofs.Common.{◌≡◌, ◌≤◌, Some, ap, length, slice_get, subst, sym, ◌∙◌, arith}
use Rattle.std.proofs.lemmas.Option.{slice_get-get_or, slice_get_within}
use Rattle.pt_semantics.specs.Lists.{Each}
use Rattle.pt_turn.specs.Platforms.{PlatformView}
use Rattle.pt_tables.specs.Held.{IsHeldTurn}
use Rattle.pt_tables.proofs.Members.{each_mapped, each_of, one_more}
use Rattle.pt_tables.proofs.platforms.platforms_hold.Goals as goal

pub loop-platform-preserved : goal.loop-platform-preserved
loop-platform-preserved c =
    let platforms = c.args.platforms.now in
    let n = c.loop-platform.platform-index in
    let v : PlatformView = c.platform-item.result in
    let at : slice_get platforms n ≡ Some v = slice_get-get_or platforms n v c.loop-platform-test.true ∙ ap Some (sym c.platform-item.is) in
    one_more (λ (w : PlatformView). Each IsHeldTurn w.turns) platforms n v at (subst (Each IsHeldTurn) c.history.ensures.turns c.turns_hold.ensures) c.loop-platform.invariant

pub returns : goal.returns
returns c =
    let platforms = c.args.platforms.now in
    let all : length platforms ≤ c.loop-platform.platform-index = omega (arith, c.loop-platform-test.false) in
    each_mapped (λ (v : PlatformView). v.turns) (Each IsHeldTurn) platforms
    (each_of (λ (v : PlatformView). Each IsHeldTurn v.turns) platforms (λ k v at. let lt = slice_get_within platforms k v at in c.loop-platform.invariant k v (omega (arith, lt, all)) at))
