use Rattle.std.proofs.Common.{◌≡◌, ◌+◌, ◌-◌, suc, length, take, drop, sym, subst, ◌∙◌, arith}
use Rattle.std.proofs.lemmas.Bool.{false≢true}
use Rattle.pt_semantics.specs.Lists.{Each}
use Rattle.pt_queue.specs.declared.waiting.Waiting.{Waiting}
use Rattle.pt_turn.specs.Claims.Fronts.{IsAhead}
use Rattle.pt_turn.proofs.Claims.Ordering.{ahead_at, more_behind}
use Rattle.pt_turn.proofs.claim.order.place_of.Goals as goal

pub returns-then-is_before : goal.returns-then-is_before
returns-then-is_before c =
    let units = c.args.units.now in
    let one : suc (length units - c.loop-behind.behind - 1) ≡ length units - c.loop-behind.behind = omega (arith, c.loop-behind-test.true) in
    record {
      within = omega arith;
      before = subst (λ n. Each (λ (d : Waiting). IsAhead d c.args.next) (take n units)) one (ahead_at units (length units - c.loop-behind.behind - 1) c.args.next _ c.requires (omega (arith, c.loop-behind-test.true)) (c.is_before.ensures.0 c.if-is_before.true));
      behind = c.loop-behind.invariant;
    }

pub loop-behind-preserved : goal.loop-behind-preserved
loop-behind-preserved c =
    let units = c.args.units.now in
    let same : length units - c.loop-behind.behind - 1 ≡ length units - (c.loop-behind.behind + 1) = omega arith in
    let next : length units - c.loop-behind.behind - 1 + 1 ≡ length units - c.loop-behind.behind = omega (arith, c.loop-behind-test.true) in
    subst (λ n. Each (λ (d : Waiting). IsAhead d c.args.next → ⊥) (drop n units)) same
    (more_behind units (length units - c.loop-behind.behind - 1) c.args.next _ (omega (arith, c.loop-behind-test.true)) (λ k. false≢true (sym c.if-is_before.false ∙ c.is_before.ensures.1 k))
    (subst (λ n. Each (λ (d : Waiting). IsAhead d c.args.next → ⊥) (drop n units)) (sym next) c.loop-behind.invariant))

pub returns : goal.returns
returns c =
    let none : length c.args.units.now - c.loop-behind.behind ≡ 0 = omega (arith, c.loop-behind-test.false) in
    record { within = omega arith; before = tt; behind = subst (λ n. Each (λ (d : Waiting). IsAhead d c.args.next → ⊥) (drop n c.args.units.now)) none c.loop-behind.invariant }
