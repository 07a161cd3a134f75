use Rattle.std.proofs.Common.{◌≡◌, ◌∙◌, ap, sym, subst, rules, arith, suc, length, ℕ, ◌==◌, Some, None}
use Rattle.pt_types.specs.Ports.{when}
use Rattle.pt_semantics.specs.Lists.{or_else}
use Rattle.pt_meaning.specs.Early.{early_waits, left, Heads, IsFiringOrder}
use Rattle.pt_meaning.proofs.Earlies.{others_on, here_on, orderly_on, none_left, all_taken, waits_without}
use Rattle.pt_meaning.proofs.early.EarlyList.take.Goals as goal

pub loop-value-smaller : goal.loop-value-smaller
loop-value-smaller c =
    let heads : Heads c.args.tag c.args.actor c.in-Some.value (left c.loop-value.self) (left c.take_first.new.self) = search rules in
    let longer : length (left c.loop-value.self) ≡ suc (length (left c.take_first.new.self)) = ap length heads.is in
    omega (arith, longer)

pub loop-value-preserved : goal.loop-value-preserved
loop-value-preserved c =
    let heads : Heads c.args.tag c.args.actor c.in-Some.value (left c.loop-value.self) (left c.take_first.new.self) = search rules in
    let first : c.kept-first.result ≡ or_else c.loop-value.first (Some c.in-Some.value) = search rules in
    record {
      orderly = λ rank actors was. orderly_on rank actors c.args.tag c.args.actor c.in-Some.value (left c.loop-value.self) (left c.take_first.new.self) heads (c.loop-value.invariant.orderly rank actors was);
      others = λ b p u other. others_on c.args.tag u c.args.actor b p c.in-Some.value (left c.loop-value.self) (left c.take_first.new.self) heads other ∙ c.loop-value.invariant.others b p u other;
      here = λ p. ap (λ z. or_else (when (p == 0) z) (early_waits (left c.take_first.new.self) c.args.actor p c.args.tag)) first
          ∙ here_on c.args.tag c.args.actor p c.in-Some.value c.loop-value.first (left c.loop-value.self) (left c.take_first.new.self) heads ∙ c.loop-value.invariant.here p;
    }

pub returns-clause-inputs : goal.returns-clause-inputs
returns-clause-inputs c = λ rank actors orderly first.
    let none : (p : ℕ) → early_waits (left c.loop-value.self) c.args.actor p c.args.tag ≡ None =
    none_left rank actors c.args.tag c.args.actor (left c.args.self.now) (left c.loop-value.self) first (c.loop-value.invariant.orderly rank actors orderly) c.loop-value.invariant.others c.in_default.ensures.none.0 in
    all_taken c.args.tag c.args.actor (left c.args.self.now) (left c.loop-value.self) c.loop-value.first c.loop-value.invariant.here none

pub returns-clause-waits : goal.returns-clause-waits
returns-clause-waits c = λ rank actors orderly first.
    let none : (p : ℕ) → early_waits (left c.loop-value.self) c.args.actor p c.args.tag ≡ None =
    none_left rank actors c.args.tag c.args.actor (left c.args.self.now) (left c.loop-value.self) first (c.loop-value.invariant.orderly rank actors orderly) c.loop-value.invariant.others c.in_default.ensures.none.0 in
    ap early_waits c.in_default.ensures.none.1 ∙ waits_without c.args.tag c.args.actor (left c.args.self.now) (left c.loop-value.self) c.loop-value.invariant.others none

pub returns-clause-orderly : goal.returns-clause-orderly
returns-clause-orderly c = λ rank actors orderly. subst (IsFiringOrder rank actors) (sym c.in_default.ensures.none.1) (c.loop-value.invariant.orderly rank actors orderly)
