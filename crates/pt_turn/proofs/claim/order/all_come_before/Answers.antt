use Rattle.std.proofs.Common.{◌≡◌, ℕ, ◌-◌, ◌<◌, ◌==◌, false, suc, length, take, sym, subst, ◌∙◌, arith}
use Rattle.std.proofs.lemmas.List.{take_all}
use Rattle.pt_semantics.specs.Lists.{Each}
use Rattle.pt_queue.specs.declared.waiting.Waiting.{Waiting}
use Rattle.pt_turn.specs.Claims.Fronts.{IsAhead}
use Rattle.pt_turn.proofs.Claims.Ordering.{ahead_at}
use Rattle.pt_turn.proofs.claim.order.all_come_before.Goals as goal

some : (n : ℕ) → (n == 0) ≡ false → 0 < n
some n h = grind arith

pub returns : goal.returns
returns c = λ yes.
    let units = c.args.units.now in
    let any = some (length units) (sym c.is_empty.ensures ∙ c.if-is_empty.false) in
    let last : suc (length units - 1) ≡ length units = omega (arith, any) in
    subst (Each (λ (d : Waiting). IsAhead d c.args.next)) (take_all (length units) units (omega arith))
    (subst (λ n. Each (λ (d : Waiting). IsAhead d c.args.next) (take n units)) last (ahead_at units (length units - 1) c.args.next _ c.requires (omega (arith, any)) (c.is_before.ensures.0 yes)))
