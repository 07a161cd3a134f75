use Rattle.std.proofs.Common.{◌≡◌, ◌++◌, ◌∷◌, [], ◌<◌, ◌≤◌, ◌+◌, ℕ, Some, List, length, get_or, drop, take, slice_get, refl, sym, ap, subst, ◌∙◌, inl, rules, arith}
use Rattle.std.proofs.lemmas.List.{take_all, take_more}
use Rattle.pt_types.specs.declared.graph.Graph.{Graph}
use Rattle.pt_offsets.specs.Plans.{Parts}
use Rattle.pt_turn.specs.Posts.Posted.{IsDone}
use Rattle.pt_semantics.specs.Lists.{IsIn}
use Rattle.pt_semantics.specs.Turn.{Turn}
use Rattle.pt_semantics.proofs.Lookups.{IsIn-append_right}
use Rattle.pt_audit.specs.Remaking.Steps.{AreOf, claims_in}
use Rattle.pt_audit.proofs.Remaking.Fires.{FiresOn, nothing_fired, one_fires}
use Rattle.pt_audit.proofs.Remaking.Parts.{parted}
use Rattle.pt_audit.proofs.remake.posting.fire_claims.Goals as goal

pub loop-number-init : goal.loop-number-init
loop-number-init g c = nothing_fired c.args.platform.now.plan.graph (claims_in c.args.platform.now.turns) c.clear.new.self.items c.clear.ensures.items

pub loop-number-preserved : goal.loop-number-preserved
loop-number-preserved g c =
    let v = c.args.platform.now in
    let n : ℕ = get_or c.args.numbers.now c.loop-number.number-index 0 in
    let within : c.loop-number.number-index < length c.args.numbers.now = omega arith in
    let graph : c.graph.result.now ≡ v.plan.graph = c.graph.ensures.value ∙ ap (λ (p : Parts). p.graph) (c.deref.ensures ∙ c.plan.ensures) in
    let task : slice_get (claims_in v.turns) n ≡ Some c.fire_one.result.task =
    ap (λ (ts : List Turn). slice_get (claims_in ts) n) (sym c.history-history.ensures.turns) ∙ c.task-task.ensures ∙ ap Some (sym c.fire_one.ensures.task) in
    let done : IsDone v.plan.graph c.fire_one.result = subst (λ (a : Graph). IsDone a c.fire_one.result) graph c.fire_one.ensures.done in
    let items : c.push.new.self.items ≡ c.loop-number.dones.items ++ c.fire_one.result ∷ [] = search rules in
    subst (λ ds. FiresOn v.plan.graph (claims_in v.turns) (take (c.loop-number.number-index + 1) c.args.numbers.now) ds) (sym items)
    (subst (λ ns. FiresOn v.plan.graph (claims_in v.turns) ns (c.loop-number.dones.items ++ c.fire_one.result ∷ [])) (sym (take_more c.args.numbers.now c.loop-number.number-index 0 within))
    (one_fires v.plan.graph (claims_in v.turns) (take c.loop-number.number-index c.args.numbers.now) c.loop-number.dones.items n c.fire_one.result c.loop-number.invariant task done))

pub returns-then-number-claims-clause-unknown : goal.returns-then-number-claims-clause-unknown
returns-then-number-claims-clause-unknown g c =
    let n : ℕ = get_or c.args.numbers.now c.loop-number.number-index 0 in
    let within : c.loop-number.number-index < length c.args.numbers.now = omega arith in
    λ yes. (
      n,
      subst (IsIn n) (sym (parted c.args.numbers.now c.loop-number.number-index 0 within)) (IsIn-append_right n (take c.loop-number.number-index c.args.numbers.now) (n ∷ drop (c.loop-number.number-index + 1) c.args.numbers.now) (inl refl)),
      subst (λ (k : ℕ). k ≤ n) (c.claims.ensures ∙ ap (λ (ts : List Turn). length (claims_in ts)) c.history-history.ensures.turns) c.if-number-claims.true,
    )

pub returns-clause-all : goal.returns-clause-all
returns-clause-all g c =
    let all : length c.args.numbers.now ≤ c.loop-number.number-index = omega arith in
    λ yes. subst (λ ns. AreOf (claims_in c.args.platform.now.turns) ns c.loop-number.dones.items) (take_all c.loop-number.number-index c.args.numbers.now all) c.loop-number.invariant.are
