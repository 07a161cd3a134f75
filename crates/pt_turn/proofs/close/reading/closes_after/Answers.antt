use Rattle.std.proofs.Common.{◌≡◌, ◌≤◌, ◌+◌, ap, sym, ◌∙◌, arith, Some}
use Rattle.pt_types.specs.declared.graph.Graph.{Graph}
use Rattle.pt_semantics.specs.Bounds.{bound_of}
use Rattle.pt_offsets.specs.Timings.{bound_in}
use Rattle.pt_turn.proofs.Claims.Bounds.{small}
use Rattle.pt_turn.proofs.close.reading.closes_after.Goals as goal

pub overflow_add-result : goal.overflow_add-result
overflow_add-result c =
    let g = c.args.plan.now.graph in
    let bound : bound_of g c.args.actor ≡ Some c.in-Some.bound = sym (c.graph.ensures.admitted.offsets.bounds c.args.actor) ∙ ap (λ o. bound_in o c.args.actor) (sym c.offsets.ensures.value) ∙ sym c.bound.ensures ∙ c.in-Some.is in
    let few : g.until + c.in-Some.bound ≤ 4000000000000000 = small g c.args.actor c.in-Some.bound c.graph.ensures.admitted.lawful bound in
    let until : c.graph.result.now.until ≡ g.until = ap (λ (z : Graph). z.until) c.graph.ensures.value in
    omega (arith, few, until)

pub overflow_add-result-in-Some : goal.overflow_add-result-in-Some
overflow_add-result-in-Some c =
    let g = c.args.plan.now.graph in
    let bound : bound_of g c.args.actor ≡ Some c.in-Some.bound = sym (c.graph.ensures.admitted.offsets.bounds c.args.actor) ∙ ap (λ o. bound_in o c.args.actor) (sym c.offsets.ensures.value) ∙ sym c.bound.ensures ∙ c.in-Some.is in
    let few : g.until + c.in-Some.bound ≤ 4000000000000000 = small g c.args.actor c.in-Some.bound c.graph.ensures.admitted.lawful bound in
    let until : c.graph.result.now.until ≡ g.until = ap (λ (z : Graph). z.until) c.graph.ensures.value in
    omega (arith, few, until)
