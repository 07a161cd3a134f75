use Rattle.std.proofs.Common.{◌≡◌, ◌+◌, ◌-◌, ◌<◌, ℕ, List, Some, length, get_or, set, sym, ap, subst, ◌∙◌, arith}
use Rattle.std.specs.Prelude.{slice_get}
use Rattle.std.proofs.lemmas.Grind.{get_or_default_zero}
use Rattle.std.proofs.lemmas.Option.{slice_get-get_or}
use Rattle.pt_types.specs.declared.graph.Wire.{Wire}
use Rattle.pt_semantics.proofs.LawfulEdges.{wired}
use Rattle.pt_causality.proofs.Branching.{AreNext, one_before}
use Rattle.pt_causality.proofs.Branching.{wire_in}
use Rattle.pt_causality.proofs.branches.find_branches.Goals as goal

abbrev none_wire : Wire
none_wire = record { from = 0; output = 0; to = 0; input = 0 }

pub index-requires : goal.index-requires
index-requires c =
    let ws : List Wire = c.as_slice-wires.result.now in
    let place : ℕ = length ws - 1 - c.loop-behind.behind in
    let lt : place < length ws = omega (arith, c.loop-behind-test.true) in
    let from : (get_or ws place none_wire).from < length c.args.graph.now.actors = ((wired c.args.graph.now c.requires.lawful).ends _ (wire_in c.args.graph.now ws place none_wire c.as_slice-wires.ensures lt)).0 in
    omega (arith, from, c.loop-behind.invariant.actors_len, c.loop-behind.first.ok.0)

pub index_mut-requires-in-loop-behind : goal.index_mut-requires-in-loop-behind
index_mut-requires-in-loop-behind c =
    let ws : List Wire = c.as_slice-wires.result.now in
    let place : ℕ = length ws - 1 - c.loop-behind.behind in
    let lt : place < length ws = omega (arith, c.loop-behind-test.true) in
    let from : (get_or ws place none_wire).from < length c.args.graph.now.actors = ((wired c.args.graph.now c.requires.lawful).ends _ (wire_in c.args.graph.now ws place none_wire c.as_slice-wires.ensures lt)).0 in
    omega (arith, from, c.loop-behind.invariant.actors_len, c.loop-behind.first.ok.0)

pub loop-behind-preserved : goal.loop-behind-preserved
loop-behind-preserved c =
    let ws : List Wire = c.as_slice-wires.result.now in
    let place : ℕ = length ws - 1 - c.loop-behind.behind in
    let lt : place < length ws = omega (arith, c.loop-behind-test.true) in
    let from : (get_or ws place none_wire).from < length c.args.graph.now.actors = ((wired c.args.graph.now c.requires.lawful).ends _ (wire_in c.args.graph.now ws place none_wire c.as_slice-wires.ensures lt)).0 in
    let before : length ws - c.loop-behind.behind ≡ place + 1 = omega (arith, c.loop-behind-test.true) in
    let after : place ≡ length ws - (c.loop-behind.behind + 1) = omega (arith, c.loop-behind-test.true) in
    let at : slice_get c.args.graph.now.wires place ≡ Some (get_or ws place none_wire) = ap (λ xs. slice_get xs place) (sym c.as_slice-wires.ensures) ∙ slice_get-get_or ws place none_wire lt in
    let inside : (get_or ws place none_wire).from < length c.loop-behind.first.items = subst (λ n. (get_or ws place none_wire).from < n) (sym c.loop-behind.invariant.actors_len) from in
    let first : c.index.result.now ≡ get_or c.loop-behind.first.items (get_or ws place none_wire).from 0 = c.index.ensures ∙ get_or_default_zero c.loop-behind.first.items (get_or ws place none_wire).from c.index.result.now inside in
    subst (λ k. AreNext c.args.graph.now.wires (length c.args.graph.now.actors) k (set c.loop-behind.first.items (get_or ws place none_wire).from place) (set c.loop-behind.next.items place c.index.result.now)) after
    (subst (λ k. AreNext c.args.graph.now.wires (length c.args.graph.now.actors) place (set c.loop-behind.first.items (get_or ws place none_wire).from place) (set c.loop-behind.next.items place k)) (sym first)
    (one_before c.args.graph.now.wires (length c.args.graph.now.actors) place c.loop-behind.first.items c.loop-behind.next.items (get_or ws place none_wire) at from
    (subst (λ k. AreNext c.args.graph.now.wires (length c.args.graph.now.actors) k c.loop-behind.first.items c.loop-behind.next.items) before c.loop-behind.invariant)))
