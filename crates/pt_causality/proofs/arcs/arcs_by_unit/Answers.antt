use Rattle.std.proofs.Common.{◌≡◌, ◌<◌, arith, ap, sym, ◌∙◌, subst, length, length-set, slice_index_or, ◌++◌, ◌∷◌, []}
use Rattle.pt_semantics.specs.Edges.{Edge}
use Rattle.pt_semantics.specs.Units.{source, target}
use Rattle.pt_causality.specs.Cells.{number_in}
use Rattle.pt_causality.specs.Arcs.{arc_of, arcs_from}
use Rattle.pt_causality.proofs.Members.{in_place, leaving_from}
use Rattle.pt_causality.proofs.Leaving.{one_wire}
use Rattle.pt_causality.proofs.arcs.arcs_by_unit.Goals as goal

abbrev no_edge : Edge
no_edge = record { from = 0; output = 0; to = 0; input = 0; weight = record { time = 0; step = 0 } }

pub index_mut-leaving-requires : goal.index_mut-leaving-requires
index_mut-leaving-requires c =
    let less = c.requires.sources (slice_index_or c.args.wires.now c.loop-wire.wire-index no_edge) (in_place c.args.wires.now c.loop-wire.wire-index no_edge c.loop-wire-test.true) in
    let same = c.of-from.ensures ∙ ap (number_in c.args.numbers.now.firsts.items) c.source.ensures in
    let len = c.loop-wire.invariant.len in
    let ok = c.loop-wire.all.ok in
    omega (arith, less, same, len)

pub overflow_cast-to : goal.overflow_cast-to
overflow_cast-to c =
    let less = c.requires.targets (slice_index_or c.args.wires.now c.loop-wire.wire-index no_edge) (in_place c.args.wires.now c.loop-wire.wire-index no_edge c.loop-wire-test.true) in
    let same = c.of-to.ensures ∙ ap (number_in c.args.numbers.now.firsts.items) c.target.ensures in
    let few = c.requires.count in
    omega (arith, less, same, few)

pub loop-wire-preserved : goal.loop-wire-preserved
loop-wire-preserved c =
    let firsts = c.args.numbers.now.firsts.items in
    let g = c.args.graph.now in
    let e = slice_index_or c.args.wires.now c.loop-wire.wire-index no_edge in
    let less = c.requires.sources e (in_place c.args.wires.now c.loop-wire.wire-index no_edge c.loop-wire-test.true) in
    let from : c.of-from.result ≡ number_in firsts (source g e) = c.of-from.ensures ∙ ap (number_in firsts) c.source.ensures in
    let to : c.of-to.result ≡ number_in firsts (target g e) = c.of-to.ensures ∙ ap (number_in firsts) c.target.ensures in
    let len : length c.loop-wire.all.items ≡ c.args.numbers.now.count = c.loop-wire.invariant.len in
    let within : c.of-from.result < length c.loop-wire.all.items = omega (arith, less, from, len) in
    let old : c.index_mut-leaving.result.now ≡ arcs_from c.loop-wire.all.items c.of-from.result =
    leaving_from c.loop-wire.all.items c.of-from.result c.index_mut-leaving.result.now c.index_mut-leaving.result.now within c.index_mut-leaving.ensures.value (λ i. c.index_mut-leaving.result.now) in
    let pushed : c.push.new.self ≡ arcs_from c.loop-wire.all.items c.of-from.result ++ arc_of g firsts e ∷ [] =
    c.in_ok-push.ensures ∙ ap (λ z. z ++ record { to = c.of-to.result; weight = e.weight } ∷ []) old ∙ ap (λ n. arcs_from c.loop-wire.all.items c.of-from.result ++ record { to = n; weight = e.weight } ∷ []) to in
    record {
      len = length-set c.loop-wire.all.items c.of-from.result c.push.new.self ∙ len;
      arcs = λ j small. one_wire g firsts c.args.wires.now c.loop-wire.wire-index no_edge c.loop-wire.all.items c.push.new.self c.of-from.result c.loop-wire-test.true from within pushed
          (λ k few. c.loop-wire.invariant.arcs k (subst (λ n. k < n) len few)) j (subst (λ n. j < n) (sym len) small);
    }
