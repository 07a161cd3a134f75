use Rattle.std.proofs.Common.{◌≡◌, ◌<◌, ℕ, List, map, filter, length, arith, sym, subst, ap, ◌∙◌}
use Rattle.pt_types.specs.declared.graph.Graph.{Graph}
use Rattle.pt_semantics.specs.Edges.{Edge, wires}
use Rattle.pt_semantics.specs.Lists.{IsIn}
use Rattle.pt_causality.specs.declared.arcs.Arc.{Arc}
use Rattle.pt_causality.specs.Arcs.{arcs_from, arc_of, leaves_place, AreFit, HasLeastDelays}
use Rattle.pt_causality.specs.Cells.{delay_row_at}
use Rattle.pt_causality.proofs.Numbering.{few_groups}
use Rattle.pt_causality.proofs.Paths.{source_below, target_below, arcs_fit, are_least}
use Rattle.pt_causality.proofs.least.Least.new.Goals as goal

pub arcs_by_unit-requires : goal.arcs_by_unit-requires
arcs_by_unit-requires c =
    let same = c.as_slice.ensures.value ∙ c.in_ok-wires.ensures in
    record {
      groups = λ a. let few = few_groups c.args.graph.now a c.requires.lawful in omega (arith, few);
      count = let few = c.in_ok-numbers.ensures.numbered.few in omega (arith, few);
      sources = λ e there. source_below c.args.graph.now c.requires.lawful c.in_ok-numbers.numbers c.in_ok-numbers.ensures.numbered e (subst (IsIn e) same there);
      targets = λ e there. target_below c.args.graph.now c.requires.lawful c.in_ok-numbers.numbers c.in_ok-numbers.ensures.numbered e (subst (IsIn e) same there);
    }

-- what leaves each unit, in terms of the graph's wires
leave : (g : Graph) (firsts : List ℕ) (count : ℕ) (arcs : List (List Arc)) (slice all : List Edge) → slice ≡ all → all ≡ wires g
    → ((j : ℕ) → j < count → arcs_from arcs j ≡ map (arc_of g firsts) (filter (leaves_place g firsts j) slice))
    → (j : ℕ) → j < count → arcs_from arcs j ≡ map (arc_of g firsts) (filter (leaves_place g firsts j) (wires g))
leave g firsts count arcs slice all same is each j less = each j less ∙ ap (λ es. map (arc_of g firsts) (filter (leaves_place g firsts j) es)) (same ∙ is)

pub all_rows-requires-clause-fit : goal.all_rows-requires-clause-fit
all_rows-requires-clause-fit c =
    subst AreFit (sym c.as_slice-2.ensures.value)
    (arcs_fit c.args.graph.now c.requires.lawful c.in_ok-numbers.numbers c.in_ok-numbers.ensures.numbered c.in_ok-arcs.arcs.items c.in_ok-arcs.ensures.len (leave c.args.graph.now c.in_ok-numbers.numbers.firsts.items c.in_ok-numbers.numbers.count c.in_ok-arcs.arcs.items c.as_slice.result.now c.in_ok-wires.wires.items c.as_slice.ensures.value c.in_ok-wires.ensures c.in_ok-arcs.ensures.arcs))

pub returns-clause-least : goal.returns-clause-least
returns-clause-least c =
    are_least c.args.graph.now c.requires.lawful c.in_ok-numbers.numbers c.in_ok-numbers.ensures.numbered c.in_ok-arcs.arcs.items c.in_ok-arcs.ensures.len (leave c.args.graph.now c.in_ok-numbers.numbers.firsts.items c.in_ok-numbers.numbers.count c.in_ok-arcs.arcs.items c.as_slice.result.now c.in_ok-wires.wires.items c.as_slice.ensures.value c.in_ok-wires.ensures c.in_ok-arcs.ensures.arcs)
    c.in_ok-rows.rows.items
    (subst (λ arcs. (s : ℕ) → s < length arcs → HasLeastDelays arcs s (delay_row_at c.in_ok-rows.rows.items s)) c.as_slice-2.ensures.value c.in_ok-rows.ensures.rows)
