use Rattle.std.proofs.Common.{◌≡◌, ◌∙◌, List, ap, length, map, subst, sym}
use Rattle.std.proofs.lemmas.Result.{err_from_is_err_and}
use Rattle.pt_types.specs.declared.graph.Edge.{Edge}
use Rattle.pt_types.specs.declared.graph.Graph.{Graph}
use Rattle.pt_semantics.specs.Edges.{edges}
use Rattle.pt_causality.specs.declared.places.SearchState.{SearchState}
use Rattle.pt_causality.specs.Incoming.{AreIncoming}
use Rattle.pt_causality.proofs.Found.{are_joined, cycle_found, few_lists, levels_are, ranks_are}
use Rattle.pt_causality.proofs.ranked.ranks_of.Goals as goal

lists : (g : Graph) (slice items : List (List Edge)) → slice ≡ items → AreIncoming (edges g) (length g.actors) items → AreIncoming (edges g) (length g.actors) slice
lists g slice items same are = subst (λ (ls : List (List Edge)). AreIncoming (edges g) (length g.actors) ls) (sym same) are

pub visit_all-requires-clause-few : goal.visit_all-requires-clause-few
visit_all-requires-clause-few c = few_lists c.args.graph.now c.as_slice.result.now c.requires.lawful (lists c.args.graph.now c.as_slice.result.now c.in_ok-incoming.incoming.items c.as_slice.ensures.value c.in_ok-incoming.ensures)

pub visit_all-requires-clause-joined : goal.visit_all-requires-clause-joined
visit_all-requires-clause-joined c = are_joined c.args.graph.now c.as_slice.result.now c.requires.lawful (lists c.args.graph.now c.as_slice.result.now c.in_ok-incoming.incoming.items c.as_slice.ensures.value c.in_ok-incoming.ensures)

pub returns-in_err-places-clause-cycle : goal.returns-in_err-places-clause-cycle
returns-in_err-places-clause-cycle c =
    let p = err_from_is_err_and c.from_residual-in_err-places.result c.from_residual-in_err-places.ensures.1 in
    rw (p.1, p.2)
    (cycle_found c.args.graph.now c.as_slice.result.now (lists c.args.graph.now c.as_slice.result.now c.in_ok-incoming.incoming.items c.as_slice.ensures.value c.in_ok-incoming.ensures) _ c.in_err-places.ensures.ring)

pub returns-clause-ranks : goal.returns-clause-ranks
returns-clause-ranks c =
    ranks_are c.args.graph.now c.as_slice.result.now c.in_ok-places.places.items c.in_ok-ranks_at.field-0.ranks c.requires.lawful
    (lists c.args.graph.now c.as_slice.result.now c.in_ok-incoming.incoming.items c.as_slice.ensures.value c.in_ok-incoming.ensures) c.in_ok-places.ensures.done
    (c.in_ok-ranks_at.ensures.ranks ∙ ap (λ (ps : List SearchState). map (λ (p : SearchState). p.rank) ps) c.as_slice-2.ensures.value)

pub returns-clause-levels : goal.returns-clause-levels
returns-clause-levels c =
    levels_are c.args.graph.now c.as_slice.result.now c.in_ok-places.places.items c.in_ok-ranks_at.field-0.levels c.requires.lawful
    (lists c.args.graph.now c.as_slice.result.now c.in_ok-incoming.incoming.items c.as_slice.ensures.value c.in_ok-incoming.ensures) c.in_ok-places.ensures.done
    (c.in_ok-ranks_at.ensures.levels ∙ ap (λ (ps : List SearchState). map (λ (p : SearchState). p.level) ps) c.as_slice-2.ensures.value)
