use Rattle.std.proofs.Common.{◌≡◌, ◌∙◌, ap, length, rules, ◌++◌, ◌∷◌, []}
use Rattle.std.proofs.lemmas.Result.{IfOk-weaker}
use Rattle.pt_meaning.specs.Flat.{cells_of_firing, cell_numbers_from, cell_values}
use Rattle.pt_meaning.proofs.Filling.{joined_places, joined_values}
use Rattle.pt_meaning.proofs.cells.push_firing.Goals as goal

pub returns-clause-places : goal.returns-clause-places
returns-clause-places c =
    let inputs : length c.values-inputs.result ≡ 8 = search rules in
    let outputs : length c.values-outputs.result ≡ 8 = search rules in
    let cells : c.values-inputs.result ++ (c.values-outputs.result ++ (c.nonzero.result ∷ c.nonzero-2.result ∷ [])) ≡ cells_of_firing c.args.firing.now = search rules in
    IfOk-weaker c.push_cells-3.result _ _ (λ u h.
    joined_places c.args.places.now.items c.push_cells.new.places.items c.push_cells-2.new.places.items c.push_cells-3.new.places.items c.values-inputs.result c.values-outputs.result (c.nonzero.result ∷ c.nonzero-2.result ∷ [])
    inputs outputs c.in_ok-push_cells.ensures.places c.in_ok-push_cells-2.ensures.places h
    ∙ ap (λ xs. c.args.places.now.items ++ cell_numbers_from 0 xs) cells) c.push_cells-3.ensures.places

pub returns-clause-values : goal.returns-clause-values
returns-clause-values c =
    let cells : c.values-inputs.result ++ (c.values-outputs.result ++ (c.nonzero.result ∷ c.nonzero-2.result ∷ [])) ≡ cells_of_firing c.args.firing.now = search rules in
    IfOk-weaker c.push_cells-3.result _ _ (λ u h.
    joined_values c.args.values.now.items c.push_cells.new.values.items c.push_cells-2.new.values.items c.push_cells-3.new.values.items c.values-inputs.result c.values-outputs.result (c.nonzero.result ∷ c.nonzero-2.result ∷ [])
    c.in_ok-push_cells.ensures.values c.in_ok-push_cells-2.ensures.values h
    ∙ ap (λ xs. c.args.values.now.items ++ cell_values xs) cells) c.push_cells-3.ensures.values
