use Rattle.std.proofs.Common.{◌≡◌, ◌∙◌, ap, length, rules, ◌++◌, ◌∷◌, [], refl}
use Rattle.pt_meaning.specs.declared.firings.FiringEntry.{FiringEntry}
use Rattle.pt_meaning.specs.Flat.{cells_of_firing, cell_numbers_from, cell_values, StandsAt}
use Rattle.pt_meaning.proofs.Lists.{joins, stays_whole}
use Rattle.pt_meaning.proofs.firings.Firings.with.Goals as goal

pub invariant_of-result : goal.invariant_of-result
invariant_of-result c =
    let f = c.self.inside in let x = c.args.firing.now in
    let mark : FiringEntry = record { actor = x.actor; moment = c.in_ok-moment.moment; end = c.in_ok-end.end } in
    let stands : StandsAt c.in_ok-moment.moment c.args.firing.now.tag c.self.inside.tags.items c.moment_of.new.tags.items = search rules in
    let places : c.push_firing.new.places.items ≡ c.self.inside.places.items ++ cell_numbers_from 0 (cells_of_firing c.args.firing.now) = c.in_ok-push_firing.ensures.places in
    let values : c.push_firing.new.values.items ≡ c.self.inside.values.items ++ cell_values (cells_of_firing c.args.firing.now) = c.in_ok-push_firing.ensures.values in
    let marks : c.push.new.self.items ≡ c.self.inside.marks.items ++ mark ∷ [] = search rules in
    let counted : c.in_ok-end.end ≡ length c.push_firing.new.places.items = search rules in
    rw (places, values, marks) (stays_whole f.tags.items c.moment_of.new.tags.items f.places.items f.values.items f.marks.items mark x c.self.invariant stands (counted ∙ ap length places))

pub returns : goal.returns
returns c =
    let f = c.self.inside in let x = c.args.firing.now in
    let mark : FiringEntry = record { actor = x.actor; moment = c.in_ok-moment.moment; end = c.in_ok-end.end } in
    let stands : StandsAt c.in_ok-moment.moment c.args.firing.now.tag c.self.inside.tags.items c.moment_of.new.tags.items = search rules in
    let places : c.push_firing.new.places.items ≡ c.self.inside.places.items ++ cell_numbers_from 0 (cells_of_firing c.args.firing.now) = c.in_ok-push_firing.ensures.places in
    let values : c.push_firing.new.values.items ≡ c.self.inside.values.items ++ cell_values (cells_of_firing c.args.firing.now) = c.in_ok-push_firing.ensures.values in
    let marks : c.push.new.self.items ≡ c.self.inside.marks.items ++ mark ∷ [] = search rules in
    let counted : c.in_ok-end.end ≡ length c.push_firing.new.places.items = search rules in
    let ports = c.in_ok-push_firing.ensures.ports in
    rw (places, values, marks)
    (joins f.tags.items c.moment_of.new.tags.items f.places.items f.values.items f.marks.items mark x c.self.invariant ports.0 ports.1 refl stands (counted ∙ ap length places)
    ∙ ap (λ xs. xs ++ c.args.firing.now ∷ []) c.self.view_is)
