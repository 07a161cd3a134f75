use Rattle.std.proofs.Common.{◌<◌, ◌≤◌, ◌∙◌, sym, ap, length, rules, slice_get, option_map}
use Rattle.pt_types.specs.declared.firing.ActorFiring.{ActorFiring}
use Rattle.pt_meaning.proofs.Lists.{actor_at, get_past}
use Rattle.pt_meaning.proofs.firings.Firings.actor.Goals as goal

pub returns-then-number-len : goal.returns-then-number-len
returns-then-number-len c =
    let f = c.self.inside in
    let within : c.args.number < length c.self.inside.marks.items = search rules in
    actor_at f.tags.items f.places.items f.values.items f.marks.items c.args.number c.index.result.now within c.index.ensures
    ∙ ap (λ xs. option_map (λ (x : ActorFiring). x.actor) (slice_get xs c.args.number)) c.self.view_is

pub returns-else-number-len : goal.returns-else-number-len
returns-else-number-len c =
    let f = c.self.inside in
    let past : length c.self.inside.marks.items ≤ c.args.number = search rules in
    ap (option_map (λ (x : ActorFiring). x.actor)) (sym (get_past f.tags.items f.places.items f.values.items 0 f.marks.items c.args.number past) ∙ ap (λ xs. slice_get xs c.args.number) c.self.view_is)
