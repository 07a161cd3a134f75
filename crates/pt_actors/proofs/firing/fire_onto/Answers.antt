use Rattle.std.proofs.Common.{◌++◌, ◌∷◌, [], ap, ◌∙◌}
use Rattle.pt_actors.proofs.Onto.{onto}
use Rattle.pt_actors.proofs.firing.fire_onto.Goals as goal

pub returns : goal.returns
returns g c = onto c.args.kind.now c.args.task.now c.args.results.now.items c.push_reserved.new.self.items c.len-place.result c.new.result c.index_mut.result.now c.fire_done.new.done
    (c.push_reserved.ensures.items ∙ ap (λ items. items ++ c.new.result ∷ []) c.in_ok-reserve.ensures.items) (c.len-place.ensures ∙ c.args.results.now.ok.0) c.new.ensures c.index_mut.ensures.value c.fire_done.ensures.task c.fire_done.ensures.fired
