use Rattle.std.proofs.Common.{◌≡◌, ◌≤◌, ◌/◌, slice_index_or, Some, ap, ◌∙◌, subst}
use Rattle.pt_tags.specs.declared.tag.Tag.{Tag}
use Rattle.pt_types.specs.declared.graph.Unit.{Unit}
use Rattle.pt_queue.specs.Events.{unit_place}
use Rattle.pt_queue.specs.Tagged.{tag_in}
use Rattle.pt_queue.proofs.Floors.{floor_below}
use Rattle.pt_queue.proofs.least_tags.LeastTags.not_before.Goals as goal

pub returns : goal.returns
returns c = subst (λ ts. (u : Unit) (t : Tag) → tag_in ts u ≡ Some t → unit_place u / 64 ≡ c.args.word → c.word_at.result ≤ t.time) c.self.view_is
    (floor_below c.self.inside.tags.items c.self.inside.times.items c.args.word c.word_at.result c.self.invariant.2 (c.word_at.ensures ∙ ap (λ ts. slice_index_or ts c.args.word 0) c.as_slice.ensures.value))
