use Rattle.std.proofs.Common.{◌<◌, ◌/◌, Some, length, sym, subst, ◌∙◌, arith}
use Rattle.pt_queue.proofs.Floors.{floors_more}
use Rattle.pt_queue.proofs.Marked.{put_marked}
use Rattle.pt_queue.proofs.Summing.{summed_set}
use Rattle.pt_queue.proofs.least_tags.LeastTags.fill.Goals as goal

pub invariant_of-self-2 : goal.invariant_of-self-2
invariant_of-self-2 c =
    let tags = c.self.inside.tags.items in
    let there : c.args.place < length tags = subst (λ ts. c.args.place < length ts) (sym c.self.view_is) c.requires in
    let few = c.self.invariant.0.few in
    let bit = c.set_bit.ensures in (
      put_marked tags c.self.inside.marks.items c.set_bit.new.words.items c.args.place (Some c.args.tag) c.self.invariant.0 there bit.here bit.others bit.len,
      summed_set c.set_bit.new.words.items c.self.inside.summary (c.args.place / 128) (omega (arith, there, few))
          (λ n ne one. c.self.invariant.1 n (sym (bit.others n (λ e. ne (omega (arith, e)))) ∙ one)),
      floors_more tags c.self.inside.times.items c.lower_time.new.times.items c.args.place c.args.tag c.self.invariant.2 there c.lower_time.ensures.here c.lower_time.ensures.all c.lower_time.ensures.len,
    )
