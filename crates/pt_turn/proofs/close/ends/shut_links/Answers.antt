use Rattle.std.proofs.Common.{List, ◌++◌, ◌<◌, length, get_or, slice_get, take, ap, ap₂, sym, subst, ◌∙◌, arith, append_assoc, add-one}
use Rattle.pt_types.specs.declared.graph.Link.{Link}
use Rattle.pt_types.specs.Lookups.{platform_of}
use Rattle.pt_semantics.specs.Closing.{on_link, end_for}
use Rattle.pt_turn.specs.Closes.Ends.{ended_on}
use Rattle.pt_turn.proofs.Closes.Ending.{more_end}
use Rattle.pt_turn.proofs.close.ends.shut_links.Goals as goal

abbrev none_link : Link
none_link = record { from = 0; to = 0; delay = 0 }

pub loop-l-preserved : goal.loop-l-preserved
loop-l-preserved c = record {
  ends = λ k.
      let lt : c.loop-l.l < length c.args.graph.now.links = subst (λ ls. c.loop-l.l < length ls) c.as_slice-links.ensures c.loop-l-test.true in
      c.end_on.ensures.ends k
      ∙ ap₂ (λ x from. x ++ ended_on k c.loop-l.l from c.args.number) (c.loop-l.invariant.ends k) (c.platform_of.ensures ∙ ap (λ (ls : List Link). platform_of c.args.graph.now (get_or ls c.loop-l.l none_link).from) c.as_slice-links.ensures)
      ∙ append_assoc (on_link k c.args.outbox.now.items) _ _
      ∙ ap (λ r. on_link k c.args.outbox.now.items ++ r) (sym (more_end c.args.graph.now c.args.number c.args.graph.now.links c.loop-l.l k none_link lt) ∙ ap (λ n. end_for c.args.graph.now c.args.number (slice_get (take n c.args.graph.now.links) k)) (sym (add-one c.loop-l.l)));
  links = c.end_on.ensures.links ∙ c.loop-l.invariant.links;
  spare = omega (arith, c.end_on.ensures.spare, c.loop-l.invariant.spare);
  len = omega (arith, c.end_on.ensures.len, c.loop-l.invariant.len);
}
