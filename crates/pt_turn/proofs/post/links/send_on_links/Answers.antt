use Rattle.std.proofs.Common.{◌++◌, ◌<◌, length, get_or, slice_get, take, ap, ap₂, sym, subst, ◌∙◌, arith, append_assoc, add-one}
use Rattle.pt_types.specs.declared.graph.Link.{Link}
use Rattle.pt_semantics.specs.Closing.{on_link}
use Rattle.pt_semantics.specs.Posting.{message_from}
use Rattle.pt_types.specs.Ports.{at_port}
use Rattle.pt_turn.specs.Posts.Sent.{sent_on}
use Rattle.pt_turn.proofs.Posts.Going.{more_link}
use Rattle.pt_turn.proofs.post.links.send_on_links.Goals as goal

abbrev none_link : Link
none_link = record { from = 0; to = 0; delay = 0 }

pub loop-l-preserved : goal.loop-l-preserved
loop-l-preserved c = record {
  sent = λ k.
      let lt : c.loop-l.l < length c.args.graph.now.links = subst (λ ls. c.loop-l.l < length ls) c.as_slice-links.ensures c.loop-l-test.true in
      c.send_on.ensures.sent k
      ∙ ap (λ o. on_link k c.loop-l.outbox.items ++ sent_on k c.loop-l.l (get_or c.as_slice-links.result.now c.loop-l.l none_link) c.args.actor c.args.tag o) c.get.ensures
      ∙ ap₂ (λ x link. x ++ sent_on k c.loop-l.l link c.args.actor c.args.tag (at_port c.args.outputs.now 0)) (c.loop-l.invariant.sent k) (ap (λ ls. get_or ls c.loop-l.l none_link) c.as_slice-links.ensures)
      ∙ append_assoc (on_link k c.args.outbox.now.items) _ _
      ∙ ap (λ r. on_link k c.args.outbox.now.items ++ r) (sym (more_link c.args.graph.now.links c.loop-l.l k c.args.actor c.args.tag c.args.outputs.now none_link lt) ∙ ap (λ n. message_from (slice_get (take n c.args.graph.now.links) k) c.args.actor c.args.tag c.args.outputs.now) (sym (add-one c.loop-l.l)));
  links = c.send_on.ensures.links ∙ c.loop-l.invariant.links;
  spare = omega (arith, c.send_on.ensures.spare, c.loop-l.invariant.spare);
  len = omega (arith, c.send_on.ensures.len, c.loop-l.invariant.len);
}
