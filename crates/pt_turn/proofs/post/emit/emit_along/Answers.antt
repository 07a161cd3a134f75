use Rattle.std.proofs.Common.{◌≡◌, ap, sym, subst, ◌∙◌}
use Rattle.pt_semantics.specs.Edges.{weight, of_wire}
use Rattle.pt_types.specs.Lookups.{kind_of}
use Rattle.pt_semantics.specs.Units.{leaves_unit}
use Rattle.pt_types.specs.Groups.{output_group}
use Rattle.std.proofs.lemmas.Bool.{false≢true}
use Rattle.pt_types.specs.Ports.{at_port}
use Rattle.pt_semantics.specs.Meaning.{added}
use Rattle.pt_semantics.specs.Floor.{NothingThere}
use Rattle.pt_queue.specs.Events.{waiting_in}
use Rattle.pt_turn.specs.Posts.Sent.{sent}
use Rattle.pt_turn.proofs.Posts.Going.{kind_read, leaves_yes, all_along}
use Rattle.pt_turn.proofs.post.emit.emit_along.Goals as goal

pub send_one-requires-clause-absent : goal.send_one-requires-clause-absent
send_one-requires-clause-absent c =
    let kind = ap (λ a. a.kind) (sym c.index-as_slice-wire.is) ∙ kind_read c.args.graph.now c.as_slice.result.now c.args.wire.from c.index-as_slice-wire.result c.as_slice.ensures c.requires.from c.index-as_slice-wire.is in
    let delay : c.weight-delay.result ≡ weight (kind_of c.args.graph.now c.args.wire.from) c.args.wire.output = c.weight-delay.ensures ∙ ap (λ k. weight k c.args.wire.output) kind in
    let leaves : leaves_unit c.args.graph.now c.args.unit (of_wire c.args.graph.now c.args.wire) ≡ _ = leaves_yes c.args.graph.now c.args.unit c.args.wire c.output_group.result c.if-wire-unit.false (c.output_group.ensures ∙ ap (λ k. output_group k c.args.wire.output) kind) c.if-output_group-unit.false in
    subst (NothingThere (waiting_in c.args.queue.now.events))
    (all_along c.args.graph.now c.args.unit c.args.tag c.args.outputs.now c.args.wire (waiting_in c.args.queue.now.events) leaves ∙ ap (λ d. sent c.args.wire d c.args.graph.now.until c.args.tag (at_port c.args.outputs.now c.args.wire.output)) (sym delay) ∙ ap (sent c.args.wire c.weight-delay.result c.args.graph.now.until c.args.tag) (sym c.get.ensures))
    c.requires.absent

pub returns-clause-waits : goal.returns-clause-waits
returns-clause-waits c =
    let kind = ap (λ a. a.kind) (sym c.index-as_slice-wire.is) ∙ kind_read c.args.graph.now c.as_slice.result.now c.args.wire.from c.index-as_slice-wire.result c.as_slice.ensures c.requires.from c.index-as_slice-wire.is in
    let delay : c.weight-delay.result ≡ weight (kind_of c.args.graph.now c.args.wire.from) c.args.wire.output = c.weight-delay.ensures ∙ ap (λ k. weight k c.args.wire.output) kind in
    let leaves : leaves_unit c.args.graph.now c.args.unit (of_wire c.args.graph.now c.args.wire) ≡ _ = leaves_yes c.args.graph.now c.args.unit c.args.wire c.output_group.result c.if-wire-unit.false (c.output_group.ensures ∙ ap (λ k. output_group k c.args.wire.output) kind) c.if-output_group-unit.false in
    c.send_one.ensures.waits
    ∙ ap (added (waiting_in c.args.queue.now.events))
    (ap (sent c.args.wire c.weight-delay.result c.args.graph.now.until c.args.tag) c.get.ensures
    ∙ ap (λ d. sent c.args.wire d c.args.graph.now.until c.args.tag (at_port c.args.outputs.now c.args.wire.output)) delay
    ∙ sym (all_along c.args.graph.now c.args.unit c.args.tag c.args.outputs.now c.args.wire (waiting_in c.args.queue.now.events) leaves))

pub send_one-requires-clause-spare : goal.send_one-requires-clause-spare
send_one-requires-clause-spare c =
    let kind = ap (λ a. a.kind) (sym c.index-as_slice-wire.is) ∙ kind_read c.args.graph.now c.as_slice.result.now c.args.wire.from c.index-as_slice-wire.result c.as_slice.ensures c.requires.from c.index-as_slice-wire.is in
    let delay : c.weight-delay.result ≡ weight (kind_of c.args.graph.now c.args.wire.from) c.args.wire.output = c.weight-delay.ensures ∙ ap (λ k. weight k c.args.wire.output) kind in
    let leaves : leaves_unit c.args.graph.now c.args.unit (of_wire c.args.graph.now c.args.wire) ≡ _ = leaves_yes c.args.graph.now c.args.unit c.args.wire c.output_group.result c.if-wire-unit.false (c.output_group.ensures ∙ ap (λ k. output_group k c.args.wire.output) kind) c.if-output_group-unit.false in
    c.requires.spare leaves

pub returns-clause-idle : goal.returns-clause-idle
returns-clause-idle c = λ off.
    let kind = ap (λ a. a.kind) (sym c.index-as_slice-wire.is) ∙ kind_read c.args.graph.now c.as_slice.result.now c.args.wire.from c.index-as_slice-wire.result c.as_slice.ensures c.requires.from c.index-as_slice-wire.is in
    let delay : c.weight-delay.result ≡ weight (kind_of c.args.graph.now c.args.wire.from) c.args.wire.output = c.weight-delay.ensures ∙ ap (λ k. weight k c.args.wire.output) kind in
    let leaves : leaves_unit c.args.graph.now c.args.unit (of_wire c.args.graph.now c.args.wire) ≡ _ = leaves_yes c.args.graph.now c.args.unit c.args.wire c.output_group.result c.if-wire-unit.false (c.output_group.ensures ∙ ap (λ k. output_group k c.args.wire.output) kind) c.if-output_group-unit.false in
    absurd (false≢true (sym off ∙ leaves))
