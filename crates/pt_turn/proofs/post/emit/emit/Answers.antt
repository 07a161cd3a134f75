use Rattle.std.proofs.Common.{◌≡◌, true, false, ◌+◌, ◌<◌, ◌≤◌, length, take, refl, ap₂, ap, sym, subst, ◌∙◌, get_or, arith}
use Rattle.std.proofs.lemmas.Grind.{get_or_default_zero}
use Rattle.std.proofs.lemmas.Option.{slice_get-get_or}
use Rattle.pt_causality.specs.Branches.{IsNextWire}
use Rattle.pt_turn.specs.Posts.Room.{leaving}
use Rattle.pt_turn.proofs.Posts.Skipping.{leaving_on, nothing_goes, skipped}
use Rattle.pt_types.specs.declared.graph.Wire.{Wire}
use Rattle.pt_semantics.specs.Meaning.{added}
use Rattle.pt_semantics.specs.Floor.{NothingThere}
use Rattle.pt_queue.specs.Events.{waiting_in}
use Rattle.pt_turn.specs.Posts.Sent.{along}
use Rattle.pt_semantics.specs.Edges.{of_wire}
use Rattle.pt_semantics.specs.Units.{leaves_unit}
use Rattle.pt_turn.proofs.Posts.Counted.{room_left, spare_more}
use Rattle.pt_turn.proofs.Posts.Going.{along_absent, going_more}
use Rattle.pt_causality.proofs.Branching.{wire_in, wire_among}
use Rattle.pt_turn.proofs.post.emit.emit.Goals as goal

abbrev none_wire : Wire
none_wire = record { from = 0; output = 0; to = 0; input = 0 }

pub emit_along-requires-clause-absent : goal.emit_along-requires-clause-absent
emit_along-requires-clause-absent c =
    subst (λ ws. NothingThere (waiting_in c.branches.queue.events) (along c.args.graph.now c.args.unit c.args.tag c.args.outputs.now (get_or ws c.branches.place none_wire))) (sym c.as_slice-wires.ensures)
    (along_absent c.args.graph.now c.args.unit c.args.tag c.args.outputs.now c.branches.place none_wire (waiting_in c.args.queue.now.events) (waiting_in c.branches.queue.events) c.requires.wired (subst (λ ws. c.branches.place < length ws) c.as_slice-wires.ensures c.branches-test.true) c.requires.absent c.branches.invariant.waits)

pub branches-init : goal.branches-init
branches-init c =
    let g = c.args.graph.now in
    let place : c.index-place.result.now ≡ get_or c.args.branches.now.first.items c.args.unit.actor 0 = c.index-place.ensures ∙ get_or_default_zero c.args.branches.now.first.items c.args.unit.actor c.index-place.result.now (subst (λ n. c.args.unit.actor < n) (sym c.requires.branches.actors) c.requires.actor) in
    let next : IsNextWire g.wires c.args.unit.actor 0 c.index-place.result.now = subst (IsNextWire g.wires c.args.unit.actor 0) (sym place) (c.requires.branches.first c.args.unit.actor c.requires.actor) in
    record {
      waits = sym (skipped g c.args.unit g.wires 0 c.index-place.result.now c.args.tag c.args.outputs.now none_wire (waiting_in c.args.queue.now.events) next.later next.none ∙ nothing_goes g c.args.unit c.args.tag c.args.outputs.now (waiting_in c.args.queue.now.events));
      groups = refl;
      spare = omega arith;
      is = next.is;
    }

pub branches-smaller : goal.branches-smaller
branches-smaller c =
    let g = c.args.graph.now in
    let lt : c.branches.place < length g.wires = subst (λ ws. c.branches.place < length ws) c.as_slice-wires.ensures c.branches-test.true in
    let place : c.index-place-in-branches.result.now ≡ get_or c.args.branches.now.next.items c.branches.place 0 = c.index-place-in-branches.ensures ∙ get_or_default_zero c.args.branches.now.next.items c.branches.place c.index-place-in-branches.result.now (subst (λ n. c.branches.place < n) (sym c.requires.branches.wires) lt) in
    let next = c.requires.branches.next c.branches.place (get_or g.wires c.branches.place none_wire) (slice_get-get_or g.wires c.branches.place none_wire lt) in
    let later : c.branches.place + 1 ≤ get_or c.args.branches.now.next.items c.branches.place 0 = next.later in
    omega (arith, later, place, lt)

pub branches-preserved : goal.branches-preserved
branches-preserved c =
    let g = c.args.graph.now in
    let lt : c.branches.place < length g.wires = subst (λ ws. c.branches.place < length ws) c.as_slice-wires.ensures c.branches-test.true in
    let place : c.index-place-in-branches.result.now ≡ get_or c.args.branches.now.next.items c.branches.place 0 = c.index-place-in-branches.ensures ∙ get_or_default_zero c.args.branches.now.next.items c.branches.place c.index-place-in-branches.result.now (subst (λ n. c.branches.place < n) (sym c.requires.branches.wires) lt) in
    let w : Wire = get_or g.wires c.branches.place none_wire in
    let at = slice_get-get_or g.wires c.branches.place none_wire lt in
    let from : w.from ≡ c.args.unit.actor = c.branches.invariant.is w at in
    let next : IsNextWire g.wires c.args.unit.actor (c.branches.place + 1) c.index-place-in-branches.result.now = subst (IsNextWire g.wires c.args.unit.actor (c.branches.place + 1)) (sym place) (subst (λ a. IsNextWire g.wires a (c.branches.place + 1) (get_or c.args.branches.now.next.items c.branches.place 0)) from (c.requires.branches.next c.branches.place w at)) in
    let spare : c.args.queue.now.spare ≤ c.emit_along.new.queue.spare + leaving g c.args.unit (take (c.branches.place + 1) g.wires) =
    spare_more g c.args.unit g.wires c.branches.place c.args.queue.now.spare c.branches.queue.spare c.emit_along.new.queue.spare none_wire
    lt c.branches.invariant.spare c.emit_along.ensures.spare
    (λ off. c.emit_along.ensures.idle (subst (λ ws. leaves_unit g c.args.unit (of_wire g (get_or ws c.branches.place none_wire)) ≡ false) (sym c.as_slice-wires.ensures) off)) in
    let more : leaving g c.args.unit (take (c.branches.place + 1) g.wires) ≤ leaving g c.args.unit (take c.index-place-in-branches.result.now g.wires) = leaving_on g c.args.unit g.wires (c.branches.place + 1) c.index-place-in-branches.result.now next.later in
    record {
      waits = c.emit_along.ensures.waits
          ∙ ap₂ (λ v x. added v (along g c.args.unit c.args.tag c.args.outputs.now x)) c.branches.invariant.waits (ap (λ ws. get_or ws c.branches.place none_wire) c.as_slice-wires.ensures)
          ∙ sym (going_more g c.args.unit g.wires c.branches.place c.args.tag c.args.outputs.now none_wire (waiting_in c.args.queue.now.events) lt)
          ∙ sym (skipped g c.args.unit g.wires (c.branches.place + 1) c.index-place-in-branches.result.now c.args.tag c.args.outputs.now none_wire (waiting_in c.args.queue.now.events) next.later next.none);
      groups = c.emit_along.ensures.groups ∙ c.branches.invariant.groups;
      spare = omega (arith, spare, more);
      is = next.is;
    }

pub emit_along-requires-clause-from : goal.emit_along-requires-clause-from
emit_along-requires-clause-from c = (c.requires.wired.ends _ (wire_in c.args.graph.now c.as_slice-wires.result.now c.branches.place none_wire c.as_slice-wires.ensures c.branches-test.true)).0

pub emit_along-requires-clause-actor : goal.emit_along-requires-clause-actor
emit_along-requires-clause-actor c =
    subst (λ n. (get_or c.as_slice-wires.result.now c.branches.place none_wire).to < n) (sym (ap (λ t. length t) c.branches.invariant.groups ∙ c.requires.groups.len)) (c.requires.wired.ends _ (wire_in c.args.graph.now c.as_slice-wires.result.now c.branches.place none_wire c.as_slice-wires.ensures c.branches-test.true)).1

pub emit_along-requires-clause-port : goal.emit_along-requires-clause-port
emit_along-requires-clause-port c = c.requires.wired.ports _ (wire_in c.args.graph.now c.as_slice-wires.result.now c.branches.place none_wire c.as_slice-wires.ensures c.branches-test.true)

pub emit_along-requires-clause-fits : goal.emit_along-requires-clause-fits
emit_along-requires-clause-fits c = λ from. c.requires.fits _ (wire_among c.args.graph.now c.as_slice-wires.result.now c.branches.place none_wire c.as_slice-wires.ensures c.branches-test.true) from

pub emit_along-requires-clause-spare : goal.emit_along-requires-clause-spare
emit_along-requires-clause-spare c = λ on.
    room_left c.args.graph.now c.args.unit c.args.graph.now.wires c.branches.place c.branches.queue.spare c.args.queue.now.spare none_wire
    (subst (λ ws. c.branches.place < length ws) c.as_slice-wires.ensures c.branches-test.true)
    (subst (λ ws. leaves_unit c.args.graph.now c.args.unit (of_wire c.args.graph.now (get_or ws c.branches.place none_wire)) ≡ true) c.as_slice-wires.ensures on) c.requires.room c.branches.invariant.spare
