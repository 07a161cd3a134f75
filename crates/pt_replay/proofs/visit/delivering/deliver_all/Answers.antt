use Rattle.std.proofs.Common.{◌≡◌, ◌+◌, ◌<◌, Some, List, [], length, get_or, set, subst, sym, ap, ◌∙◌, arith}
use Rattle.std.specs.Prelude.{slice_get}
use Rattle.std.proofs.lemmas.Option.{slice_get-get_or}
use Rattle.pt_types.specs.declared.graph.Link.{Link}
use Rattle.pt_types.specs.Lookups.{platform_of}
use Rattle.pt_semantics.specs.Arrivals.{AirwayView}
use Rattle.pt_replay.proofs.Visits.Moving.{DeliversTo, one_delivered, one_waits}
use Rattle.pt_replay.proofs.visit.delivering.deliver_all.Goals as goal
use Rattle.pt_replay.proofs.visit.delivering.deliver_all.Goals.{then-platform_of-number, else-platform_of-number}

abbrev no_link : Link
no_link = record { from = 0; to = 0; delay = 0 }

abbrev no_airway : AirwayView
no_airway = record { on_way = []; latest = 0; events = 0 }

pub loop-l-preserved : goal.loop-l-preserved
loop-l-preserved c =
    let below : c.loop-l.l < length c.args.graph.now.links = omega (arith, ap length c.as_slice-links.ensures) in
    let at : slice_get c.args.graph.now.links c.loop-l.l ≡ Some (get_or c.args.graph.now.links c.loop-l.l no_link) = slice_get-get_or c.args.graph.now.links c.loop-l.l no_link below in
    let platform : c.platform_of.result ≡ platform_of c.args.graph.now (get_or c.args.graph.now.links c.loop-l.l no_link).to = c.platform_of.ensures ∙ ap (λ (xs : List Link). platform_of c.args.graph.now (get_or xs c.loop-l.l no_link).to) c.as_slice-links.ensures in
    elim c.if-platform_of-number.branch [
      | then-platform_of-number w ↦
          let delivered : DeliversTo c.args.graph.now c.args.number c.args.now (c.loop-l.l + 1) c.args.airways.now (set c.loop-l.airways c.loop-l.l w.deliver_from.new.airway) (set c.loop-l.pipes c.loop-l.l w.deliver_from.new.pipe) =
          one_delivered c.args.graph.now c.args.number c.args.now c.loop-l.l (get_or c.args.graph.now.links c.loop-l.l no_link) at below c.args.airways.now c.loop-l.airways c.loop-l.pipes w.index-airways-l.result w.index-pipes-l.result c.loop-l.invariant w.deliver_from.new.airway w.deliver_from.new.pipe (sym platform ∙ w.if-platform_of-number.true) w.deliver_from.ensures.pipe w.deliver_from.ensures.airway in
          subst (DeliversTo c.args.graph.now c.args.number c.args.now (c.loop-l.l + 1) c.args.airways.now c.if-platform_of-number.airways) (sym w.pipes-is)
          (subst (λ (airways : List AirwayView). DeliversTo c.args.graph.now c.args.number c.args.now (c.loop-l.l + 1) c.args.airways.now airways (set c.loop-l.pipes c.loop-l.l w.deliver_from.new.pipe)) (sym w.airways-is) delivered)
      | else-platform_of-number w ↦
          let waits : DeliversTo c.args.graph.now c.args.number c.args.now (c.loop-l.l + 1) c.args.airways.now c.loop-l.airways c.loop-l.pipes =
          one_waits c.args.graph.now c.args.number c.args.now c.loop-l.l (get_or c.args.graph.now.links c.loop-l.l no_link) at below c.args.airways.now c.loop-l.airways c.loop-l.pipes no_airway [] c.loop-l.invariant (λ same. w.if-platform_of-number.false (platform ∙ same)) in
          subst (DeliversTo c.args.graph.now c.args.number c.args.now (c.loop-l.l + 1) c.args.airways.now c.if-platform_of-number.airways) (sym w.pipes-is)
          (subst (λ (airways : List AirwayView). DeliversTo c.args.graph.now c.args.number c.args.now (c.loop-l.l + 1) c.args.airways.now airways c.loop-l.pipes) (sym w.airways-is) waits)
    ]
