use Rattle.std.proofs.Common.{◌≡◌, ◌≤◌, [], None, List, length, refl, ap, subst, sym, ◌∙◌, arith}
use Rattle.std.specs.Arc.{arc_value}
use Rattle.pt_types.specs.declared.graph.Graph.{Graph}
use Rattle.pt_semantics.specs.Paced.{IsClosing}
use Rattle.pt_semantics.specs.Platform.{opened}
use Rattle.pt_semantics.specs.Rows.{FitRows}
use Rattle.pt_semantics.specs.Turn.{Turn}
use Rattle.pt_causality.specs.Ranked.{level_of}
use Rattle.pt_offsets.specs.Plans.{IsAdmitted, Parts}
use Rattle.pt_turn.specs.Fields.Sensors.{AreSensors}
use Rattle.pt_turn.specs.Fields.State.{rows_at_sensors, state_of, IsSound}
use Rattle.pt_turn.specs.Platforms.{messages_of}
use Rattle.pt_turn.specs.Running.{Ran}
use Rattle.pt_turn.specs.TakenEnds.{MarksEnds}
use Rattle.pt_turn.proofs.Rooms.{no_room}
use Rattle.pt_turn.proofs.platform.Platform.open.Goals as goal

pub invariant_of-result : goal.invariant_of-result
invariant_of-result c =
    let f = c.in_ok-fields.fields in
    let e = c.in_ok-fields.ensures in
    let plan : c.deref.result.now ≡ arc_value c.args.plan = c.deref.ensures in
    let none : length f.outbox.items ≡ 0 = ap length e.outbox in
    let turns : c.new.result.turns ≡ [] = c.new.ensures.turns in
    let start : state_of f [] ≡ opened (arc_value c.args.plan).graph c.args.platform (rows_at_sensors f.sensors.items) = subst (λ (z : Parts). state_of f [] ≡ opened z.graph c.args.platform (rows_at_sensors f.sensors.items)) plan e.opened in
    record {
      admitted = subst IsAdmitted plan e.admitted;
      sound = subst (λ (z : Parts). IsSound z.graph f) plan e.sound;
      sensors = subst (λ (z : Parts). AreSensors z.graph f.sensors.items) plan e.sensors;
      fit = subst (λ (z : Parts). FitRows z.graph (rows_at_sensors f.sensors.items)) plan e.fit;
      closing = subst (λ (z : Parts). IsClosing z.graph c.args.platform c.closing_reading-closing.result) c.deref-2.ensures c.closing_reading-closing.ensures;
      claims = subst (λ n. n ≤ (arc_value c.args.plan).graph.claims) (sym e.claims) (omega arith);
      ran = subst (λ (ts : List Turn). Ran (arc_value c.args.plan).graph (level_of (arc_value c.args.plan).ranks) c.args.platform (rows_at_sensors f.sensors.items) ts (state_of f (messages_of ts)) None) (sym turns) (record {
        all = [];
        single = tt;
        are_kept = refl;
        leads = start;
        read = e.reading;
      });
      ended = subst (λ (ts : List Turn). MarksEnds (length (arc_value c.args.plan).graph.links) c.in_ok-ended.ended (messages_of ts)) (sym turns)
          (subst (λ n. MarksEnds n c.in_ok-ended.ended []) (ap length (c.as_slice.ensures ∙ ap (λ (g : Graph). g.links) c.graph.ensures.value ∙ ap (λ (z : Parts). z.graph.links) c.deref-3.ensures)) c.in_ok-ended.ensures);
      empty = record { posted = c.new-2.ensures.items; rows = c.new-3.ensures.items; taken = c.new-4.ensures.items; claimed = c.new-5.ensures.items };
      sent = omega (arith, none);
      room = no_room _ c.none-2.result c.none-2.ensures;
      next = tt;
      next_row = λ r a lt. absurd (omega (arith, lt));
    }
