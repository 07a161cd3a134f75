use Rattle.std.proofs.Common.{◌≡◌, ℕ, ◌<◌, ◌++◌, [], List, length, sym, ap, subst, ◌∙◌, arith, append-nil}
use Rattle.pt_semantics.specs.Entering.{all_due}
use Rattle.pt_semantics.specs.Meaning.{Values, added}
use Rattle.pt_semantics.specs.Platform.{State}
use Rattle.pt_semantics.specs.Safe.{NothingSafe}
use Rattle.pt_queue.specs.Events.{waiting_in}
use Rattle.pt_turn.specs.declared.state.fields.OpenClaim.{OpenClaim}
use Rattle.pt_turn.specs.Fields.State.{busy_in, left_in, state_of}
use Rattle.pt_turn.specs.Steps.{NoneSeenBefore}
use Rattle.pt_turn.proofs.Enters.Due.{NoneDueOf, none_safe_entered}
use Rattle.pt_turn.proofs.Enters.Sensors.{all_due_is, brought, due_rows}
use Rattle.pt_turn.proofs.NoRows.{none_due, rows_stay}
use Rattle.pt_turn.proofs.enter.next_row.enter_from.Goals as goal

pub returns-then-reading-next_row-clause-entered : goal.returns-then-reading-next_row-clause-entered
returns-then-reading-next_row-clause-entered c = λ taken. sym (rows_stay (state_of c.args.fields.now taken) c.args.reading (λ a. c.requires.next_row c.args.reading a c.if-reading-next_row.true))

pub returns-then-reading-next_row-clause-rows : goal.returns-then-reading-next_row-clause-rows
returns-then-reading-next_row-clause-rows c =
    let none : all_due c.args.graph.now c.args.reading (left_in c.args.fields.now.sensors.items) ≡ [] = none_due c.args.graph.now c.args.reading (left_in c.args.fields.now.sensors.items) (λ a. c.requires.next_row c.args.reading a c.if-reading-next_row.true) in
    sym (ap (λ z. c.args.kept.now.items ++ z) none ∙ append-nil c.args.kept.now.items)

pub returns-then-reading-next_row-clause-events : goal.returns-then-reading-next_row-clause-events
returns-then-reading-next_row-clause-events c =
    let none : length (all_due c.args.graph.now c.args.reading (left_in c.args.fields.now.sensors.items)) ≡ 0 = ap length (none_due c.args.graph.now c.args.reading (left_in c.args.fields.now.sensors.items) (λ a. c.requires.next_row c.args.reading a c.if-reading-next_row.true)) in
    omega (arith, none)

pub returns-clause-sound : goal.returns-clause-sound
returns-clause-sound c =
    let g = c.args.graph.now in
    let sensors = c.args.fields.now.sensors.items in
    let is = c.enter.ensures.sound in
    let waits : waiting_in c.enter.new.fields.queue.events ≡ added (waiting_in c.args.fields.now.queue.events) (brought c.args.reading sensors) = ap (λ (s : State). s.waits) (c.enter.ensures.entered []) in
    let rows : c.as_slice.result.now ≡ c.args.kept.now.items ++ due_rows c.args.reading sensors = c.as_slice.ensures.value ∙ c.enter.ensures.rows ∙ ap (λ z. c.args.kept.now.items ++ z) (all_due_is g c.args.reading sensors c.requires.sensors.0 c.requires.sensors.1) in
    let none = none_safe_entered g c.args.offsets.now (waiting_in c.args.fields.now.queue.events) (busy_in c.args.fields.now.open_claims.items) c.args.reading sensors c.args.kept.now.items c.args.fields.now.none_safe_before c.none_safe_with-fields.result c.requires.offsets c.requires.sound.none_safe c.none_safe_with-fields.ensures.no_later
    (subst (λ z. NoneDueOf c.args.offsets.now z c.none_safe_with-fields.result) rows c.none_safe_with-fields.ensures.due) in
    record {
      groups = is.groups;
      states = is.states;
      open_claims = is.open_claims;
      links = is.links;
      at_units = is.at_units;
      none_safe = subst (λ (v : List OpenClaim). (q : ℕ) → q < c.none_safe_with-fields.result → NothingSafe g (waiting_in c.enter.new.fields.queue.events) (busy_in v) q) (ap (λ v. v.items) (sym c.enter.ensures.frame.0))
          (subst (λ (w : Values). (q : ℕ) → q < c.none_safe_with-fields.result → NothingSafe g w (busy_in c.args.fields.now.open_claims.items) q) (sym waits) none);
    }

pub returns-clause-next_row : goal.returns-clause-next_row
returns-clause-next_row c = subst (λ xs. NoneSeenBefore c.next_seen.result (left_in xs)) c.as_slice-2.ensures.value c.next_seen.ensures
