use Rattle.std.proofs.Common.{◌≡◌, ℕ, ◌==◌, ◌+◌, ◌<◌, ◌≤◌, ◌++◌, ◌∷◌, [], true, false, List, length, get_or, set, drop, map, refl, sym, ap, ap₂, subst, ◌∙◌, ⊎_elim, arith, append_assoc, append-nil, eqb-true, get_or-set_same, get_or-set_other}
use Rattle.std.proofs.lemmas.Bool.{cases_Bool}
use Rattle.std.proofs.lemmas.Bool.Decides.{nat_tests}
use Rattle.std.proofs.lemmas.List.{drop_more, drop_all, get_or_read, length-append, length-map, length-set}
use Rattle.pt_types.specs.declared.rows.Row.{Row}
use Rattle.pt_semantics.specs.Closing.{on_link}
use Rattle.pt_semantics.specs.Entering.{due, not_due, all_due}
use Rattle.pt_semantics.specs.Floor.{NothingThere}
use Rattle.pt_semantics.specs.Lists.{Each}
use Rattle.pt_semantics.specs.Meaning.{Values, added}
use Rattle.pt_semantics.specs.Rows.{TimesRise}
use Rattle.pt_semantics.proofs.Lookups.{or_else_found}
use Rattle.pt_queue.specs.Events.{waiting_in}
use Rattle.pt_queue.specs.Groups.{AreGroups}
use Rattle.pt_turn.specs.declared.state.fields.Sensor.{Sensor}
use Rattle.pt_turn.specs.Fields.State.{busy_in, states_in, left_in, IsOpen}
use Rattle.pt_turn.specs.Fields.Sensors.{at_sensor, seen_at, IsSensor, RiseFrom}
use Rattle.pt_turn.proofs.Enters.Sensors.{AllEntered, Entered, brought, brought_more, brought_nil, brought_unit, due_of, due_rows, no_sensor, never_sensor, never_rest, rise_less, all_due_is, left_after, rows_after, rise_after, each_after}
use Rattle.pt_turn.proofs.enter.entering.enter.Goals as goal

pub loop-i-init : goal.loop-i-init
loop-i-init c =
    record {
      count = refl;
      before = λ k lt. absurd (omega (arith, lt));
      rest = λ k le. refl;
      rise = c.requires.sensors.0;
      each = c.requires.sensors.1;
      never = c.requires.never [];
      waits = refl;
      spare = refl;
      groups = refl;
      rows = refl;
      len = refl;
      capacity = omega arith;
      frame = (refl, refl, refl, refl, refl, refl);
    }

pub index-sensor-requires : goal.index-sensor-requires
index-sensor-requires c =
    let sensors : List Sensor = c.args.fields.now.sensors.items in
    let lt : c.loop-i.i < length sensors = omega (arith, c.loop-i-test.true, c.len-i-end.ensures, c.args.fields.now.sensors.ok.0) in
    let here : c.loop-i.i < length c.loop-i.fields.sensors.items = subst (λ n. c.loop-i.i < n) (sym c.loop-i.invariant.count) lt in
    omega (arith, here, c.loop-i.fields.sensors.ok.0)

pub index_mut-requires : goal.index_mut-requires
index_mut-requires c =
    let sensors : List Sensor = c.args.fields.now.sensors.items in
    let lt : c.loop-i.i < length sensors = omega (arith, c.loop-i-test.true, c.len-i-end.ensures, c.args.fields.now.sensors.ok.0) in
    let here : c.loop-i.i < length c.loop-i.fields.sensors.items = subst (λ n. c.loop-i.i < n) (sym c.loop-i.invariant.count) lt in
    omega (arith, here, c.loop-i.fields.sensors.ok.0)

pub enter_due-entered-requires-clause-entered : goal.enter_due-entered-requires-clause-entered
enter_due-entered-requires-clause-entered c =
    let sensors : List Sensor = c.args.fields.now.sensors.items in
    let lt : c.loop-i.i < length sensors = omega (arith, c.loop-i-test.true, c.len-i-end.ensures, c.args.fields.now.sensors.ok.0) in
    let here : c.loop-i.i < length c.loop-i.fields.sensors.items = subst (λ n. c.loop-i.i < n) (sym c.loop-i.invariant.count) lt in
    let s : Sensor = get_or sensors c.loop-i.i no_sensor in
    let ss : List Sensor = drop (c.loop-i.i + 1) sensors in
    let front : drop c.loop-i.i sensors ≡ s ∷ ss = drop_more sensors c.loop-i.i no_sensor lt in
    let is : c.index-sensor.result.now ≡ s = get_or_read c.loop-i.fields.sensors.items c.loop-i.i c.index-sensor.result.now here c.index-sensor.ensures no_sensor ∙ c.loop-i.invariant.rest c.loop-i.i (omega arith) in
    let each : Each (IsSensor c.args.graph.now) (s ∷ ss) = subst (Each (IsSensor c.args.graph.now)) front c.loop-i.invariant.each in
    let rise : RiseFrom 0 (s ∷ ss) = subst (RiseFrom 0) front c.loop-i.invariant.rise in
    let actor : c.index-sensor.result.now.actor ≡ s.actor = ap (λ (z : Sensor). z.actor) is in
    let entered : c.index-sensor.result.now.entered ≡ s.entered = ap (λ (z : Sensor). z.entered) is in
    let rows : c.as_slice.result.now ≡ s.rows = c.as_slice.ensures ∙ ap (λ (z : Sensor). z.rows) is in
    let same : drop c.index-sensor.result.now.entered c.as_slice.result.now ≡ drop s.entered s.rows = ap₂ (λ n (rs : List Row). drop n rs) entered rows in
    let few : s.entered ≤ length s.rows = each.0.entered in
    omega (arith, few, entered, ap length rows)

pub enter_due-entered-requires-clause-times : goal.enter_due-entered-requires-clause-times
enter_due-entered-requires-clause-times c =
    let sensors : List Sensor = c.args.fields.now.sensors.items in
    let lt : c.loop-i.i < length sensors = omega (arith, c.loop-i-test.true, c.len-i-end.ensures, c.args.fields.now.sensors.ok.0) in
    let here : c.loop-i.i < length c.loop-i.fields.sensors.items = subst (λ n. c.loop-i.i < n) (sym c.loop-i.invariant.count) lt in
    let s : Sensor = get_or sensors c.loop-i.i no_sensor in
    let ss : List Sensor = drop (c.loop-i.i + 1) sensors in
    let front : drop c.loop-i.i sensors ≡ s ∷ ss = drop_more sensors c.loop-i.i no_sensor lt in
    let is : c.index-sensor.result.now ≡ s = get_or_read c.loop-i.fields.sensors.items c.loop-i.i c.index-sensor.result.now here c.index-sensor.ensures no_sensor ∙ c.loop-i.invariant.rest c.loop-i.i (omega arith) in
    let each : Each (IsSensor c.args.graph.now) (s ∷ ss) = subst (Each (IsSensor c.args.graph.now)) front c.loop-i.invariant.each in
    let rise : RiseFrom 0 (s ∷ ss) = subst (RiseFrom 0) front c.loop-i.invariant.rise in
    let actor : c.index-sensor.result.now.actor ≡ s.actor = ap (λ (z : Sensor). z.actor) is in
    let entered : c.index-sensor.result.now.entered ≡ s.entered = ap (λ (z : Sensor). z.entered) is in
    let rows : c.as_slice.result.now ≡ s.rows = c.as_slice.ensures ∙ ap (λ (z : Sensor). z.rows) is in
    let same : drop c.index-sensor.result.now.entered c.as_slice.result.now ≡ drop s.entered s.rows = ap₂ (λ n (rs : List Row). drop n rs) entered rows in
    subst TimesRise (sym same) each.0.times

pub enter_due-entered-requires-clause-actor : goal.enter_due-entered-requires-clause-actor
enter_due-entered-requires-clause-actor c =
    let sensors : List Sensor = c.args.fields.now.sensors.items in
    let lt : c.loop-i.i < length sensors = omega (arith, c.loop-i-test.true, c.len-i-end.ensures, c.args.fields.now.sensors.ok.0) in
    let here : c.loop-i.i < length c.loop-i.fields.sensors.items = subst (λ n. c.loop-i.i < n) (sym c.loop-i.invariant.count) lt in
    let s : Sensor = get_or sensors c.loop-i.i no_sensor in
    let ss : List Sensor = drop (c.loop-i.i + 1) sensors in
    let front : drop c.loop-i.i sensors ≡ s ∷ ss = drop_more sensors c.loop-i.i no_sensor lt in
    let is : c.index-sensor.result.now ≡ s = get_or_read c.loop-i.fields.sensors.items c.loop-i.i c.index-sensor.result.now here c.index-sensor.ensures no_sensor ∙ c.loop-i.invariant.rest c.loop-i.i (omega arith) in
    let each : Each (IsSensor c.args.graph.now) (s ∷ ss) = subst (Each (IsSensor c.args.graph.now)) front c.loop-i.invariant.each in
    let rise : RiseFrom 0 (s ∷ ss) = subst (RiseFrom 0) front c.loop-i.invariant.rise in
    let actor : c.index-sensor.result.now.actor ≡ s.actor = ap (λ (z : Sensor). z.actor) is in
    let entered : c.index-sensor.result.now.entered ≡ s.entered = ap (λ (z : Sensor). z.entered) is in
    let rows : c.as_slice.result.now ≡ s.rows = c.as_slice.ensures ∙ ap (λ (z : Sensor). z.rows) is in
    let same : drop c.index-sensor.result.now.entered c.as_slice.result.now ≡ drop s.entered s.rows = ap₂ (λ n (rs : List Row). drop n rs) entered rows in
    let less : s.actor < length c.args.graph.now.actors = each.0.unit.0 in
    omega (arith, less, actor, ap length c.loop-i.invariant.groups, c.requires.sound.groups.len)

pub enter_due-entered-requires-clause-absent : goal.enter_due-entered-requires-clause-absent
enter_due-entered-requires-clause-absent c =
    let sensors : List Sensor = c.args.fields.now.sensors.items in
    let lt : c.loop-i.i < length sensors = omega (arith, c.loop-i-test.true, c.len-i-end.ensures, c.args.fields.now.sensors.ok.0) in
    let here : c.loop-i.i < length c.loop-i.fields.sensors.items = subst (λ n. c.loop-i.i < n) (sym c.loop-i.invariant.count) lt in
    let s : Sensor = get_or sensors c.loop-i.i no_sensor in
    let ss : List Sensor = drop (c.loop-i.i + 1) sensors in
    let front : drop c.loop-i.i sensors ≡ s ∷ ss = drop_more sensors c.loop-i.i no_sensor lt in
    let is : c.index-sensor.result.now ≡ s = get_or_read c.loop-i.fields.sensors.items c.loop-i.i c.index-sensor.result.now here c.index-sensor.ensures no_sensor ∙ c.loop-i.invariant.rest c.loop-i.i (omega arith) in
    let each : Each (IsSensor c.args.graph.now) (s ∷ ss) = subst (Each (IsSensor c.args.graph.now)) front c.loop-i.invariant.each in
    let rise : RiseFrom 0 (s ∷ ss) = subst (RiseFrom 0) front c.loop-i.invariant.rise in
    let actor : c.index-sensor.result.now.actor ≡ s.actor = ap (λ (z : Sensor). z.actor) is in
    let entered : c.index-sensor.result.now.entered ≡ s.entered = ap (λ (z : Sensor). z.entered) is in
    let rows : c.as_slice.result.now ≡ s.rows = c.as_slice.ensures ∙ ap (λ (z : Sensor). z.rows) is in
    let same : drop c.index-sensor.result.now.entered c.as_slice.result.now ≡ drop s.entered s.rows = ap₂ (λ n (rs : List Row). drop n rs) entered rows in
    let never : NothingThere (waiting_in c.loop-i.fields.queue.events) (brought c.args.reading (s ∷ ss)) = subst (λ z. NothingThere (waiting_in c.loop-i.fields.queue.events) (brought c.args.reading z)) front c.loop-i.invariant.never in
    subst (λ (rs : List Row). NothingThere (waiting_in c.loop-i.fields.queue.events) (seen_at c.index-sensor.result.now.actor (due c.args.reading rs))) (sym same)
    (subst (λ a. NothingThere (waiting_in c.loop-i.fields.queue.events) (seen_at a (due_of c.args.reading s))) (sym actor) (never_sensor c.args.reading (waiting_in c.loop-i.fields.queue.events) s ss rise.1 never))

pub enter_due-entered-requires-clause-spare : goal.enter_due-entered-requires-clause-spare
enter_due-entered-requires-clause-spare c =
    let sensors : List Sensor = c.args.fields.now.sensors.items in
    let lt : c.loop-i.i < length sensors = omega (arith, c.loop-i-test.true, c.len-i-end.ensures, c.args.fields.now.sensors.ok.0) in
    let here : c.loop-i.i < length c.loop-i.fields.sensors.items = subst (λ n. c.loop-i.i < n) (sym c.loop-i.invariant.count) lt in
    let s : Sensor = get_or sensors c.loop-i.i no_sensor in
    let ss : List Sensor = drop (c.loop-i.i + 1) sensors in
    let front : drop c.loop-i.i sensors ≡ s ∷ ss = drop_more sensors c.loop-i.i no_sensor lt in
    let is : c.index-sensor.result.now ≡ s = get_or_read c.loop-i.fields.sensors.items c.loop-i.i c.index-sensor.result.now here c.index-sensor.ensures no_sensor ∙ c.loop-i.invariant.rest c.loop-i.i (omega arith) in
    let each : Each (IsSensor c.args.graph.now) (s ∷ ss) = subst (Each (IsSensor c.args.graph.now)) front c.loop-i.invariant.each in
    let rise : RiseFrom 0 (s ∷ ss) = subst (RiseFrom 0) front c.loop-i.invariant.rise in
    let actor : c.index-sensor.result.now.actor ≡ s.actor = ap (λ (z : Sensor). z.actor) is in
    let entered : c.index-sensor.result.now.entered ≡ s.entered = ap (λ (z : Sensor). z.entered) is in
    let rows : c.as_slice.result.now ≡ s.rows = c.as_slice.ensures ∙ ap (λ (z : Sensor). z.rows) is in
    let same : drop c.index-sensor.result.now.entered c.as_slice.result.now ≡ drop s.entered s.rows = ap₂ (λ n (rs : List Row). drop n rs) entered rows in
    let count : length (due c.args.reading (drop c.index-sensor.result.now.entered c.as_slice.result.now)) ≡ length (due_of c.args.reading s) = ap (λ rs. length (due c.args.reading rs)) same in
    let total : length (due_rows c.args.reading (drop c.loop-i.i sensors)) ≡ length (due_of c.args.reading s) + length (due_rows c.args.reading ss) = ap (λ z. length (due_rows c.args.reading z)) front ∙ length-append (map (at_sensor s.actor) (due_of c.args.reading s)) (due_rows c.args.reading ss) ∙ ap (λ n. n + length (due_rows c.args.reading ss)) (length-map (due_of c.args.reading s) (at_sensor s.actor)) in
    let all : length (all_due c.args.graph.now c.args.reading (left_in sensors)) ≡ length (due_rows c.args.reading sensors) = ap length (all_due_is c.args.graph.now c.args.reading sensors c.requires.sensors.0 c.requires.sensors.1) in
    omega (arith, count, total, all, c.loop-i.invariant.spare, c.requires.events)

pub enter_due-entered-requires-clause-kept : goal.enter_due-entered-requires-clause-kept
enter_due-entered-requires-clause-kept c =
    let sensors : List Sensor = c.args.fields.now.sensors.items in
    let lt : c.loop-i.i < length sensors = omega (arith, c.loop-i-test.true, c.len-i-end.ensures, c.args.fields.now.sensors.ok.0) in
    let here : c.loop-i.i < length c.loop-i.fields.sensors.items = subst (λ n. c.loop-i.i < n) (sym c.loop-i.invariant.count) lt in
    let s : Sensor = get_or sensors c.loop-i.i no_sensor in
    let ss : List Sensor = drop (c.loop-i.i + 1) sensors in
    let front : drop c.loop-i.i sensors ≡ s ∷ ss = drop_more sensors c.loop-i.i no_sensor lt in
    let is : c.index-sensor.result.now ≡ s = get_or_read c.loop-i.fields.sensors.items c.loop-i.i c.index-sensor.result.now here c.index-sensor.ensures no_sensor ∙ c.loop-i.invariant.rest c.loop-i.i (omega arith) in
    let each : Each (IsSensor c.args.graph.now) (s ∷ ss) = subst (Each (IsSensor c.args.graph.now)) front c.loop-i.invariant.each in
    let rise : RiseFrom 0 (s ∷ ss) = subst (RiseFrom 0) front c.loop-i.invariant.rise in
    let actor : c.index-sensor.result.now.actor ≡ s.actor = ap (λ (z : Sensor). z.actor) is in
    let entered : c.index-sensor.result.now.entered ≡ s.entered = ap (λ (z : Sensor). z.entered) is in
    let rows : c.as_slice.result.now ≡ s.rows = c.as_slice.ensures ∙ ap (λ (z : Sensor). z.rows) is in
    let same : drop c.index-sensor.result.now.entered c.as_slice.result.now ≡ drop s.entered s.rows = ap₂ (λ n (rs : List Row). drop n rs) entered rows in
    let count : length (due c.args.reading (drop c.index-sensor.result.now.entered c.as_slice.result.now)) ≡ length (due_of c.args.reading s) = ap (λ rs. length (due c.args.reading rs)) same in
    let total : length (due_rows c.args.reading (drop c.loop-i.i sensors)) ≡ length (due_of c.args.reading s) + length (due_rows c.args.reading ss) = ap (λ z. length (due_rows c.args.reading z)) front ∙ length-append (map (at_sensor s.actor) (due_of c.args.reading s)) (due_rows c.args.reading ss) ∙ ap (λ n. n + length (due_rows c.args.reading ss)) (length-map (due_of c.args.reading s) (at_sensor s.actor)) in
    let all : length (all_due c.args.graph.now c.args.reading (left_in sensors)) ≡ length (due_rows c.args.reading sensors) = ap length (all_due_is c.args.graph.now c.args.reading sensors c.requires.sensors.0 c.requires.sensors.1) in
    omega (arith, count, total, all, c.loop-i.invariant.len, c.loop-i.invariant.capacity, c.requires.kept)

pub loop-i-preserved : goal.loop-i-preserved
loop-i-preserved c =
    let sensors : List Sensor = c.args.fields.now.sensors.items in
    let lt : c.loop-i.i < length sensors = omega (arith, c.loop-i-test.true, c.len-i-end.ensures, c.args.fields.now.sensors.ok.0) in
    let here : c.loop-i.i < length c.loop-i.fields.sensors.items = subst (λ n. c.loop-i.i < n) (sym c.loop-i.invariant.count) lt in
    let s : Sensor = get_or sensors c.loop-i.i no_sensor in
    let ss : List Sensor = drop (c.loop-i.i + 1) sensors in
    let front : drop c.loop-i.i sensors ≡ s ∷ ss = drop_more sensors c.loop-i.i no_sensor lt in
    let is : c.index-sensor.result.now ≡ s = get_or_read c.loop-i.fields.sensors.items c.loop-i.i c.index-sensor.result.now here c.index-sensor.ensures no_sensor ∙ c.loop-i.invariant.rest c.loop-i.i (omega arith) in
    let each : Each (IsSensor c.args.graph.now) (s ∷ ss) = subst (Each (IsSensor c.args.graph.now)) front c.loop-i.invariant.each in
    let rise : RiseFrom 0 (s ∷ ss) = subst (RiseFrom 0) front c.loop-i.invariant.rise in
    let actor : c.index-sensor.result.now.actor ≡ s.actor = ap (λ (z : Sensor). z.actor) is in
    let entered : c.index-sensor.result.now.entered ≡ s.entered = ap (λ (z : Sensor). z.entered) is in
    let rows : c.as_slice.result.now ≡ s.rows = c.as_slice.ensures ∙ ap (λ (z : Sensor). z.rows) is in
    let same : drop c.index-sensor.result.now.entered c.as_slice.result.now ≡ drop s.entered s.rows = ap₂ (λ n (rs : List Row). drop n rs) entered rows in
    let never : NothingThere (waiting_in c.loop-i.fields.queue.events) (brought c.args.reading (s ∷ ss)) = subst (λ z. NothingThere (waiting_in c.loop-i.fields.queue.events) (brought c.args.reading z)) front c.loop-i.invariant.never in
    let count : length (due c.args.reading (drop c.index-sensor.result.now.entered c.as_slice.result.now)) ≡ length (due_of c.args.reading s) = ap (λ rs. length (due c.args.reading rs)) same in
    let total : length (due_rows c.args.reading (drop c.loop-i.i sensors)) ≡ length (due_of c.args.reading s) + length (due_rows c.args.reading ss) = ap (λ z. length (due_rows c.args.reading z)) front ∙ length-append (map (at_sensor s.actor) (due_of c.args.reading s)) (due_rows c.args.reading ss) ∙ ap (λ n. n + length (due_rows c.args.reading ss)) (length-map (due_of c.args.reading s) (at_sensor s.actor)) in
    let w : Values = waiting_in c.loop-i.fields.queue.events in
    let r : ℕ = c.args.reading in
    let mine : c.index_mut.result.now ≡ s = get_or_read c.loop-i.fields.sensors.items c.loop-i.i c.index_mut.result.now here c.index_mut.ensures.value no_sensor ∙ c.loop-i.invariant.rest c.loop-i.i (omega arith) in
    let now : Sensor = record { actor = c.index_mut.result.now.actor; rows = c.index_mut.result.now.rows; entered = c.enter_due-entered.result } in
    let own : c.index_mut.result.now.rows ≡ s.rows = ap (λ (z : Sensor). z.rows) mine in
    let done : Entered r s now = record {
      actor = ap (λ (z : Sensor). z.actor) mine;
      rows = own;
      within = subst (λ (rs : List Row). c.enter_due-entered.result ≤ length rs) (rows ∙ sym own) c.enter_due-entered.ensures.within;
      left = ap (λ (rs : List Row). drop c.enter_due-entered.result rs) (own ∙ sym rows) ∙ c.enter_due-entered.ensures.left ∙ ap (not_due r) same;
    } in
    let waits : waiting_in c.enter_due-entered.new.queue.events ≡ added w (seen_at s.actor (due_of r s)) = c.enter_due-entered.ensures.waits ∙ ap₂ (λ a (rs : List Row). added w (seen_at a (due r rs))) actor same in
    record {
      count = length-set c.loop-i.fields.sensors.items c.loop-i.i now ∙ c.loop-i.invariant.count;
      before = λ k less. ⊎_elim
          (λ (e : (k == c.loop-i.i) ≡ true). subst (λ n. Entered r (get_or sensors n no_sensor) (get_or (set c.loop-i.fields.sensors.items c.loop-i.i now) n no_sensor)) (sym (eqb-true k c.loop-i.i e)) (subst (Entered r s) (sym (get_or-set_same c.loop-i.fields.sensors.items c.loop-i.i now no_sensor here)) done))
          (λ (e : (k == c.loop-i.i) ≡ false). let under : k < c.loop-i.i = grind (arith, nat_tests) in subst (Entered r (get_or sensors k no_sensor)) (sym (get_or-set_other c.loop-i.fields.sensors.items c.loop-i.i k now no_sensor (λ q. absurd (omega (arith, under, q))))) (c.loop-i.invariant.before k under))
          (cases_Bool (k == c.loop-i.i));
      rest = λ k le. get_or-set_other c.loop-i.fields.sensors.items c.loop-i.i k now no_sensor (λ q. absurd (omega (arith, le, q))) ∙ c.loop-i.invariant.rest k (omega (arith, le));
      rise = rise_less ss (s.actor + 1) 0 rise.1 (omega arith);
      each = each.1;
      never = subst (λ v. NothingThere v (brought r ss)) (sym waits) (never_rest r w s ss rise.1 never);
      waits = ap (λ v. added v (brought r ss)) waits ∙ brought_more r w s ss rise.1 ∙ ap (λ z. added w (brought r z)) (sym front) ∙ c.loop-i.invariant.waits;
      spare = omega (arith, count, total, c.enter_due-entered.ensures.spare, c.loop-i.invariant.spare);
      groups = c.enter_due-entered.ensures.groups ∙ c.loop-i.invariant.groups;
      rows = ap (λ z. z ++ due_rows r ss) (c.enter_due-entered.ensures.rows ∙ ap₂ (λ a (rs : List Row). c.loop-i.kept.items ++ map (at_sensor a) (due r rs)) actor same) ∙ append_assoc c.loop-i.kept.items (map (at_sensor s.actor) (due_of r s)) (due_rows r ss) ∙ ap (λ z. c.loop-i.kept.items ++ due_rows r z) (sym front) ∙ c.loop-i.invariant.rows;
      len = omega (arith, count, total, c.enter_due-entered.ensures.kept.1, c.loop-i.invariant.len);
      capacity = omega (arith, c.enter_due-entered.ensures.kept.0, c.loop-i.invariant.capacity);
      frame = c.loop-i.invariant.frame;
    }

pub returns-clause-sound : goal.returns-clause-sound
returns-clause-sound c =
    let sensors : List Sensor = c.args.fields.now.sensors.items in
    let past : length sensors ≤ c.loop-i.i = omega (arith, c.loop-i-test.false, c.len-i-end.ensures, c.args.fields.now.sensors.ok.0) in
    let none : drop c.loop-i.i sensors ≡ [] = drop_all c.loop-i.i sensors past in
    let waits : waiting_in c.loop-i.fields.queue.events ≡ added (waiting_in c.args.fields.now.queue.events) (brought c.args.reading sensors) = sym (brought_nil c.args.reading (waiting_in c.loop-i.fields.queue.events)) ∙ ap (λ z. added (waiting_in c.loop-i.fields.queue.events) (brought c.args.reading z)) (sym none) ∙ c.loop-i.invariant.waits in
    record {
      groups = subst (AreGroups c.args.graph.now) (sym c.loop-i.invariant.groups) c.requires.sound.groups;
      states = ap (λ v. length v.items) c.loop-i.invariant.frame.1 ∙ c.requires.sound.states;
      open_claims = subst (λ v. Each (IsOpen c.args.graph.now v.items) v.items) (sym c.loop-i.invariant.frame.0) c.requires.sound.open_claims;
      links = ap (λ v. v.links) c.loop-i.invariant.frame.2 ∙ c.requires.sound.links;
      at_units = λ a p t v h. ⊎_elim (c.requires.sound.at_units a p t v) (brought_unit c.args.graph.now c.args.reading sensors c.requires.sensors.0 c.requires.sensors.1 a p t v) (or_else_found (waiting_in c.args.fields.now.queue.events a p t) (brought c.args.reading sensors a p t) v (sym (ap (λ (f : Values). f a p t) waits) ∙ h));
      none_safe = λ r lt. absurd (omega (arith, lt));
    }

pub returns-clause-sensors : goal.returns-clause-sensors
returns-clause-sensors c =
    let sensors : List Sensor = c.args.fields.now.sensors.items in
    let past : length sensors ≤ c.loop-i.i = omega (arith, c.loop-i-test.false, c.len-i-end.ensures, c.args.fields.now.sensors.ok.0) in
    let none : drop c.loop-i.i sensors ≡ [] = drop_all c.loop-i.i sensors past in
    let all_entered : AllEntered c.args.reading sensors c.loop-i.fields.sensors.items = λ k lt. c.loop-i.invariant.before k (omega (arith, lt, past)) in
    (rise_after c.args.reading 0 sensors c.loop-i.fields.sensors.items c.loop-i.invariant.count all_entered c.requires.sensors.0, each_after c.args.graph.now c.args.reading sensors c.loop-i.fields.sensors.items c.loop-i.invariant.count all_entered c.requires.sensors.1)

pub returns-clause-entered : goal.returns-clause-entered
returns-clause-entered c =
    let sensors : List Sensor = c.args.fields.now.sensors.items in
    let past : length sensors ≤ c.loop-i.i = omega (arith, c.loop-i-test.false, c.len-i-end.ensures, c.args.fields.now.sensors.ok.0) in
    let none : drop c.loop-i.i sensors ≡ [] = drop_all c.loop-i.i sensors past in
    let all_entered : AllEntered c.args.reading sensors c.loop-i.fields.sensors.items = λ k lt. c.loop-i.invariant.before k (omega (arith, lt, past)) in
    let waits : waiting_in c.loop-i.fields.queue.events ≡ added (waiting_in c.args.fields.now.queue.events) (brought c.args.reading sensors) = sym (brought_nil c.args.reading (waiting_in c.loop-i.fields.queue.events)) ∙ ap (λ z. added (waiting_in c.loop-i.fields.queue.events) (brought c.args.reading z)) (sym none) ∙ c.loop-i.invariant.waits in
    λ taken i. record {
      waits = waits i;
      left = λ a. left_after c.args.reading sensors c.loop-i.fields.sensors.items c.loop-i.invariant.count all_entered a i;
      busy = ap (λ v. busy_in v.items) c.loop-i.invariant.frame.0 i;
      states = ap (λ v. states_in v.items) c.loop-i.invariant.frame.1 i;
      outbox = λ l. ap (λ v. on_link l v.items) c.loop-i.invariant.frame.2 i;
      taken = λ l. on_link l taken;
      reading = c.loop-i.invariant.frame.3 i;
      closed = c.loop-i.invariant.frame.4 i;
      claims = c.loop-i.invariant.frame.5 i;
    }

pub returns-clause-all_rows : goal.returns-clause-all_rows
returns-clause-all_rows c =
    let sensors : List Sensor = c.args.fields.now.sensors.items in
    let past : length sensors ≤ c.loop-i.i = omega (arith, c.loop-i-test.false, c.len-i-end.ensures, c.args.fields.now.sensors.ok.0) in
    let all_entered : AllEntered c.args.reading sensors c.loop-i.fields.sensors.items = λ k lt. c.loop-i.invariant.before k (omega (arith, lt, past)) in
    rows_after c.args.reading sensors c.loop-i.fields.sensors.items c.loop-i.invariant.count all_entered

pub returns-clause-rows : goal.returns-clause-rows
returns-clause-rows c =
    let sensors : List Sensor = c.args.fields.now.sensors.items in
    let past : length sensors ≤ c.loop-i.i = omega (arith, c.loop-i-test.false, c.len-i-end.ensures, c.args.fields.now.sensors.ok.0) in
    let none : drop c.loop-i.i sensors ≡ [] = drop_all c.loop-i.i sensors past in
    sym (append-nil c.loop-i.kept.items) ∙ ap (λ z. c.loop-i.kept.items ++ due_rows c.args.reading z) (sym none) ∙ c.loop-i.invariant.rows ∙ ap (λ z. c.args.kept.now.items ++ z) (sym (all_due_is c.args.graph.now c.args.reading sensors c.requires.sensors.0 c.requires.sensors.1))

pub returns-clause-events : goal.returns-clause-events
returns-clause-events c =
    let sensors : List Sensor = c.args.fields.now.sensors.items in
    let past : length sensors ≤ c.loop-i.i = omega (arith, c.loop-i-test.false, c.len-i-end.ensures, c.args.fields.now.sensors.ok.0) in
    let none : drop c.loop-i.i sensors ≡ [] = drop_all c.loop-i.i sensors past in
    let all : length (all_due c.args.graph.now c.args.reading (left_in sensors)) ≡ length (due_rows c.args.reading sensors) = ap length (all_due_is c.args.graph.now c.args.reading sensors c.requires.sensors.0 c.requires.sensors.1) in
    let nothing : length (due_rows c.args.reading (drop c.loop-i.i sensors)) ≡ 0 = ap (λ z. length (due_rows c.args.reading z)) none in
    omega (arith, all, nothing, c.loop-i.invariant.spare)

pub returns-clause-kept : goal.returns-clause-kept
returns-clause-kept c = c.loop-i.invariant.capacity

pub returns-clause-groups : goal.returns-clause-groups
returns-clause-groups c = c.loop-i.invariant.groups

pub returns-clause-frame : goal.returns-clause-frame
returns-clause-frame c = c.loop-i.invariant.frame
