use Rattle.std.proofs.Common.{◌≡◌, suc, ◌+◌, ◌<◌, ◌≤◌, ◌++◌, ◌∷◌, [], List, length, get_or, drop, map, pos, refl, sym, ap, subst, ◌∙◌, arith, append_assoc, append-nil}
use Rattle.std.proofs.lemmas.List.{drop_more, drop_all}
use Rattle.pt_types.specs.declared.rows.Row.{Row}
use Rattle.pt_semantics.specs.Entering.{due, not_due}
use Rattle.pt_semantics.specs.Floor.{NothingThere}
use Rattle.pt_semantics.specs.Meaning.{added}
use Rattle.pt_semantics.specs.Rows.{TimesRise}
use Rattle.pt_queue.specs.Events.{waiting_in}
use Rattle.pt_turn.specs.Fields.Sensors.{at_sensor, seen_at}
use Rattle.pt_turn.proofs.Enters.Rows.{seen_more, seen_none, never_one, never_more, due_at, not_due_at, due_stop, not_due_stop, due_each}
use Rattle.pt_turn.proofs.enter.entering.enter_seen.Goals as goal

abbrev no_row : Row
no_row = record { time = 0; seen = 0; value = pos 0 }

pub loop-index-init : goal.loop-index-init
loop-index-init c = record { times = c.requires.times; never = c.requires.absent; waits = refl; spare = refl; groups = refl; rows = refl; len = refl; capacity = omega arith; left = refl }

pub enter_row-requires-clause-spare : goal.enter_row-requires-clause-spare
enter_row-requires-clause-spare c =
    let x : Row = get_or c.args.rows.now c.loop-index.index no_row in
    let rest : List Row = due c.args.reading (drop (c.loop-index.index + 1) c.args.rows.now) in
    let seen : x.seen ≤ c.args.reading = omega (arith, c.if-reading-row.false) in
    let front : due c.args.reading (drop c.loop-index.index c.args.rows.now) ≡ x ∷ rest = due_at c.args.reading c.args.rows.now c.loop-index.index no_row c.loop-index-test.true seen in
    let some : length (due c.args.reading (drop c.loop-index.index c.args.rows.now)) ≡ suc (length rest) = ap length front in
    omega (arith, c.loop-index.invariant.spare, c.requires.spare)

pub enter_row-requires-clause-actor : goal.enter_row-requires-clause-actor
enter_row-requires-clause-actor c = subst (λ groups. c.args.sensor < length groups) (sym c.loop-index.invariant.groups) c.requires.actor

pub enter_row-requires-clause-kept : goal.enter_row-requires-clause-kept
enter_row-requires-clause-kept c =
    let x : Row = get_or c.args.rows.now c.loop-index.index no_row in
    let rest : List Row = due c.args.reading (drop (c.loop-index.index + 1) c.args.rows.now) in
    let seen : x.seen ≤ c.args.reading = omega (arith, c.if-reading-row.false) in
    let front : due c.args.reading (drop c.loop-index.index c.args.rows.now) ≡ x ∷ rest = due_at c.args.reading c.args.rows.now c.loop-index.index no_row c.loop-index-test.true seen in
    let some : length (due c.args.reading (drop c.loop-index.index c.args.rows.now)) ≡ suc (length rest) = ap length front in
    omega (arith, c.loop-index.invariant.len, c.requires.kept, c.loop-index.invariant.capacity)

pub enter_row-requires-clause-absent : goal.enter_row-requires-clause-absent
enter_row-requires-clause-absent c =
    let x : Row = get_or c.args.rows.now c.loop-index.index no_row in
    let rest : List Row = due c.args.reading (drop (c.loop-index.index + 1) c.args.rows.now) in
    let seen : x.seen ≤ c.args.reading = omega (arith, c.if-reading-row.false) in
    let front : due c.args.reading (drop c.loop-index.index c.args.rows.now) ≡ x ∷ rest = due_at c.args.reading c.args.rows.now c.loop-index.index no_row c.loop-index-test.true seen in
    never_one c.args.sensor (waiting_in c.loop-index.queue.events) x rest (subst (λ z. NothingThere (waiting_in c.loop-index.queue.events) (seen_at c.args.sensor z)) front c.loop-index.invariant.never)

pub loop-index-preserved : goal.loop-index-preserved
loop-index-preserved c =
    let x : Row = get_or c.args.rows.now c.loop-index.index no_row in
    let rest : List Row = due c.args.reading (drop (c.loop-index.index + 1) c.args.rows.now) in
    let seen : x.seen ≤ c.args.reading = omega (arith, c.if-reading-row.false) in
    let front : due c.args.reading (drop c.loop-index.index c.args.rows.now) ≡ x ∷ rest = due_at c.args.reading c.args.rows.now c.loop-index.index no_row c.loop-index-test.true seen in
    let some : length (due c.args.reading (drop c.loop-index.index c.args.rows.now)) ≡ suc (length rest) = ap length front in
    let now = waiting_in c.loop-index.queue.events in
    let times : TimesRise (x ∷ drop (c.loop-index.index + 1) c.args.rows.now) = subst TimesRise (drop_more c.args.rows.now c.loop-index.index no_row c.loop-index-test.true) c.loop-index.invariant.times in
    let never : NothingThere now (seen_at c.args.sensor (x ∷ rest)) = subst (λ z. NothingThere now (seen_at c.args.sensor z)) front c.loop-index.invariant.never in
    record {
      times = times.1;
      never = subst (λ w. NothingThere w (seen_at c.args.sensor rest)) (sym c.enter_row.ensures.waits) (never_more c.args.sensor now x rest (due_each (λ (y : Row). x.time < y.time) c.args.reading (drop (c.loop-index.index + 1) c.args.rows.now) times.0) never);
      waits = ap (λ w. added w (seen_at c.args.sensor rest)) c.enter_row.ensures.waits ∙ seen_more c.args.sensor now x rest ∙ ap (λ z. added now (seen_at c.args.sensor z)) (sym front) ∙ c.loop-index.invariant.waits;
      spare = omega (arith, c.enter_row.ensures.spare, c.loop-index.invariant.spare, some);
      groups = c.enter_row.ensures.groups ∙ c.loop-index.invariant.groups;
      rows = ap (λ z. z ++ map (at_sensor c.args.sensor) rest) c.enter_row.ensures.rows ∙ append_assoc c.loop-index.kept.items (at_sensor c.args.sensor x ∷ []) (map (at_sensor c.args.sensor) rest) ∙ ap (λ z. c.loop-index.kept.items ++ map (at_sensor c.args.sensor) z) (sym front) ∙ c.loop-index.invariant.rows;
      len = omega (arith, c.enter_row.ensures.kept.1, c.loop-index.invariant.len, some);
      capacity = omega (arith, c.enter_row.ensures.kept.0, c.loop-index.invariant.capacity);
      left = sym (not_due_at c.args.reading c.args.rows.now c.loop-index.index no_row c.loop-index-test.true seen) ∙ c.loop-index.invariant.left;
    }

pub returns-then-reading-row-clause-waits : goal.returns-then-reading-row-clause-waits
returns-then-reading-row-clause-waits c = sym (seen_none c.args.sensor (waiting_in c.loop-index.queue.events) _ (due_stop c.args.reading c.args.rows.now c.loop-index.index no_row c.loop-index-test.true c.if-reading-row.true)) ∙ c.loop-index.invariant.waits

pub returns-then-reading-row-clause-spare : goal.returns-then-reading-row-clause-spare
returns-then-reading-row-clause-spare c = let none : length (due c.args.reading (drop c.loop-index.index c.args.rows.now)) ≡ 0 = ap length (due_stop c.args.reading c.args.rows.now c.loop-index.index no_row c.loop-index-test.true c.if-reading-row.true) in omega (arith, c.loop-index.invariant.spare)

pub returns-then-reading-row-clause-groups : goal.returns-then-reading-row-clause-groups
returns-then-reading-row-clause-groups c = c.loop-index.invariant.groups

pub returns-then-reading-row-clause-rows : goal.returns-then-reading-row-clause-rows
returns-then-reading-row-clause-rows c = sym (append-nil c.loop-index.kept.items) ∙ ap (λ z. c.loop-index.kept.items ++ map (at_sensor c.args.sensor) z) (sym (due_stop c.args.reading c.args.rows.now c.loop-index.index no_row c.loop-index-test.true c.if-reading-row.true)) ∙ c.loop-index.invariant.rows

pub returns-then-reading-row-clause-kept : goal.returns-then-reading-row-clause-kept
returns-then-reading-row-clause-kept c = let none : length (due c.args.reading (drop c.loop-index.index c.args.rows.now)) ≡ 0 = ap length (due_stop c.args.reading c.args.rows.now c.loop-index.index no_row c.loop-index-test.true c.if-reading-row.true) in (c.loop-index.invariant.capacity, omega (arith, c.loop-index.invariant.len))

pub returns-then-reading-row-clause-left : goal.returns-then-reading-row-clause-left
returns-then-reading-row-clause-left c = sym (not_due_stop c.args.reading c.args.rows.now c.loop-index.index no_row c.loop-index-test.true c.if-reading-row.true) ∙ c.loop-index.invariant.left

pub returns-clause-waits : goal.returns-clause-waits
returns-clause-waits c = sym (seen_none c.args.sensor (waiting_in c.loop-index.queue.events) _ (ap (due c.args.reading) (drop_all c.loop-index.index c.args.rows.now (omega (arith, c.loop-index-test.false))))) ∙ c.loop-index.invariant.waits

pub returns-clause-spare : goal.returns-clause-spare
returns-clause-spare c = let none : length (due c.args.reading (drop c.loop-index.index c.args.rows.now)) ≡ 0 = ap length (ap (due c.args.reading) (drop_all c.loop-index.index c.args.rows.now (omega (arith, c.loop-index-test.false)))) in omega (arith, c.loop-index.invariant.spare)

pub returns-clause-groups : goal.returns-clause-groups
returns-clause-groups c = c.loop-index.invariant.groups

pub returns-clause-rows : goal.returns-clause-rows
returns-clause-rows c = sym (append-nil c.loop-index.kept.items) ∙ ap (λ z. c.loop-index.kept.items ++ map (at_sensor c.args.sensor) z) (sym (ap (due c.args.reading) (drop_all c.loop-index.index c.args.rows.now (omega (arith, c.loop-index-test.false))))) ∙ c.loop-index.invariant.rows

pub returns-clause-kept : goal.returns-clause-kept
returns-clause-kept c = let none : length (due c.args.reading (drop c.loop-index.index c.args.rows.now)) ≡ 0 = ap length (ap (due c.args.reading) (drop_all c.loop-index.index c.args.rows.now (omega (arith, c.loop-index-test.false)))) in (c.loop-index.invariant.capacity, omega (arith, c.loop-index.invariant.len))

pub returns-clause-left : goal.returns-clause-left
returns-clause-left c = drop_all (length c.args.rows.now) c.args.rows.now (omega arith) ∙ sym (ap (not_due c.args.reading) (drop_all c.loop-index.index c.args.rows.now (omega (arith, c.loop-index-test.false)))) ∙ c.loop-index.invariant.left
