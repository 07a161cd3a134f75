use Rattle.std.proofs.Common.{◌≡◌, ℕ, ℤ, suc, ◌+◌, ◌*◌, ◌-◌, ◌<◌, ◌≤◌, ◌⊎◌, ◌==◌, ◌++◌, [], None, Option, not, map, filter, take, slice_set, List, refl, sym, subst, ap, ◌∙◌, ⊎_elim, arith}
use Rattle.pt_types.specs.Ports.{at_port, when}
use Rattle.pt_types.specs.declared.firing.Event.{Event}
use Rattle.pt_queue.specs.Groups.{group_in}
use Rattle.pt_queue.specs.Events.{waiting_in}
use Rattle.pt_queue.specs.Lines.{AreInLines, all_of, line_at}
use Rattle.pt_queue.specs.Scans.{is_at, least_from}
use Rattle.pt_queue.proofs.Flat.{later_waits}
use Rattle.pt_queue.proofs.Ports.{next_none, next_put, rest_none}
use Rattle.pt_queue.proofs.Quiet.{no_value}
use Rattle.pt_queue.proofs.Removing.{filtered_in_lines, filtered_later, filtered_take, map_same, done_more, all_done}
use Rattle.pt_queue.proofs.Soonest.{least_step, least_before, least_all, least_rest}
use Rattle.pt_queue.proofs.taking.take_from_lines.Goals as goal

below_or : (n m : ℕ) → (n < m) ⊎ (m ≤ n)
below_or n m = grind arith

none : (n : ℕ) → n + 0 ≤ n
none n = omega arith

more : (n k : ℕ) → n + (k + 1) ≡ suc (n + k)
more n k = omega arith

pub loop-port-init : goal.loop-port-init
loop-port-init c = record {
  in_lines = c.requires.in_lines;
  same = refl;
  done = λ k l. absurd (omega (arith, l));
  later = λ k l. refl;
  inputs = c.requires.empty;
  least = least_before c.args.table.now c.args.lines.now c.args.unit (8 * c.args.unit.actor + 0) c.requires.in_lines (none (8 * c.args.unit.actor));
}

pub take_port-least-requires-clause-none : goal.take_port-least-requires-clause-none
take_port-least-requires-clause-none c =
    let f : ℕ → Option ℤ = λ p. when (group_in c.args.table.now c.args.unit.actor p == c.args.unit.group) (waiting_in (all_of c.args.lines.now ++ c.args.loose.now.items) c.args.unit.actor p c.args.tag) in
    ap (λ ports. at_port ports c.loop-port.port) c.loop-port.invariant.inputs
    ∙ next_none f c.loop-port.port (omega (arith, c.loop-port-test.true, c.end_of-port-end.ensures.few))

pub loop-port-preserved : goal.loop-port-preserved
loop-port-preserved c =
    let table = c.args.table.now in
    let unit = c.args.unit in
    let n = 8 * unit.actor + c.loop-port.port in
    let keep = λ (e : Event). not (is_at table unit c.args.tag e) in
    let is = c.take_port-least.ensures.lines in
    let f : ℕ → Option ℤ = λ p. when (group_in table unit.actor p == unit.group) (waiting_in (all_of c.args.lines.now ++ c.args.loose.now.items) unit.actor p c.args.tag) in
    record {
      in_lines = subst (AreInLines table) (sym is) (filtered_in_lines table keep c.loop-port.lines n c.loop-port.invariant.in_lines);
      same = ap (map (filter keep)) is ∙ map_same keep c.loop-port.lines n ∙ c.loop-port.invariant.same;
      done = λ k l. subst (λ (ls : List (List Event)). filter keep (line_at ls (8 * unit.actor + k)) ≡ line_at ls (8 * unit.actor + k)) (sym is) (done_more keep c.loop-port.lines (8 * unit.actor) c.loop-port.port c.loop-port.invariant.done k l);
      later = λ k l. ap (λ ls. line_at ls (8 * unit.actor + k)) is ∙ filtered_later keep c.loop-port.lines n (8 * unit.actor + k) (omega (arith, l)) ∙ c.loop-port.invariant.later k (omega (arith, l));
      inputs =
          c.take_port-least.ensures.inputs
          ∙ ap (λ v. slice_set c.loop-port.inputs c.loop-port.port (when (group_in table unit.actor c.loop-port.port == unit.group) v))
          (later_waits table c.loop-port.lines c.args.lines.now c.args.loose.now.items unit.actor c.loop-port.port c.args.tag c.loop-port.invariant.in_lines c.requires.in_lines (c.loop-port.invariant.later c.loop-port.port (omega arith)))
          ∙ ap (λ ports. slice_set ports c.loop-port.port (f c.loop-port.port)) c.loop-port.invariant.inputs
          ∙ next_put f c.loop-port.port (omega (arith, c.loop-port-test.true, c.end_of-port-end.ensures.few));
      least =
          c.take_port-least.ensures.least
          ∙ ap (λ best. least_from table unit best (line_at c.take_port-least.new.lines n)) (c.loop-port.invariant.least ∙ ap (λ ls. least_from table unit None (all_of ls)) (sym (ap (take n) is ∙ filtered_take keep c.loop-port.lines n)))
          ∙ sym (least_step table c.take_port-least.new.lines unit n)
          ∙ ap (λ m. least_from table unit None (all_of (take m c.take_port-least.new.lines))) (sym (more (8 * unit.actor) c.loop-port.port));
    }

pub returns-clause-lines : goal.returns-clause-lines
returns-clause-lines c =
    let keep = λ (e : Event). not (is_at c.args.table.now c.args.unit c.args.tag e) in
    sym (all_done c.args.table.now c.args.unit c.args.tag c.loop-port.lines c.loop-port.invariant.in_lines (λ k l. ⊎_elim
    (λ (low : k < c.loop-port.port). c.loop-port.invariant.done k low)
    (λ (high : c.loop-port.port ≤ k).
    let none : line_at c.loop-port.lines (8 * c.args.unit.actor + k) ≡ [] = c.loop-port.invariant.later k high ∙ (c.end_of-port-end.ensures.none k (omega (arith, high, c.loop-port-test.false)) l).0 in
    ap (filter keep) none ∙ sym none)
    (below_or k c.loop-port.port)))
    ∙ c.loop-port.invariant.same

pub returns-clause-inputs : goal.returns-clause-inputs
returns-clause-inputs c =
    let f : ℕ → Option ℤ = λ p. when (group_in c.args.table.now c.args.unit.actor p == c.args.unit.group) (waiting_in (all_of c.args.lines.now ++ c.args.loose.now.items) c.args.unit.actor p c.args.tag) in
    c.loop-port.invariant.inputs
    ∙ rest_none f c.loop-port.port (λ p le l.
    let none = c.end_of-port-end.ensures.none p (omega (arith, le, c.loop-port-test.false)) l in
    no_value c.args.table.now c.args.lines.now c.args.loose.now.items c.args.unit.actor p c.args.tag (group_in c.args.table.now c.args.unit.actor p == c.args.unit.group) c.requires.in_lines none.0 (c.requires.loose none.1 p c.args.tag))

pub returns-clause-least : goal.returns-clause-least
returns-clause-least c =
    let few : c.loop-port.port ≤ 8 = omega (arith, c.end_of-port-end.ensures.few, c.loop-port.auto.port-end) in
    let all : c.loop-port.port + (8 - c.loop-port.port) ≡ 8 = omega (arith, few) in
    c.loop-port.invariant.least
    ∙ least_rest c.args.table.now c.loop-port.lines c.args.unit c.loop-port.port (8 - c.loop-port.port) (λ p le l. c.loop-port.invariant.later p le ∙ (c.end_of-port-end.ensures.none p (omega (arith, le, c.loop-port-test.false)) (omega (arith, l, all))).0)
    ∙ ap (λ k. least_from c.args.table.now c.args.unit None (all_of (take (8 * c.args.unit.actor + k) c.loop-port.lines))) all
    ∙ least_all c.args.table.now c.loop-port.lines c.args.unit c.loop-port.invariant.in_lines
