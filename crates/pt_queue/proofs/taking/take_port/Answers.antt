use Rattle.std.proofs.Common.{◌≡◌, ℕ, ℤ, ◌+◌, ◌*◌, ◌==◌, ◌++◌, List, Option, None, not, filter, slice_set, length, eq-eqb, ne_eqb, sym, subst, ap, ◌∙◌}
use Rattle.std.proofs.lemmas.List.{set-get_or}
use Rattle.pt_tags.specs.Tags.{same_tag}
use Rattle.pt_types.specs.Ports.{at_port, when}
use Rattle.pt_types.specs.declared.firing.Event.{Event}
use Rattle.pt_queue.specs.Groups.{group_in}
use Rattle.pt_queue.specs.Events.{waiting_in}
use Rattle.pt_queue.specs.Lines.{AreInLines, all_of, line_at}
use Rattle.pt_queue.specs.Scans.{is_at, sooner_first}
use Rattle.pt_queue.proofs.Quiet.{no_value, no_events}
use Rattle.pt_queue.proofs.Removing.{filtered_in_lines, other_line, unchanged, unit_line}
use Rattle.pt_queue.proofs.Soonest.{least_of_line, least_other}
use Rattle.pt_queue.proofs.taking.take_port.Goals as goal

keeps_none : (ports : List (Option ℤ)) (p : ℕ) (v : Option ℤ) → at_port ports p ≡ None → None ≡ v → ports ≡ slice_set ports p v
keeps_none ports p v h e = sym (ap (slice_set ports p) (sym e ∙ sym h) ∙ set-get_or ports p None)

pub returns-then-is_empty-clause-inputs : goal.returns-then-is_empty-clause-inputs
returns-then-is_empty-clause-inputs c =
    let n = 8 * c.args.wanted.unit.actor + c.args.port in
    keeps_none c.args.inputs.now c.args.port _ c.requires.none (
    no_value c.args.table.now c.args.lines.now c.args.loose.now.items c.args.wanted.unit.actor c.args.port c.args.wanted.tag (group_in c.args.table.now c.args.wanted.unit.actor c.args.port == c.args.wanted.unit.group) c.requires.in_lines
    (no_events (line_at c.args.lines.now n) (sym (c.is_empty.ensures ∙ ap (λ n. length (line_at c.args.lines.now n) == 0) c.line_number.ensures) ∙ c.if-is_empty.true))
    (c.requires.loose c.if-not-any_loose.true c.args.port c.args.wanted.tag))

pub returns-then-group_in-wanted-clause-lines : goal.returns-then-group_in-wanted-clause-lines
returns-then-group_in-wanted-clause-lines c =
    let n = 8 * c.args.wanted.unit.actor + c.args.port in
    let keep = λ (e : Event). not (is_at c.args.table.now c.args.wanted.unit c.args.wanted.tag e) in
    unchanged c.args.lines.now n (filter keep (line_at c.args.lines.now n))
    (other_line c.args.table.now c.args.wanted.unit c.args.port c.args.wanted.tag (line_at c.args.lines.now n) c.requires.port (c.requires.in_lines n)
    (ne_eqb (group_in c.args.table.now c.args.wanted.unit.actor c.args.port) c.args.wanted.unit.group (λ e. c.if-group_in-wanted.true (c.group_in.ensures ∙ e))))

pub returns-then-group_in-wanted-clause-inputs : goal.returns-then-group_in-wanted-clause-inputs
returns-then-group_in-wanted-clause-inputs c =
    keeps_none c.args.inputs.now c.args.port _ c.requires.none
    (sym (ap (λ b. when b (waiting_in (all_of c.args.lines.now ++ c.args.loose.now.items) c.args.wanted.unit.actor c.args.port c.args.wanted.tag)) (ne_eqb (group_in c.args.table.now c.args.wanted.unit.actor c.args.port) c.args.wanted.unit.group (λ e. c.if-group_in-wanted.true (c.group_in.ensures ∙ e)))))

pub returns-then-group_in-wanted-clause-least : goal.returns-then-group_in-wanted-clause-least
returns-then-group_in-wanted-clause-least c =
    let n = 8 * c.args.wanted.unit.actor + c.args.port in
    least_other c.args.table.now c.args.wanted.unit c.args.port c.args.so_far (line_at c.args.lines.now n) c.requires.port (c.requires.in_lines n)
    (ne_eqb (group_in c.args.table.now c.args.wanted.unit.actor c.args.port) c.args.wanted.unit.group (λ e. c.if-group_in-wanted.true (c.group_in.ensures ∙ e)))

pub returns-clause-lines : goal.returns-clause-lines
returns-clause-lines c =
    let n = 8 * c.args.wanted.unit.actor + c.args.port in
    c.take_value-taken.ensures.left
    ∙ ap (slice_set c.args.lines.now n)
    (unit_line c.args.table.now c.args.wanted.unit c.args.port c.args.wanted.tag (line_at c.args.lines.now n) c.requires.port (c.requires.in_lines n)
    (eq-eqb (group_in c.args.table.now c.args.wanted.unit.actor c.args.port) c.args.wanted.unit.group (sym c.group_in.ensures ∙ c.if-group_in-wanted.false)))

pub returns-clause-least : goal.returns-clause-least
returns-clause-least c =
    let n = 8 * c.args.wanted.unit.actor + c.args.port in
    let lines : AreInLines c.args.table.now c.take_value-taken.new.lines = subst (AreInLines c.args.table.now) (sym c.take_value-taken.ensures.left) (filtered_in_lines c.args.table.now (λ (e : Event). not (same_tag c.args.wanted.tag e.tag)) c.args.lines.now n c.requires.in_lines) in
    c.sooner_first.ensures
    ∙ ap (sooner_first c.args.so_far) c.take_value-taken.ensures.next
    ∙ least_of_line c.args.table.now c.args.wanted.unit c.args.port c.args.so_far (line_at c.take_value-taken.new.lines n) c.requires.port (lines n) c.take_value-taken.ensures.in_order
    (eq-eqb (group_in c.args.table.now c.args.wanted.unit.actor c.args.port) c.args.wanted.unit.group (sym c.group_in.ensures ∙ c.if-group_in-wanted.false))
