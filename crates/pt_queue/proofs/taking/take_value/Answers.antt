use Rattle.std.proofs.Common.{◌≡◌, ◌+◌, ◌*◌, Option, Some, None, ℤ, true, false, is_some, refl, sym, ap, ap₂, ◌∙◌}
use Rattle.std.proofs.lemmas.Bool.{false≢true}
use Rattle.pt_semantics.specs.Lists.{or_else}
use Rattle.pt_queue.specs.Events.{waiting_in}
use Rattle.pt_queue.specs.Lines.{all_of, line_at, value_on}
use Rattle.pt_queue.proofs.Flat.{lines_wait, waiting_append}
use Rattle.pt_queue.proofs.Soonest.{value_line}
use Rattle.pt_queue.proofs.taking.take_value.Goals as goal

stays : (x y : Option ℤ) → is_some x ≡ true → x ≡ or_else x y
stays None y h = absurd (false≢true h)
stays (Some v) y h = refl

passes : (x y : Option ℤ) → is_some x ≡ false → y ≡ or_else x y
passes None y h = refl
passes (Some v) y h = absurd (false≢true (sym h))

or_none : (x : Option ℤ) → x ≡ or_else x None
or_none None = refl
or_none (Some v) = refl

pub returns-then-not-any_loose-clause-value : goal.returns-then-not-any_loose-clause-value
returns-then-not-any_loose-clause-value c =
    let line = line_at c.args.lines.now (8 * c.args.actor + c.args.port) in
    or_none c.take-taken.result.value
    ∙ ap₂ or_else (
    c.take-taken.ensures.value
    ∙ ap (λ n. value_on (line_at c.args.lines.now n) c.args.tag) c.line_number.ensures
    ∙ value_line c.args.table.now c.args.actor c.args.port c.args.tag line c.requires.port (c.requires.in_lines (8 * c.args.actor + c.args.port))
    ∙ sym (lines_wait c.args.table.now c.args.lines.now c.args.actor c.args.port c.args.tag c.requires.in_lines))
    (sym (c.requires.loose c.if-not-any_loose.true c.args.port c.args.tag))
    ∙ sym (waiting_append (all_of c.args.lines.now) c.args.loose.now.items c.args.actor c.args.port c.args.tag)

pub returns-then-is_some-clause-value : goal.returns-then-is_some-clause-value
returns-then-is_some-clause-value c =
    let loose = waiting_in c.args.loose.now.items c.args.actor c.args.port c.args.tag in
    let line = line_at c.args.lines.now (8 * c.args.actor + c.args.port) in
    stays c.take-taken.result.value loose (sym c.is_some.ensures ∙ c.if-is_some.true)
    ∙ ap (λ o. or_else o loose) (
    c.take-taken.ensures.value
    ∙ ap (λ n. value_on (line_at c.args.lines.now n) c.args.tag) c.line_number.ensures
    ∙ value_line c.args.table.now c.args.actor c.args.port c.args.tag line c.requires.port (c.requires.in_lines (8 * c.args.actor + c.args.port))
    ∙ sym (lines_wait c.args.table.now c.args.lines.now c.args.actor c.args.port c.args.tag c.requires.in_lines))
    ∙ sym (waiting_append (all_of c.args.lines.now) c.args.loose.now.items c.args.actor c.args.port c.args.tag)

pub returns-clause-value : goal.returns-clause-value
returns-clause-value c =
    let loose = waiting_in c.args.loose.now.items c.args.actor c.args.port c.args.tag in
    let line = line_at c.args.lines.now (8 * c.args.actor + c.args.port) in
    c.value_at.ensures
    ∙ passes c.take-taken.result.value loose (sym c.is_some.ensures ∙ c.if-is_some.false)
    ∙ ap (λ o. or_else o loose) (
    c.take-taken.ensures.value
    ∙ ap (λ n. value_on (line_at c.args.lines.now n) c.args.tag) c.line_number.ensures
    ∙ value_line c.args.table.now c.args.actor c.args.port c.args.tag line c.requires.port (c.requires.in_lines (8 * c.args.actor + c.args.port))
    ∙ sym (lines_wait c.args.table.now c.args.lines.now c.args.actor c.args.port c.args.tag c.requires.in_lines))
    ∙ sym (waiting_append (all_of c.args.lines.now) c.args.loose.now.items c.args.actor c.args.port c.args.tag)
