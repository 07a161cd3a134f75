use Rattle.std.proofs.Common.{sym, ◌∙◌, arith}
use Rattle.std.proofs.lemmas.List.{take_rest}
use Rattle.pt_audit.proofs.Parsing.Passing.{log_found, log_missed, passed_more}
use Rattle.pt_audit.proofs.parse.cursor.log_at.Goals as goal

pub returns-then-starts_with : goal.returns-then-starts_with
returns-then-starts_with c =
    let bytes = c.args.bytes.now in
    let rest = take_rest bytes c.loop-place.place in
    log_found bytes c.loop-place.place c.loop-place.line c.loop-place.invariant (rw rest at (sym c.starts_with.ensures.value ∙ c.if-starts_with.true))

pub overflow_add-line : goal.overflow_add-line
overflow_add-line c = omega (arith, c.loop-place.invariant.few, c.loop-place-test.true, c.requires)

pub loop-place-preserved : goal.loop-place-preserved
loop-place-preserved c =
    let bytes = c.args.bytes.now in
    let rest = take_rest bytes c.loop-place.place in
    passed_more bytes c.loop-place.place c.loop-place.line c.line_len-place.result c.loop-place.invariant (rw rest at c.line_len-place.ensures)
    (rw rest at (sym c.starts_with.ensures.value ∙ c.if-starts_with.false))

pub returns : goal.returns
returns c =
    log_missed c.args.bytes.now c.loop-place.place c.loop-place.line c.loop-place.invariant c.loop-place-test.false
