use Rattle.std.proofs.Common.{drop, sym, ◌∙◌}
use Rattle.std.proofs.lemmas.List.{take_rest}
use Rattle.pt_audit.proofs.Parsing.Passing.{begins_from_starts, begins_not, first_block_is, more_of_first}
use Rattle.pt_audit.proofs.parse.cursor.block_extent.Goals as goal

pub loop-len-preserved : goal.loop-len-preserved
loop-len-preserved c =
    let bytes = c.args.bytes.now in
    let rest = take_rest bytes c.loop-len.len in
    more_of_first bytes c.loop-len.len c.loop-len.lines c.line_len-len-in-loop-len.result c.loop-len.invariant
    (rw rest at c.line_len-len-in-loop-len.ensures)
    (begins_not (drop c.loop-len.len bytes) (rw rest at (sym c.starts_with.ensures.value ∙ c.if-not-starts_with.true)))

pub returns-else-not-starts_with : goal.returns-else-not-starts_with
returns-else-not-starts_with c =
    let bytes = c.args.bytes.now in
    let rest = take_rest bytes c.loop-len.len in
    first_block_is bytes c.loop-len.len c.loop-len.lines c.loop-len.invariant
    (begins_from_starts (drop c.loop-len.len bytes) (rw rest at (sym c.starts_with.ensures.value ∙ c.if-not-starts_with.false)))
