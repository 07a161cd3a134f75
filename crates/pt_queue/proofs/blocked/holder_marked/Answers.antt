use Rattle.std.proofs.Common.{sym, ◌∙◌}
use Rattle.pt_causality.specs.Delays.{least_of}
use Rattle.pt_queue.proofs.Finding.{found_among, none_shared}
use Rattle.pt_queue.proofs.blocked.holder_marked.Goals as goal

pub returns : goal.returns
returns c = found_among c.args.table.now (least_of c.args.least.now) c.args.unit c.args.tag c.args.tags.now c.span-span.result.from c.span-span.result.end c.span-span.ensures
    c.max-middle.result c.holder_in_words-found.result c.holder_in_words.result c.holder_in_words-found.ensures (sym c.is_some.ensures ∙ c.if-is_some.false) c.holder_in_words.ensures

pub returns-then-shares_none : goal.returns-then-shares_none
returns-then-shares_none c = none_shared c.args.table.now (least_of c.args.least.now) c.args.unit c.args.tag c.args.tags.now c.span-span.result.from c.span-span.result.end c.span-span.ensures
    c.marks-marks.result.now c.args.before.now c.marks-marks.ensures.marks c.requires (c.shares_none.ensures.group c.if-shares_none.true) (c.shares_none.ensures.none c.if-shares_none.true)
