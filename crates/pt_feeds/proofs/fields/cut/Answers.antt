use Rattle.std.proofs.Common.{Some, None}
use Rattle.std.proofs.lemmas.List.{take_rest}
use Rattle.pt_feeds.proofs.Cutting.{cut_at}
use Rattle.pt_feeds.proofs.fields.cut.Goals as goal

pub returns-in-Some : goal.returns-in-Some
returns-in-Some c = rw take_rest (cut_at c.args.line.now (Some c.in-Some.comma) c.in-Some.ensures)

pub returns-in-None : goal.returns-in-None
returns-in-None c = cut_at c.args.line.now None c.in-None.ensures
