use Rattle.std.proofs.Common.{◌∙◌}
use Rattle.pt_offsets.proofs.Small.{same_error}
use Rattle.pt_offsets.proofs.bounds.error.Goals as goal

pub returns : goal.returns
returns c = c.error.ensures ∙ same_error c.args.graph.now c.args.a c.args.b
