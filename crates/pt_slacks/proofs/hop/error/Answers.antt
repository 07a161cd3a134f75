use Rattle.std.proofs.Common.{ap₂, ◌∙◌}
use Rattle.pt_semantics.specs.Bounds.{error_of}
use Rattle.pt_offsets.proofs.Small.{same_error}
use Rattle.pt_slacks.proofs.hop.error.Goals as goal

pub returns : goal.returns
returns c =
    c.error.ensures
    ∙ same_error c.args.graph.now c.platform_of-sender.result c.platform_of-receiver.result
    ∙ ap₂ (error_of c.args.graph.now) c.platform_of-sender.ensures c.platform_of-receiver.ensures
