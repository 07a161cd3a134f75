use Rattle.std.proofs.Common.{ap₂, ◌∙◌}
use Rattle.pt_semantics.specs.Bounds.{error_of}
use Rattle.pt_air.proofs.Errors.{same_error}
use Rattle.pt_air.proofs.breach.error_on.Goals as goal

pub returns : goal.returns
returns c =
    c.error.ensures
    ∙ same_error c.args.graph.now c.platform_of.result c.platform_of-2.result
    ∙ ap₂ (error_of c.args.graph.now) c.platform_of.ensures c.platform_of-2.ensures
