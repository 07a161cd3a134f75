use Rattle.std.proofs.Common.{w64, ap, ◌∙◌, Some}
use Rattle.std.specs.Prelude.{slice_set}
use Rattle.std.proofs.lemmas.Int.{to_z-of_z}
use Rattle.pt_types.specs.Apart.{together}
use Rattle.pt_types.proofs.Eight.{apart_put, together_put}
use Rattle.pt_types.proofs.ports.Ports.put.Goals as goal

pub invariant_of-self : goal.invariant_of-self
invariant_of-self c = apart_put c.self.inside.there c.self.inside.values c.args.port _ c.self.invariant

pub returns : goal.returns
returns c = together_put c.self.inside.there c.self.inside.values c.args.port _ c.self.invariant ∙ ap (λ v. slice_set (together c.self.inside.there c.self.inside.values) c.args.port (Some v)) (to_z-of_z w64 c.args.value c.ranges.value) ∙ ap (λ xs. slice_set xs c.args.port (Some c.args.value)) c.self.view_is
