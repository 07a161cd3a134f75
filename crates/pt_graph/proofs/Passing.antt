-- What stands where a check found no fault.
use Rattle.std.proofs.Common.{◌≡◌, refl, Option, Some, None, Result, Ok}
use Rattle.std.specs.Prelude.{⊤}
use Rattle.pt_graph_text.specs.declared.fault.GraphFault.{GraphFault}
use Rattle.pt_graph_text.specs.Faults.{◌>>=◌}
use Rattle.pt_graph.specs.Chains.{refused}

-- a check found nothing, and the next step was made
pub check_before : {B : Type 0} (o : Option GraphFault) (f : ⊤ → Result B GraphFault) (b : B) → (refused o >>= f) ≡ Ok b → (o ≡ None) × (f tt ≡ Ok b)
check_before None f b h = (refl, h)
check_before (Some e) f b h = absurd cc
