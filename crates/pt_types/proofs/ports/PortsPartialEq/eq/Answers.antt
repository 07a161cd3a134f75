use Rattle.pt_types.proofs.Eight.{eq_apart}
use Rattle.pt_types.proofs.ports.PortsPartialEq.eq.Goals as goal

pub returns : goal.returns
returns c = search (eq_apart)
