use Rattle.pt_laws.proofs.Once.{no_port_twice}
use Rattle.pt_laws.proofs.histories.no_port_has_two_events.Goals as goal

pub returns : goal.returns
returns c = no_port_twice
