use Rattle.std.proofs.Common.{List, sym, subst}
use Rattle.pt_types.specs.declared.firing.OnLink.{OnLink}
use Rattle.pt_turn.specs.Faults.{IsFaultOf, SomeIsLate}
use Rattle.pt_turn.proofs.made_turn.keep_last.Goals as goal

pub fault_of-fault-requires : goal.fault_of-fault-requires
fault_of-fault-requires c = record { late = λ e. subst (SomeIsLate c.args.plan.now.graph c.args.last) (sym c.as_slice.ensures.value) (c.requires.late e) }

pub returns-clause-fault : goal.returns-clause-fault
returns-clause-fault c = subst (λ (ms : List OnLink). IsFaultOf c.args.plan.now.graph c.args.last ms c.args.ending c.fault_of-fault.result) c.as_slice.ensures.value c.fault_of-fault.ensures
