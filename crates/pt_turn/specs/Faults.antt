-- The fault of a turn.
use Rattle.std.specs.Prelude.{◌≡◌, ℕ, List, Option, None, Some}
use Rattle.pt_tags.specs.declared.tag.Tag.{Tag}
use Rattle.pt_types.specs.declared.graph.Graph.{Graph}
use Rattle.pt_types.specs.declared.firing.OnLink.{OnLink}
use Rattle.pt_turn.specs.declared.claim_step.TurnEnd.{TurnEnd}
use Rattle.pt_turn.specs.declared.claim_step.TurnEnd.TheVariants.{On, Late, Long}
use Rattle.pt_turn.specs.declared.fault.TurnFault.{TurnFault}
use Rattle.pt_turn.specs.declared.fault.TurnFault.TheVariants.{Late as LateFault, Long as LongFault}
use Rattle.pt_turn.specs.Running.{LastIsLate}

-- the last of these messages is late
abbrev pub SomeIsLate : Graph → Option ℕ → List OnLink → Type 0
SomeIsLate g last messages = (actor : ℕ) × (tag : Tag) × (reading : ℕ) × (limit : ℕ) × LastIsLate g last messages actor tag reading limit

-- the fault names the late message
abbrev pub NamesLate : Graph → Option ℕ → List OnLink → TurnFault → Type 0
NamesLate g last messages (LateFault actor tag reading limit) = LastIsLate g last messages actor tag reading limit
NamesLate g last messages LongFault = ⊥

-- the fault of a turn with this ending: none for On
abbrev pub IsFaultOf : Graph → Option ℕ → List OnLink → TurnEnd → Option TurnFault → Type 0
IsFaultOf g last messages On fault = fault ≡ None
IsFaultOf g last messages Long fault = fault ≡ Some LongFault
IsFaultOf g last messages Late None = ⊥
IsFaultOf g last messages Late (Some fault) = NamesLate g last messages fault
