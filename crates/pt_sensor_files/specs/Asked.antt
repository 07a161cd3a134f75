-- The files that a source was asked for.
use Rattle.std.specs.Prelude.{◌≡◌, ◌⊎◌, ℕ, ◌+◌, List, [], ◌∷◌, ◌++◌, Option, Some, IfSome, take}
use Rattle.pt_io.specs.Calls.{SourceCall}
use Rattle.pt_io.specs.Causes.{Rose}
use Rattle.pt_types.specs.declared.graph.Graph.{Graph}
use Rattle.pt_types.specs.declared.graph.Actor.{Actor}
use Rattle.pt_types.specs.declared.kind.Kind.{Kind}
use Rattle.pt_types.specs.declared.kind.Kind.TheVariants.{Sensor}
use Rattle.pt_sensor_files.specs.declared.recorded_fault.RecordedFault.{RecordedFault}
use Rattle.pt_sensor_files.specs.declared.recorded_fault.RecordedFault.TheVariants as fault

-- these names were asked for, in this order, if the source reports names
abbrev pub Asks : Option (List (List ℕ)) → Option (List (List ℕ)) → List (List ℕ) → Type 0
Asks before now names = IfSome before (λ b. now ≡ Some (b ++ names))

-- these names were asked for, or none
abbrev pub AsksOrNot : Option (List (List ℕ)) → Option (List (List ℕ)) → List (List ℕ) → Type 0
AsksOrNot before now names = Asks before now [] ⊎ Asks before now names

-- these names were asked for before this fault; if memory ran out, perhaps none of them
abbrev pub AsksBy : RecordedFault → Option (List (List ℕ)) → Option (List (List ℕ)) → List (List ℕ) → Type 0
AsksBy fault.Memory before now names = AsksOrNot before now names
AsksBy _ before now names = Asks before now names

-- a read of this name failed: it was asked for last, after the others, and the source's count of faults rose
pub record ReadFails (others : List (List ℕ)) (name : List ℕ) (r : SourceCall) : Type 0 where
  pub asked : Asks r.asked_before r.asked_now (others ++ name ∷ [])
  pub rose : Rose r.before r.now

-- the file of a sensor; other kinds have none
abbrev pub file_of : Kind → List (List ℕ)
file_of (Sensor file bound) = file ∷ []
file_of _ = []

-- the files of the sensors among these actors, in their order
abbrev pub sensor_files : List Actor → List (List ℕ)
sensor_files [] = []
sensor_files (a ∷ actors) = file_of a.kind ++ sensor_files actors

-- the files of the sensors among the first n actors
abbrev pub files_before : Graph → ℕ → List (List ℕ)
files_before g n = sensor_files (take n g.actors)

-- the files of the sensors among the first actors were asked for, for some number of actors
abbrev pub AsksFiles : Graph → Option (List (List ℕ)) → Option (List (List ℕ)) → Type 0
AsksFiles g before now = (n : ℕ) × Asks before now (files_before g n)

-- the files that were asked for before this fault: those of the sensors up to its actor; if memory ran out, those of the first actors
abbrev pub AsksUpTo : RecordedFault → Graph → Option (List (List ℕ)) → Option (List (List ℕ)) → Type 0
AsksUpTo fault.Memory g before now = AsksFiles g before now
AsksUpTo (fault.Read actor) g before now = Asks before now (files_before g (actor + 1))
AsksUpTo (fault.Sensor actor f) g before now = Asks before now (files_before g (actor + 1))
AsksUpTo (fault.Late actor row seen limit) g before now = Asks before now (files_before g (actor + 1))
