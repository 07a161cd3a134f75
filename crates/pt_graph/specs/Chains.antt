-- The first of several faults, and the first of several places.
use Rattle.std.specs.Prelude.{ℕ, List, Bool, Option, Some, None, Result, Ok, Err, ⊤, option_map}
use Rattle.std.specs.Option.{option_or}
use Rattle.std.specs.List.{position_from}
use Rattle.pt_graph_text.specs.declared.fault.Part.{Part}
use Rattle.pt_graph_text.specs.declared.fault.Place.{Place}
use Rattle.pt_graph_text.specs.declared.fault.GraphFault.{GraphFault}
use Rattle.pt_graph_text.specs.Faults.{at}

-- the first value, or the second if the first is absent
infixl 5 ◌<|>◌
abbrev pub ◌<|>◌ : {A : Type 0} → Option A → Option A → Option A
a <|> b = option_or a b

-- the place of a part and an index, if there is an index
abbrev pub found : Part → Option ℕ → Option Place
found p o = option_map (at p) o

-- an error if there is a fault
abbrev pub refused : Option GraphFault → Result ⊤ GraphFault
refused None = Ok tt
refused (Some e) = Err e

-- the index of the first item that passes a test
abbrev pub first_index : {A : Type 0} → (A → Bool) → List A → Option ℕ
first_index test xs = position_from test 0 xs
