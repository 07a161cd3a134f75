-- Faults and the places that they name.
use Rattle.std.specs.Prelude.{◌≡◌, ◌≢◌, ℕ, ◌-◌, ◌^◌, min, Option, Some, None, Result, Ok, Err}
use Rattle.pt_graph_text.specs.declared.fault.Part.{Part}
use Rattle.pt_graph_text.specs.declared.fault.Part.TheVariants as part
use Rattle.pt_graph_text.specs.declared.fault.Place.{Place}
use Rattle.pt_graph_text.specs.declared.fault.GraphFault.{GraphFault}
use Rattle.pt_graph_text.specs.declared.fault.GraphFault.TheVariants as fault

infixl 10 ◌>>=◌
abbrev pub ◌>>=◌ : {A B : Type 0} → Result A GraphFault → (A → Result B GraphFault) → Result B GraphFault
(Ok x) >>= f = f x
(Err e) >>= f = Err e

-- a reader's result is the one that the definition gives, unless memory ran out
abbrev pub Gives : {A : Type 0} → Result A GraphFault → Result A GraphFault → Type 0
Gives read (Ok x) = read ≡ Ok x
Gives read (Err e) = e ≢ fault.Memory → read ≡ Err e

-- the place of a part and an index; no file is long enough for an index of 2 ^ 32
abbrev pub at : Part → ℕ → Place
at p i = record { part = p; index = min i (2 ^ 32 - 1) }

abbrev pub top : Place
top = at part.Top 0

-- the value, or the fault if there is none
abbrev pub or_fault : {A : Type 0} → GraphFault → Option A → Result A GraphFault
or_fault e None = Err e
or_fault e (Some x) = Ok x

-- the parts of an array, or the fault of the first that could not be decoded
abbrev pub array_parts : {A : Type 0} → Part → Result A ℕ → Result A GraphFault
array_parts p (Ok xs) = Ok xs
array_parts p (Err i) = Err (fault.Member (at p i))
