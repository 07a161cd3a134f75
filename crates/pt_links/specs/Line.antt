-- What was sent is what was taken and then what the queue holds. At most one pass sends, and it has the list of what was
-- sent. The same is true of taking. If the link has its receiver's bounds, what was sent is orderly for that receiver.
use Rattle.std.specs.Prelude.{◌≡◌, ℕ, Bool, true, List, Option, None, Some, ◌++◌}
use mathlib.Core.Option.{some}
use lib.ListN.{get_elem?}
use Rattle.pt_tags.specs.declared.message.Message.{Message}
use Rattle.pt_semantics.specs.Lists.{Each}
use Rattle.pt_semantics.specs.Orderly.{FitsStep, InOrder as Ordered}
use Rattle.pt_links.specs.declared.rule.Bounds.{Bounds}
use Rattle.pt_links.specs.declared.rule.Log.{Log}

abbrev pub log : Bool → Bool → Option Bounds → List Message → List Message → Log
log a b limits sent taken = record { sends = a; takes = b; limits = limits; sent = sent; taken = taken }

-- the messages are orderly for a receiver with these bounds
abbrev pub IsOrderlyBy : Option Bounds → List Message → Type 0
IsOrderlyBy None ms = Unit {0}
IsOrderlyBy (Some b) ms = Ordered ms × Each (FitsStep b.until b.actors b.level) ms

abbrev pub LineFits : ℕ → ℕ → Option Bounds → List Message → List Message → ℕ → Log → Type 0
LineFits writer reader limits sent taken port v = (v.sends ≡ true → (port ≡ writer) × (v.sent ≡ sent) × (v.limits ≡ limits)) × (v.takes ≡ true → (port ≡ reader) × (v.taken ≡ taken) × (v.limits ≡ limits))

pub record LineInOrder (items : List Message) (views : List Log) : Type 0 where
  pub writer : ℕ
  pub reader : ℕ
  pub limits : Option Bounds
  pub sent : List Message
  pub taken : List Message
  pub split : sent ≡ taken ++ items
  pub orderly : IsOrderlyBy limits sent
  pub fits : (port : ℕ) (v : Log) → get_elem? views port ≡ some v → LineFits writer reader limits sent taken port v
