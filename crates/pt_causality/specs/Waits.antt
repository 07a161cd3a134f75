-- The order of pending units by their delays.
use Rattle.std.specs.Prelude.{ℕ, Bool, List, Option, not}
use Rattle.std.specs.declared.cmp.Reverse.{Reverse}
use Rattle.std.specs.List.{All, Contains}
use Rattle.std.specs.declared.cmp.Ordering.{Ordering}
use Rattle.std.specs.Option.{is_some}
use Rattle.std.specs.Ordering.{nat_cmp, ordering_then}
use Rattle.pt_tags.specs.declared.tag.Delay.{Delay}
use Rattle.pt_tags.specs.Tags.{AtMost, then}
use Rattle.pt_causality.specs.declared.arcs.Arc.{Arc}
use Rattle.pt_causality.specs.declared.frontier.FoundUnit.{FoundUnit}
use Rattle.pt_causality.specs.Cells.{delay_at}

-- by time, then by step, then by the number of the unit
abbrev pub compared : FoundUnit → FoundUnit → Ordering
compared w v = ordering_then (ordering_then (nat_cmp w.at.time v.at.time) (nat_cmp w.at.step v.at.step)) (nat_cmp w.unit v.unit)

-- the unit with this number, pending at this delay
abbrev pub waiting_at : Delay → ℕ → FoundUnit
waiting_at d u = record { at = d; unit = u }

-- no other has a smaller delay
abbrev pub HasLeastDelay : FoundUnit → List FoundUnit → Type 0
HasLeastDelay w all = All (λ (v : FoundUnit). AtMost w.at v.at) all

-- none of these has a delay smaller than d
abbrev pub NoneBefore : Delay → List (Reverse FoundUnit) → Type 0
NoneBefore d all = All (λ (r : Reverse FoundUnit). AtMost d r.0.at) all

-- one of these has a delay of at most d
abbrev pub SomeBefore : Delay → List (Reverse FoundUnit) → Type 0
SomeBefore d all = (r : Reverse FoundUnit) × Contains all r × AtMost r.0.at d

-- the unit to which an arc leads, pending at the delay of the arc's start plus its weight
abbrev pub reached : Delay → Arc → FoundUnit
reached at a = record { at = then at a.weight; unit = a.to }

-- the arc leads to a place that is not settled
abbrev pub is_open : List (Option Delay) → Arc → Bool
is_open row a = not (is_some (delay_at row a.to))
