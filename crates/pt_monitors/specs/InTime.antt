-- Whether the results of recorded turns were posted in time.
use Rattle.std.specs.Prelude.{◌≡◌, ◌≤◌, ℕ, List, None, Option, Some, option_map, slice_get}
use Rattle.pt_tags.specs.declared.tag.Tag.{Tag}
use Rattle.pt_types.specs.declared.graph.Graph.{Graph}
use Rattle.pt_semantics.specs.Lists.{Each}
use Rattle.pt_semantics.specs.Turn.{Turn}
use Rattle.pt_history.specs.Turns.{Dated, all_dated}
use Rattle.pt_monitors.specs.Misses.{miss_of_result, miss_past}

-- a result, posted at this reading, is no miss
abbrev pub IsInTime : Graph → Dated → Type 0
IsInTime g d = miss_of_result g d.reading d.done ≡ None

-- if there is a result, it is no miss
abbrev pub HasNoMiss : Graph → Option Dated → Type 0
HasNoMiss g o = (d : Dated) → o ≡ Some d → IsInTime g d

-- no result of these turns is a miss
abbrev pub AreInTime : Graph → List Turn → Type 0
AreInTime g turns = Each (IsInTime g) (all_dated turns)

-- no turn ends after this reading
abbrev pub EndBy : ℕ → List Turn → Type 0
EndBy r turns = Each (λ (turn : Turn). turn.last ≤ r) turns

-- result number n of all turns was posted at a reading that is no miss of this actor at the tag with the slack
abbrev pub IsPostedBy : List Turn → ℕ → ℕ → Tag → ℕ → Type 0
IsPostedBy turns n actor tag slack = option_map (λ (d : Dated). miss_past d.reading actor tag slack) (slice_get (all_dated turns) n) ≡ Some None
