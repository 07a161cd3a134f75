-- The lines: the events of each input.
use Rattle.std.specs.Prelude.{◌≡◌, ℕ, ◌+◌, ◌*◌, ◌/◌, ◌%◌, ◌≤◌, List, [], ◌∷◌, ◌++◌, Option, Some, None, ℤ, length, slice_index_or, slice_set}
use Rattle.std.specs.List.{flat_map}
use Rattle.pt_tags.specs.declared.tag.Tag.{Tag}
use Rattle.pt_tags.specs.Tags.{same_tag, Before}
use Rattle.pt_types.specs.declared.firing.Event.{Event}
use Rattle.pt_types.specs.Ports.{when}
use Rattle.pt_semantics.specs.Lists.{Each, first_of}
use Rattle.pt_queue.specs.declared.groups.Groups.{Groups}
use Rattle.pt_queue.specs.Events.{IsPlaced}

-- the tags of events rise
abbrev pub TagsRise : List Event → Type 0
TagsRise [] = Unit {0}
TagsRise (e ∷ es) = Each (λ (x : Event). Before e.tag x.tag) es × TagsRise es

-- the first event of a line
abbrev pub first : List Event → Option Event
first [] = None
first (e ∷ es) = Some e

-- the value at a tag, among the events of a line
abbrev pub value_on : List Event → Tag → Option ℤ
value_on line t = first_of (λ (e : Event). when (same_tag e.tag t) (Some e.value)) line

-- the number of the line of an event's input
abbrev pub line_of_event : Event → ℕ
line_of_event e = 8 * e.actor + e.port

-- the events of line n
abbrev pub line_at : List (List Event) → ℕ → List Event
line_at lines n = slice_index_or lines n []

-- line 8 a + p has events only if p is below the end of actor a
abbrev pub AreWithinEnds : List (List Event) → List ℕ → Type 0
AreWithinEnds lines ends = (n : ℕ) → slice_index_or ends (n / 8) 0 ≤ n % 8 → line_at lines n ≡ []

-- the lines, and an end for each actor
pub record AreCovered (lines : List (List Event)) (ends : List ℕ) : Type 0 where
  pub ends_are : AreWithinEnds lines ends
  pub len : length lines ≤ 8 * length ends

-- the lines after an event is appended to its own
abbrev pub joined_by : List (List Event) → Event → List (List Event)
joined_by lines e = slice_set lines (line_of_event e) (line_at lines (line_of_event e) ++ e ∷ [])

-- the lines after these events are appended, in order
abbrev pub with_events : List (List Event) → List Event → List (List Event)
with_events lines [] = lines
with_events lines (e ∷ es) = with_events (joined_by lines e) es

-- the events of all lines
abbrev pub all_of : List (List Event) → List Event
all_of lines = flat_map (λ (line : List Event). line) lines

-- an event is in line n, the line of its actor and input
pub record IsInLine (table : List Groups) (n : ℕ) (e : Event) : Type 0 where
  pub line : line_of_event e ≡ n
  pub placed : IsPlaced table e

-- each event in a line belongs there
abbrev pub AreInLines : List Groups → List (List Event) → Type 0
AreInLines table lines = (n : ℕ) → Each (IsInLine table n) (line_at lines n)

-- the parts of a queue: eight lines for each actor, and the loose events, which are in no line yet
pub record AreKept (table : List Groups) (lines : List (List Event)) (loose : List Event) : Type 0 where
  pub count : length lines ≡ 8 * length table
  pub in_lines : AreInLines table lines
  pub placed : Each (IsPlaced table) loose
