-- The least tags of the units that have events, by place.
use Rattle.std.specs.Prelude.{◌≡◌, ℕ, ◌+◌, ◌*◌, ◌/◌, ◌<◌, ◌≤◌, ◌&&◌, ◌⊎◌, nat_lt, not, Bool, false, true, List, Option, Some, None, length, slice_index_or, if◌then◌else◌}
use Rattle.pt_tags.specs.declared.tag.Tag.{Tag}
use Rattle.pt_tags.specs.declared.tag.Delay.{Delay}
use Rattle.pt_types.specs.declared.firing.Event.{Event}
use Rattle.pt_types.specs.declared.graph.Unit.{Unit}
use Rattle.pt_semantics.specs.Units.{same_part}
use Rattle.pt_queue.specs.declared.groups.Groups.{Groups}
use Rattle.pt_queue.specs.declared.waiting.Waiting.{Waiting}
use Rattle.pt_queue.specs.Groups.{groups_at, group_in}
use Rattle.pt_queue.specs.Events.{unit_place}
use Rattle.pt_queue.specs.Scans.{least_from, reaches}

-- a unit has its place among n units, eight for each actor
abbrev pub FitsIn : ℕ → Unit → Type 0
FitsIn n u = (u.group < 8) × (8 * u.actor + 8 ≤ n)

-- a unit with events differs from u, and its least tag leads to u at t or before
abbrev pub holds_up : List Groups → (Unit → Unit → Option Delay) → Unit → Tag → Waiting → Bool
holds_up table least u t w = not (same_part w.unit u) && (reaches (least w.unit u) w.tag t && nat_lt w.unit.group (groups_at table w.unit.actor).count)

-- unit x differs from u, it has this tag, and the tag leads to u at t or before
abbrev pub tag_holds_up : List Groups → (Unit → Unit → Option Delay) → Unit → Tag → Unit → Option Tag → Bool
tag_holds_up table least u t x None = false
tag_holds_up table least u t x (Some w) = holds_up table least u t (record { unit = x; tag = w })

-- the tag at a unit's place, eight places for each actor
abbrev pub tag_in : List (Option Tag) → Unit → Option Tag
tag_in tags u = if nat_lt u.group 8 then slice_index_or tags (unit_place u) None else None

-- unit x has a tag, differs from u, and the tag leads to u at t or before
abbrev pub unit_holds_up : List Groups → (Unit → Unit → Option Delay) → Unit → Tag → List (Option Tag) → Unit → Bool
unit_holds_up table least u t tags x = tag_holds_up table least u t x (tag_in tags x)

-- some unit does
abbrev pub SomeHoldsUp : List Groups → (Unit → Unit → Option Delay) → Unit → Tag → List (Option Tag) → Type 0
SomeHoldsUp table least u t tags = (x : Unit) × (unit_holds_up table least u t tags x ≡ true)

-- at each unit's place is the least tag of its events, eight places for each actor, and each group number is below 8
pub record AreTags (table : List Groups) (events : List Event) (tags : List (Option Tag)) : Type 0 where
  pub room : length tags ≡ 8 * length table
  pub few : (a p : ℕ) → p < 8 → group_in table a p < 8
  pub least : (u : Unit) → tag_in tags u ≡ least_from table u None events

-- w is the first unit with a tag whose place isn't before n; or, for None, no unit with such a place has a tag
abbrev pub IsFirstTag : List (Option Tag) → ℕ → Option Waiting → Type 0
IsFirstTag tags n None = (u : Unit) (t : Tag) → tag_in tags u ≡ Some t → unit_place u < n
IsFirstTag tags n (Some w) = (tag_in tags w.unit ≡ Some w.tag) × (n ≤ unit_place w.unit) × ((u : Unit) (t : Tag) → tag_in tags u ≡ Some t → (unit_place u < n) ⊎ (unit_place w.unit ≤ unit_place u))

-- a time for each word of 64 places: no tag there is before it
pub record AreFloors (tags : List (Option Tag)) (times : List ℕ) : Type 0 where
  pub floors : (n : ℕ) (t : Tag) → slice_index_or tags n None ≡ Some t → slice_index_or times (n / 64) 0 ≤ t.time
  pub len : length times ≡ length tags / 64 + 1

-- no unit but u has a tag
abbrev pub IsOnlyTag : List (Option Tag) → Unit → Type 0
IsOnlyTag tags u = (x : Unit) (t : Tag) → tag_in tags x ≡ Some t → x ≡ u
