-- Searches through a list of events.
use Rattle.std.specs.Prelude.{ℕ, ◌==◌, ◌&&◌, Bool, false, not, List, [], ◌∷◌, Option, Some, None, if◌then◌else◌}
use Rattle.pt_tags.specs.declared.tag.Tag.{Tag}
use Rattle.pt_tags.specs.declared.tag.Delay.{Delay}
use Rattle.pt_tags.specs.Tags.{same_tag, tag_lt, plus}
use Rattle.pt_types.specs.declared.firing.Event.{Event}
use Rattle.pt_types.specs.declared.graph.Unit.{Unit}
use Rattle.pt_semantics.specs.Units.{same_part}
use Rattle.pt_queue.specs.declared.groups.Groups.{Groups}
use Rattle.pt_queue.specs.Groups.{group_in}

-- the unit that an event waits for
abbrev pub unit_in : List Groups → Event → Unit
unit_in table e = record { actor = e.actor; group = group_in table e.actor e.port }

-- an event waits at an input of this actor
abbrev pub is_for : ℕ → Event → Bool
is_for a e = e.actor == a

-- an event waits for this unit
abbrev pub is_of : List Groups → Unit → Event → Bool
is_of table u e = same_part (unit_in table e) u

-- an event waits for this unit at this tag
abbrev pub is_at : List Groups → Unit → Tag → Event → Bool
is_at table u t e = is_of table u e && same_tag t e.tag

-- the lesser of the least tag so far and another tag
abbrev pub sooner : Option Tag → Tag → Option Tag
sooner None t = Some t
sooner (Some b) t = if tag_lt t b then Some t else Some b

-- the lesser of the least tag so far and that of an event, if there is one
abbrev pub sooner_first : Option Tag → Option Event → Option Tag
sooner_first best None = best
sooner_first best (Some e) = sooner best e.tag

-- the lesser of the two if b is true, else the least tag so far
abbrev pub sooner_if : Bool → Option Tag → Tag → Option Tag
sooner_if b best t = if b then sooner best t else best

-- the least of the tag so far and the tags of the unit's events
abbrev pub least_from : List Groups → Unit → Option Tag → List Event → Option Tag
least_from table u best [] = best
least_from table u best (e ∷ events) = least_from table u (sooner_if (is_of table u e) best e.tag) events

-- an event at w leads to t or before, along a path of this delay; None means no path
abbrev pub reaches : Option Delay → Tag → Tag → Bool
reaches None w t = false
reaches (Some d) w t = not (tag_lt t (plus w d))
