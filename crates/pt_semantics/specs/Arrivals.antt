-- When the messages of a link arrive.
use Rattle.std.specs.Prelude.{ℕ, ◌+◌, ◌≤◌, List, [], ◌∷◌, ◌++◌, Option, Some, None, max, nat_le, slice_index_or, if◌then◌else◌}
use Rattle.pt_tags.specs.declared.message.Message.{Message}
use Rattle.pt_tags.specs.declared.message.Message.TheVariants.{End, Event}
use Rattle.pt_types.specs.declared.air.InAir.{InAir}

-- the messages on their way, the oldest first, with the arrival of the last one that was put, and the number of events that were put
pub record AirwayView : Type 0 where
  pub on_way : List InAir
  pub latest : ℕ
  pub events : ℕ

-- an airway on which nothing was put
abbrev pub empty_airway : AirwayView
empty_airway = record { on_way = []; latest = 0; events = 0 }

-- how long a message takes: an event its recorded transit, and the delay of the link if none is recorded; the last message takes the delay
abbrev pub transit_of : List ℕ → ℕ → ℕ → Message → ℕ
transit_of transits delay events (Event tag value) = slice_index_or transits events delay
transit_of transits delay events End = delay

-- how many events were put, with this message
abbrev pub events_with : ℕ → Message → ℕ
events_with events (Event tag value) = events + 1
events_with events End = events

-- when a message arrives that is put at `now`: not before the message before it
abbrev pub arrival_of : ℕ → List ℕ → ℕ → Message → AirwayView → ℕ
arrival_of now transits delay message a = max (now + transit_of transits delay a.events message) a.latest

-- the airway with a message that is put on it at `now`
abbrev pub airway_with : ℕ → List ℕ → ℕ → Message → AirwayView → AirwayView
airway_with now transits delay message a =
    let arrives = arrival_of now transits delay message a in
    record { on_way = a.on_way ++ record { arrives = arrives; message = message } ∷ []; latest = arrives; events = events_with a.events message }

-- the oldest message, if it has arrived
abbrev pub first_arrived : ℕ → List InAir → Option Message
first_arrived now [] = None
first_arrived now (m ∷ ms) = if nat_le m.arrives now then Some m.message else None

-- the messages without the oldest one, if that has arrived
abbrev pub rest_after : ℕ → List InAir → List InAir
rest_after now [] = []
rest_after now (m ∷ ms) = if nat_le m.arrives now then ms else m ∷ ms

-- the airway without its oldest message, if that has arrived
abbrev pub left_after : ℕ → AirwayView → AirwayView
left_after now a = record a { on_way = rest_after now a.on_way }

-- arrivals never fall, from `least` on, and none is later than `latest`
abbrev pub NeverFall : ℕ → List InAir → ℕ → Type 0
NeverFall least [] latest = least ≤ latest
NeverFall least (m ∷ ms) latest = (least ≤ m.arrives) × NeverFall m.arrives ms latest
