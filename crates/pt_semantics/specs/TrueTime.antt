-- Clocks that lag behind true time, and messages on their way.
use Rattle.std.specs.Prelude.{◌==◌, ◌+◌, ◌-◌, [], ◌∷◌, suc, ℕ, List, drop, filter, if◌then◌else◌, length, map, min, nat_le, option_map, slice_get, slice_index_or, take, unwrap_or}
use Rattle.pt_tags.specs.declared.message.Message.{Message}
use Rattle.pt_types.specs.declared.graph.Graph.{Graph}
use Rattle.pt_types.specs.declared.graph.Link.{Link}
use Rattle.pt_types.specs.declared.air.Air.{Air}
use Rattle.pt_types.specs.declared.air.InAir.{InAir}
use Rattle.pt_semantics.specs.Arrivals.{AirwayView, airway_with}
use Rattle.pt_semantics.specs.Visits.{leads_to}

-- how far the clock of platform i lags behind true time
abbrev pub lag_of : Air → ℕ → ℕ
lag_of air i = slice_index_or air.lags i 0

-- what the clock of platform i reads at a true time; 0 until its lag has passed
abbrev pub reading_at : Air → ℕ → ℕ → ℕ
reading_at air i now = now - lag_of air i

-- the true time from which on the clock of platform i reads v
abbrev pub true_time : Air → ℕ → ℕ → ℕ
true_time air i v = if v == 0 then 0 else v + lag_of air i

-- the recorded transits of link l
abbrev pub transits_on : Air → ℕ → List ℕ
transits_on air l = slice_index_or air.transits l []

-- the delay of link l
abbrev pub delay_on : Graph → ℕ → ℕ
delay_on g l = unwrap_or (option_map (λ (link : Link). link.delay) (slice_get g.links l)) 0

-- how many messages a visit takes from a link: those that have arrived, at most 64
abbrev pub came : ℕ → List InAir → ℕ
came now ms = min 64 (length (filter (λ (m : InAir). nat_le m.arrives now) ms))

-- the messages on link l that platform i takes at this time
abbrev pub come_on : Graph → ℕ → ℕ → ℕ → AirwayView → List Message
come_on g i now l a = if leads_to g i (slice_get g.links l) then map (λ (m : InAir). m.message) (take (came now a.on_way) a.on_way) else []

-- link l without these messages
abbrev pub left_on : Graph → ℕ → ℕ → ℕ → AirwayView → AirwayView
left_on g i now l a = if leads_to g i (slice_get g.links l) then record a { on_way = drop (came now a.on_way) a.on_way } else a

-- the airway with these messages, which are put on it at this time, one after the other
abbrev pub put_all : ℕ → List ℕ → ℕ → List Message → AirwayView → AirwayView
put_all now transits delay [] a = a
put_all now transits delay (m ∷ ms) a = put_all now transits delay ms (airway_with now transits delay m a)

-- link l with these messages, which are put on it at this time
abbrev pub put_link : Air → Graph → ℕ → ℕ → List Message → AirwayView → AirwayView
put_link air g now l ms a = put_all now (transits_on air l) (delay_on g l) ms a

-- what f gives for each item and its index; the first item has index n
abbrev pub map_from : {A B : Type 0} → (ℕ → A → B) → ℕ → List A → List B
map_from f n [] = []
map_from f n (x ∷ xs) = f n x ∷ map_from f (suc n) xs
