-- A visit at a true time: of a platform whose messages are on their way, by an engine that owns the platform and all links.
use Rattle.std.specs.Prelude.{◌≡◌, ℕ, List, [], None, length}
use Rattle.pt_tags.specs.declared.message.Message.{Message}
use Rattle.pt_types.specs.declared.firing.Done.{Done}
use Rattle.pt_types.specs.declared.firing.OnLink.{OnLink}
use Rattle.pt_types.specs.declared.graph.Graph.{Graph}
use Rattle.pt_semantics.specs.Closing.{on_link}
use Rattle.pt_semantics.specs.Lists.{Each}
use Rattle.pt_types.specs.declared.air.Air.{Air}
use Rattle.pt_semantics.specs.Arrivals.{AirwayView}
use Rattle.pt_turn.specs.Posts.Posted.{AreDone}
use Rattle.pt_turn.specs.Platforms.{PlatformView, level_at, state_at}
use Rattle.pt_turn.specs.Turned.{MayCome}
use Rattle.pt_visits.specs.Pipes.{arriving}
use Rattle.pt_visits.specs.Visited.{IsVisited}
use Rattle.pt_replay.specs.Visits.Moments.{ArriveFrom}
use Rattle.pt_semantics.specs.TrueTime.{come_on, left_on, map_from, put_link, reading_at}

-- link l without what had come for platform i, and with the messages on it that the platform sent
abbrev pub airway_after : Air → Graph → ℕ → ℕ → List OnLink → ℕ → AirwayView → AirwayView
airway_after air g i now sent l a = put_link air g now l (on_link l sent) (left_on g i now l a)

-- a platform without a fault may be visited at a true time, with these results: for each link there are messages on their way, an
-- empty pipe and a list of transits; no message arrives before these times, one for each platform; the results are the platform's
-- own; and the messages that have come may come next
pub record MayBeVisited (air : Air) (now : ℕ) (results : List Done) (v : PlatformView) (on_way : List AirwayView) (earliest : List ℕ) (piped : List (List Message)) : Type 0 where
  pub no_fault : v.fault ≡ None
  pub airways : length on_way ≡ length v.plan.graph.links
  pub arrivals : ArriveFrom v.plan.graph earliest on_way
  pub pipes : length piped ≡ length v.plan.graph.links
  pub empty : Each (λ (pipe : List Message). pipe ≡ []) piped
  pub transits : length air.transits ≡ length v.plan.graph.links
  pub done : AreDone v.plan.graph results
  pub taken : MayCome v.plan.graph (level_at v) v.number (state_at v) (arriving v.plan.graph v.number 0 (map_from (come_on v.plan.graph v.number now) 0 on_way))

-- at a true time a platform was visited at the reading of its clock, with the messages that had come, and what it sent is on
-- its way. Messages that had come are no longer on their way, even if the platform took none of them after a late one
pub record WasVisitedAt (air : Air) (now : ℕ) (dones results : List Done) (old new : PlatformView) (before after : List AirwayView) : Type 0 where
  -- what it pushed into the pipes
  pub piped : List (List Message)
  pub visited : IsVisited 64 (reading_at air old.number now) dones results old new (map_from (come_on old.plan.graph old.number now) 0 before) piped
  pub airways : after ≡ map_from (airway_after air old.plan.graph old.number now visited.turn.sent) 0 before
