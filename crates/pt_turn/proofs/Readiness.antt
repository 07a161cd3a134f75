-- What always holds of a platform makes it ready for a turn.
use Rattle.std.proofs.Common.{◌≡◌, ℕ, ◌≤◌, List, Option, Some, None, length, refl, subst, arith}
use Rattle.std.specs.Prelude.{MatchOption}
use Rattle.std.specs.Arc.{arc_value}
use Rattle.pt_types.specs.declared.firing.Done.{Done}
use Rattle.pt_types.specs.declared.firing.OnLink.{OnLink}
use Rattle.pt_semantics.proofs.LawfulEdges.{wired}
use Rattle.pt_semantics.specs.Wired.{IsWired}
use Rattle.pt_semantics.specs.History.{claims_of}
use Rattle.pt_causality.specs.Ranked.{level_of}
use Rattle.pt_turn.specs.Fields.State.{rows_at_sensors, state_of}
use Rattle.pt_turn.specs.Posts.Posted.{AreDone}
use Rattle.pt_turn.proofs.Posts.Fitting.{open_claims_fit}
use Rattle.pt_turn.specs.Takes.Taken.{Basis}
use Rattle.pt_turn.specs.declared.fault.TurnFault.{TurnFault}
use Rattle.pt_turn.specs.declared.room.Room.{Room}
use Rattle.pt_turn.specs.declared.platform.Platform.TheInside.{Inside}
use Rattle.pt_turn.specs.Making.{CanKeep, IsReady}
use Rattle.pt_turn.specs.Platforms.{IsPlatform, IsRoomy, platform_graph, messages_of, raised_to, state_at, view_of}
use Rattle.pt_turn.specs.Running.{Ran}
use Rattle.pt_turn.specs.Turned.{IsEnough, MayCome}
use Rattle.pt_turn.proofs.Coming.{arrive}
use Rattle.pt_turn.proofs.Rooms.{count_on, has_room_on, raised_on, raised_rises}
use Rattle.pt_turn.proofs.Turns.{NextTurn, next_turn}

-- the levels, the number and what was taken
abbrev pub basis_of : Inside → Basis
basis_of p = record { level = level_of (arc_value p.plan).ranks; platform = p.number; taken = messages_of p.progress.history.turns }

pub still_runs : (p : Inside) → IsPlatform p → p.progress.fault ≡ None → Ran (platform_graph p) (level_of (arc_value p.plan).ranks) p.number (rows_at_sensors p.progress.fields.sensors.items) p.progress.history.turns (state_of p.progress.fields (messages_of p.progress.history.turns)) None
still_runs p is on = subst (λ (fault : Option TurnFault). Ran (platform_graph p) (level_of (arc_value p.plan).ranks) p.number (rows_at_sensors p.progress.fields.sensors.items) p.progress.history.turns (state_of p.progress.fields (messages_of p.progress.history.turns)) fault) on is.ran

pub is_ready : (p : Inside) (room : Room) (reading n : ℕ) (results : List Done) (messages : List OnLink) → IsPlatform p → p.progress.fault ≡ None → IsRoomy p room → IsEnough reading (length results) (length messages) n room → (1 ≤ n) × (n ≤ 64) → AreDone (platform_graph p) results
    → MayCome (platform_graph p) (level_of (arc_value p.plan).ranks) p.number (state_at (view_of p)) messages
    → IsReady (arc_value p.plan) (basis_of p) p.number p.closing (raised_to p.progress.fields.reading reading) n results messages p.progress.fields p.progress.lists
is_ready p room reading n results messages is on roomy enough most done may =
    let is_wired : IsWired (platform_graph p) = wired (platform_graph p) is.admitted.lawful in
    let ran = still_runs p is on in
    let next : NextTurn (platform_graph p) (level_of (arc_value p.plan).ranks) p.number (state_of p.progress.fields (messages_of p.progress.history.turns)) ran.all = next_turn (platform_graph p) (level_of (arc_value p.plan).ranks) p.number (rows_at_sensors p.progress.fields.sensors.items) p.progress.history.turns (state_of p.progress.fields (messages_of p.progress.history.turns)) is_wired is.admitted.levels is.fit ran in
    record {
      sound = is.sound;
      sensors = is.sensors;
      goes_on = record {
        never = next.never;
        fit = open_claims_fit (platform_graph p) (level_of (arc_value p.plan).ranks) (claims_of (platform_graph p) ran.all) p.progress.fields (messages_of p.progress.history.turns) is.admitted.lawful is_wired is.admitted.levels is.sound next.bounded;
      };
      platform = refl;
      closing = is.closing;
      rises = raised_rises p.progress.fields.reading reading;
      dones = done;
      arrive = arrive (platform_graph p) (basis_of p) (state_at (view_of p)) messages (λ l. refl) may;
      most = most;
      claims = is.claims;
      room = has_room_on (platform_graph p) p.progress.fields p.progress.lists (raised_to p.progress.fields.reading reading) (raised_to p.progress.fields.reading room.reading) (length results) room.done (length messages) room.taken n room.most (raised_on p.progress.fields.reading reading room.reading enough.reading) enough.done enough.taken enough.most roomy.fields;
      empty = is.empty;
    }

pub can_keep : (p : Inside) (room : Room) (reading n : ℕ) (dones messages : ℕ) → IsRoomy p room → IsEnough reading dones messages n room → CanKeep (arc_value p.plan) (raised_to p.progress.fields.reading reading) dones messages n p.progress.fields p.progress.history.room
can_keep p room reading n dones messages roomy enough =
    let due = count_on (platform_graph p) (raised_to p.progress.fields.reading reading) (raised_to p.progress.fields.reading room.reading) p.progress.fields (raised_on p.progress.fields.reading reading room.reading enough.reading) in
    record {
      turns = roomy.turns;
      posted = omega (arith, roomy.posted, enough.done);
      rows = omega (arith, roomy.rows, due);
      taken = omega (arith, roomy.taken, enough.taken);
      claimed = omega (arith, roomy.claimed, enough.most);
    }

-- memory was taken, and it is enough
pub both_rooms : (p : Inside) (room : Option Room) (Q : Room → Type 0) → MatchOption room (Unit {0}) (IsRoomy p) → MatchOption room ⊥ Q → (r : Room) × IsRoomy p r × Q r
both_rooms p None Q roomy enough = absurd enough
both_rooms p (Some r) Q roomy enough = (r, roomy, enough)
