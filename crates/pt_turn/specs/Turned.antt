-- What a turn does to a platform.
use Rattle.std.specs.Prelude.{◌≡◌, ℕ, ◌≤◌, ◌⊎◌, ◌++◌, [], Bool, true, false, List, Option, None, Some, length, slice_get}
use Rattle.pt_types.specs.declared.graph.Graph.{Graph}
use Rattle.pt_types.specs.declared.graph.Link.{Link}
use Rattle.pt_types.specs.declared.firing.Done.{Done}
use Rattle.pt_types.specs.declared.firing.OnLink.{OnLink}
use Rattle.pt_semantics.specs.Closing.{on_link}
use Rattle.pt_types.specs.Lookups.{platform_of}
use Rattle.pt_semantics.specs.Kept.{kept_with}
use Rattle.pt_semantics.specs.Lists.{IsIn}
use Rattle.pt_semantics.specs.Orderly.{IsOrderly}
use Rattle.pt_semantics.specs.Platform.{State}
use Rattle.pt_semantics.specs.Safe.{NothingSafe}
use Rattle.pt_semantics.specs.Turn.{IsLast, IsTurn, Turn}
use Rattle.pt_turn.specs.Fields.State.{busy_in}
use Rattle.pt_turn.specs.Posts.Posted.{ArePosted}
use Rattle.pt_turn.specs.Steps.{IsFront}
use Rattle.pt_turn.specs.declared.fault.TurnFault.{TurnFault}
use Rattle.pt_turn.specs.declared.fault.TurnFault.TheVariants.{Late, Long}
use Rattle.pt_turn.specs.declared.room.Room.{Room}
use Rattle.pt_turn.specs.Platforms.{PlatformView, level_at, raised_to, rows_at, state_at}

-- these messages may come to platform i: each is on a link that leads there, and keeps that link's messages orderly
pub record MayCome (g : Graph) (level : ℕ → ℕ) (i : ℕ) (s : State) (messages : List OnLink) : Type 0 where
  pub links : (m : OnLink) → IsIn m messages → (link : Link) × (slice_get g.links m.link ≡ Some link) × (platform_of g link.to ≡ i)
  pub orderly : (l : ℕ) (link : Link) → slice_get g.links l ≡ Some link → platform_of g link.to ≡ i → IsOrderly g level link (s.taken l ++ on_link l messages)

-- memory is reserved for a turn at this reading or a later one, with at least this many results, messages and claims
pub record IsEnough (r dones messages n : ℕ) (room : Room) : Type 0 where
  pub reading : r ≤ room.reading
  pub done : dones ≤ room.done
  pub taken : messages ≤ room.taken
  pub most : n ≤ room.most

-- whether a fault is that of a late message
abbrev pub is_late : Option TurnFault → Bool
is_late None = false
is_late (Some (Late actor tag reading limit)) = true
is_late (Some Long) = false

-- a turn has a fault exactly if it is a last one
abbrev pub FaultsIfLast : Option TurnFault → Type 0 → Type 0
FaultsIfLast None last = last → ⊥
FaultsIfLast (Some fault) last = last

-- one turn of a platform, at the given reading, raised to the last one: it posts those of the results that are of open
-- claims, takes the messages or the first of them, and claims the greedy list or its first tasks
pub record IsTurned (old new : PlatformView) (reading most : ℕ) (dones : List Done) (messages : List OnLink) : Type 0 where
  pub turn : Turn
  pub at : (turn.first ≡ raised_to old.reading reading) × (turn.last ≡ raised_to old.reading reading) × (turn.count ≡ 1) × (turn.sent ≡ [])
  pub is : IsTurn old.plan.graph (level_at old) old.number (state_at old) turn (is_late new.fault) (state_at new)
  pub posted : ArePosted old.plan.graph (busy_in old.open_claims) dones turn.posted
  pub taken : IsFront messages turn.taken (is_late new.fault)
  pub few : length turn.claimed ≤ most
  pub all_or : is_late new.fault ≡ false → NothingSafe old.plan.graph is.ready.waits is.ready.busy turn.last ⊎ ((most ≤ length turn.claimed) ⊎ (old.plan.graph.claims ≤ is.ready.claims))
  pub last : FaultsIfLast new.fault (IsLast old.plan.graph (state_at old) turn.last (is_late new.fault) is.ready)
  pub turns : new.turns ≡ kept_with old.turns turn

-- the plan, the number and the rows do not change
pub record StaysThere (old new : PlatformView) : Type 0 where
  pub plan : new.plan ≡ old.plan
  pub number : new.number ≡ old.number
  pub rows : rows_at new ≡ rows_at old
