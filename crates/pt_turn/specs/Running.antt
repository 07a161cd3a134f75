-- All turns of a platform since it opened.
use Rattle.std.specs.Prelude.{◌≡◌, ℕ, ◌+◌, ◌<◌, ◌≤◌, ◌++◌, ◌∷◌, [], false, ℤ, List, Option, None, Some, slice_get}
use Rattle.pt_tags.specs.declared.tag.Tag.{Tag}
use Rattle.pt_tags.specs.declared.message.Message.TheVariants.{Event}
use Rattle.pt_types.specs.declared.graph.Graph.{Graph}
use Rattle.pt_types.specs.declared.graph.Link.{Link}
use Rattle.pt_types.specs.declared.firing.OnLink.{OnLink}
use Rattle.pt_types.specs.declared.rows.Row.{Row}
use Rattle.pt_semantics.specs.Bounds.{link_bound}
use Rattle.pt_semantics.specs.History.{Legal}
use Rattle.pt_semantics.specs.Kept.{IsSingle, kept}
use Rattle.pt_semantics.specs.Lists.{Each}
use Rattle.pt_semantics.specs.Platform.{State, opened}
use Rattle.pt_semantics.specs.Safe.{NothingSafe}
use Rattle.pt_semantics.specs.Turn.{IsLast, IsTurn, Turn}
use Rattle.pt_turn.specs.declared.fault.TurnFault.{TurnFault}
use Rattle.pt_turn.specs.declared.fault.TurnFault.TheVariants.{Late, Long}

-- these turns of platform i lead from s to new; none is late, and after each of them another may follow
abbrev pub GoesOn : Graph → (ℕ → ℕ) → ℕ → State → List Turn → State → Type 0
GoesOn g level i s [] new = new ≡ s
GoesOn g level i s (turn ∷ turns) new =
    (mid : State) × (is : IsTurn g level i s turn false mid) × (IsLast g s turn.last false is.ready → ⊥) × GoesOn g level i mid turns new

-- the last reading of recorded turns
abbrev pub last_reading : List Turn → Option ℕ
last_reading [] = None
last_reading (x ∷ []) = Some x.last
last_reading (x ∷ y ∷ turns) = last_reading (y ∷ turns)

-- the last of these messages is late: it is an event for an actor at a tag, and the last reading before the turn was past
-- the tag's time plus its link's bound
pub record LastIsLate (g : Graph) (last : Option ℕ) (messages : List OnLink) (actor : ℕ) (tag : Tag) (reading limit : ℕ) : Type 0 where
  pub number : ℕ
  pub value : ℤ
  pub before : List OnLink
  pub ends : messages ≡ before ++ record { link = number; message = Event tag value } ∷ []
  pub link : Link
  pub at : slice_get g.links number ≡ Some link
  pub receiver : link.to ≡ actor
  pub read : last ≡ Some reading
  pub limit_is : limit ≡ tag.time + link_bound g link
  pub past : limit < reading

-- the last recorded turn took a late message
pub record ShowsLate (g : Graph) (turns : List Turn) (actor : ℕ) (tag : Tag) (reading limit : ℕ) : Type 0 where
  pub before : List Turn
  pub turn : Turn
  pub ends : turns ≡ before ++ turn ∷ []
  pub late : LastIsLate g (last_reading before) turn.taken actor tag reading limit

-- all claims were made, and a unit is safe at the last reading
pub record ShowsLong (g : Graph) (s : State) : Type 0 where
  pub all : g.claims ≤ s.claims
  pub reading : ℕ
  pub read : s.reading ≡ Some reading
  pub safe : NothingSafe g s.waits s.busy reading → ⊥

-- the recorded turns and the state after them show the cause of a fault
abbrev pub Shows : Graph → List Turn → State → TurnFault → Type 0
Shows g turns s (Late actor tag reading limit) = ShowsLate g turns actor tag reading limit
Shows g turns s Long = ShowsLong g s

-- turns of a platform since its opening: after each of them another may follow, or there is a fault and its cause is shown
abbrev pub LeadsOn : Graph → (ℕ → ℕ) → ℕ → State → List Turn → List Turn → State → Option TurnFault → Type 0
LeadsOn g level i start turns all s None = GoesOn g level i start all s
LeadsOn g level i start turns all s (Some fault) = Legal g level i start all s × Shows g turns s fault

-- the recorded turns are those of all single turns since the platform opened
pub record Ran (g : Graph) (level : ℕ → ℕ) (i : ℕ) (rows : ℕ → List Row) (turns : List Turn) (s : State) (fault : Option TurnFault) : Type 0 where
  pub all : List Turn
  pub single : Each IsSingle all
  pub are_kept : turns ≡ kept all
  pub leads : LeadsOn g level i (opened g i rows) turns all s fault
  pub read : s.reading ≡ last_reading turns
