-- The steps from hints to a turn.
use Rattle.std.specs.Prelude.{◌≡◌, ◌++◌, ◌<◌, ◌≤◌, [], ℕ, List, None, Option, Some, flat_map, length, max, slice_get, slice_index_or}
use Rattle.pt_tags.specs.declared.message.Message.{Message}
use Rattle.pt_types.specs.declared.firing.Done.{Done}
use Rattle.pt_types.specs.declared.firing.OnLink.{OnLink}
use Rattle.pt_types.specs.declared.firing.Task.{Task}
use Rattle.pt_types.specs.declared.graph.Graph.{Graph}
use Rattle.pt_types.specs.declared.graph.Link.{Link}
use Rattle.pt_types.specs.Lookups.{platform_of}
use Rattle.pt_semantics.specs.Closing.{on_link}
use Rattle.pt_semantics.specs.Orderly.{ComesAfter, FitsStep}
use Rattle.pt_semantics.specs.Turn.{Turn}
use Rattle.pt_turn.specs.Posts.Posted.{AreDone}
use Rattle.pt_turn.specs.Laws.{IsRunning}
use Rattle.pt_turn.specs.Platforms.{PlatformView}
use Rattle.pt_turn.specs.Turned.{IsTurned, StaysThere}
use Rattle.pt_audit.specs.declared.parse.hints.Hints.{Hints}

-- the readings, the count and the number of claims are those of some turn after this reading
pub record IsInForm (reading : Option ℕ) (hints : Hints) : Type 0 where
  pub rises : (p : ℕ) → reading ≡ Some p → p ≤ hints.first
  pub span : hints.first ≤ hints.last
  pub counted : 1 ≤ hints.count
  pub single : hints.count ≡ 1 → hints.first ≡ hints.last
  pub few : hints.claims ≤ 64

-- a message may come after the last one on its link, if there was one
abbrev pub ComesAfterLast : Option Message → Message → Type 0
ComesAfterLast None m = Unit {0}
ComesAfterLast (Some last) m = ComesAfter last m

-- a message may come to platform i after the last ones on each link
pub record ComesNext (g : Graph) (level : ℕ → ℕ) (i : ℕ) (last : List (Option Message)) (m : OnLink) : Type 0 where
  pub link : Link
  pub at : slice_get g.links m.link ≡ Some link
  pub home : platform_of g link.to ≡ i
  pub after : ComesAfterLast (slice_index_or last m.link None) m.message
  pub fits : FitsStep g.until (length g.actors) (level link.to) m.message

-- these results are of the claims with these numbers, in order
pub record AreOf (claims : List Task) (numbers : List ℕ) (dones : List Done) : Type 0 where
  pub count : length dones ≡ length numbers
  pub each : (k number : ℕ) → slice_get numbers k ≡ Some number → (d : Done) × (slice_get dones k ≡ Some d) × (slice_get claims number ≡ Some d.task)

-- a turn was made from hints and these results
abbrev pub MakesTurn : Hints → List Done → PlatformView → PlatformView → Type 0
MakesTurn hints dones old new = IsTurned old new hints.last (max 1 hints.claims) dones hints.taken.items × StaysThere old new

-- the claims of all recorded turns
abbrev pub claims_in : List Turn → List Task
claims_in turns = flat_map (λ (turn : Turn). turn.claimed) turns

-- a platform that may make a turn made one from hints that are in form, with the results of the claims that the hints name. That
-- it has their counts is not said, and nothing is sent yet
pub record HasMade (hints : Hints) (old new : PlatformView) : Type 0 where
  pub named : hints.platform ≡ old.number
  pub no_fault : old.fault ≡ None
  pub running : IsRunning old
  pub form : IsInForm old.reading hints
  pub dones : List Done
  pub are : AreOf (claims_in old.turns) hints.posts.items dones
  pub done : AreDone old.plan.graph dones
  pub made : IsTurned old new hints.last (max 1 hints.claims) dones hints.taken.items
  pub stays : StaysThere old new

-- as many results were posted, messages taken and tasks claimed as the hints say
pub record HasCounts (hints : Hints) (turn : Turn) : Type 0 where
  pub posted : length turn.posted ≡ length hints.posts.items
  pub taken : length turn.taken ≡ length hints.taken.items
  pub claimed : length turn.claimed ≡ hints.claims

-- messages wait only on links of the graph
abbrev pub OnlyLinks : Graph → List OnLink → Type 0
OnlyLinks g outbox = (l : ℕ) → slice_get g.links l ≡ None → on_link l outbox ≡ []

-- a platform can send these messages: on each link the first that wait there, at most 64
pub record CanSend (outbox : List OnLink) (messages : List OnLink) : Type 0 where
  pub rest : ℕ → List Message
  pub front : (l : ℕ) → on_link l outbox ≡ on_link l messages ++ rest l
  pub few : (l : ℕ) → length (on_link l messages) ≤ 64

-- by link, how many messages were sent
abbrev pub AreCounts : List OnLink → List ℕ → Type 0
AreCounts sent counts = (l : ℕ) → l < 64 → slice_get counts l ≡ Some (length (on_link l sent))
