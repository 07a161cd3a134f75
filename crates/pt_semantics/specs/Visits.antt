-- All platforms together, and one visit of one of them by an engine.
use Rattle.std.specs.Prelude.{◌^◌, ◌≡◌, ◌==◌, ◌<◌, ◌∷◌, ◌≤◌, ◌≢◌, ◌++◌, ◌⊎◌, [], ℕ, Bool, List, Option, None, Some, false, length, slice_get, take, true, ⊤}
use Rattle.pt_tags.specs.declared.message.Message.{Message}
use Rattle.pt_types.specs.declared.graph.Graph.{Graph}
use Rattle.pt_types.specs.declared.graph.Link.{Link}
use Rattle.pt_types.specs.declared.graph.Unit.{Unit}
use Rattle.pt_types.specs.declared.rows.Row.{Row}
use Rattle.pt_types.specs.declared.firing.Done.{Done}
use Rattle.pt_types.specs.declared.firing.OnLink.{OnLink}
use Rattle.pt_semantics.specs.Lists.{Each}
use Rattle.pt_types.specs.Lookups.{platform_of}
use Rattle.pt_semantics.specs.Platform.{State, opened}
use Rattle.pt_semantics.specs.Safe.{NothingSafe}
use Rattle.pt_semantics.specs.Closing.{on_link}
use Rattle.pt_semantics.specs.Turn.{IsLast, IsTurn, Turn}
use Rattle.pt_semantics.specs.Linked.{IsFinished}

-- all platforms together: their states, their turns one by one, and the messages on each link that were sent and not taken
pub record RunState : Type 0 where
  pub at : ℕ → State
  pub did : ℕ → List Turn
  pub on_way : ℕ → List Message

-- the platforms before the first turn
abbrev pub run_at_start : Graph → (ℕ → List Row) → RunState
run_at_start g rows = record { at = λ i. opened g i rows; did = λ i. []; on_way = λ l. [] }

-- all platforms are finished
abbrev pub AreFinished : Graph → RunState → Type 0
AreFinished g x = (i : ℕ) → i < length g.platforms → IsFinished g i (x.at i)

-- whether this link leads to platform i
abbrev pub leads_to : Graph → ℕ → Option Link → Bool
leads_to g i None = false
leads_to g i (Some link) = platform_of g link.to == i

-- a turn of a platform, whether it took a late message, and whether the platform has a fault after it
pub record VisitRecord : Type 0 where
  pub platform : ℕ
  pub turn : Turn
  pub late : Bool
  pub fault : Bool

-- the results are in the order of their claims
abbrev pub NumbersRise : List Done → Type 0
NumbersRise [] = ⊤
NumbersRise (d ∷ ds) = Each (λ (e : Done). d.task.number < e.task.number) ds × NumbersRise ds

-- the messages are in the order of their links
abbrev pub LinkByLink : List OnLink → Type 0
LinkByLink [] = ⊤
LinkByLink (m ∷ ms) = Each (λ (n : OnLink). m.link ≤ n.link) ms × LinkByLink ms

-- a visit of a platform at reading r: one turn that posts all its open claims, takes all messages on their way to it and
-- claims at most `most` units. Then it sends the first `room l` messages of each outbox l, or all
pub record IsVisit (g : Graph) (level : ℕ → ℕ) (most : ℕ) (room : ℕ → ℕ) (r : ℕ) (x : RunState) (m : VisitRecord) (y : RunState) : Type 0 where
  pub fits : r < 2 ^ 64
  pub once : m.turn.count ≡ 1
  pub first : m.turn.first ≡ r
  pub last : m.turn.last ≡ r
  pub is : IsTurn g level m.platform (x.at m.platform) m.turn m.late (y.at m.platform)
  pub faults : (IsLast g (x.at m.platform) r m.late is.ready → m.fault ≡ true) × (m.fault ≡ true → IsLast g (x.at m.platform) r m.late is.ready)
  -- the other platforms are unchanged, and the turn is added to those of this platform
  pub others : (j : ℕ) → j ≢ m.platform → (y.at j ≡ x.at j) × (y.did j ≡ x.did j)
  pub joins : y.did m.platform ≡ x.did m.platform ++ m.turn ∷ []
  -- the results of all open claims are posted, in the order of their claims
  pub handed : (u : Unit) → is.posted.busy u ≡ None
  pub in_order : NumbersRise m.turn.posted
  -- messages are taken link by link: all of them, or all up to a late one
  pub rest : ℕ → List Message
  pub takes : (l : ℕ) → x.on_way l ≡ on_link l m.turn.taken ++ rest l
  pub takes_all : m.late ≡ false → (l : ℕ) (link : Link) → slice_get g.links l ≡ Some link → platform_of g link.to ≡ m.platform → rest l ≡ []
  pub takes_first : (l k : ℕ) (link : Link) → slice_get g.links l ≡ Some link → platform_of g link.to ≡ m.platform → l < k → (on_link k m.turn.taken ≡ [] → ⊥) → rest l ≡ []
  pub takes_by_link : LinkByLink m.turn.taken
  -- it claims the safe units in order, until `most` are claimed, none is left, or all claims are made
  pub claims_most : length m.turn.claimed ≤ most
  pub claims_all : m.late ≡ false → NothingSafe g is.ready.waits is.ready.busy r ⊎ ((most ≤ length m.turn.claimed) ⊎ (g.claims ≤ is.ready.claims))
  -- messages that are sent are added to those on their way
  pub sends : (l : ℕ) → y.on_way l ≡ rest l ++ on_link l m.turn.sent
  pub sends_all : (l : ℕ) → on_link l m.turn.sent ≡ take (room l) (is.done.outbox l)
  pub sends_by_link : LinkByLink m.turn.sent
