-- The histories of all platforms together.
use Rattle.std.specs.Prelude.{◌++◌, ◌≡◌, [], ℕ, List, Some, flat_map, slice_get, true}
use Rattle.pt_tags.specs.declared.message.Message.{Message}
use Rattle.pt_tags.specs.declared.message.Message.TheVariants.{End}
use Rattle.pt_types.specs.declared.graph.Graph.{Graph}
use Rattle.pt_types.specs.declared.graph.Link.{Link}
use Rattle.pt_semantics.specs.Behaviours.{Firings}
use Rattle.pt_semantics.specs.Lists.{IsIn}
use Rattle.pt_semantics.specs.Platform.{State}
use Rattle.pt_semantics.specs.Turn.{Turn}
use Rattle.pt_semantics.specs.History.{claims_of}
use Rattle.pt_semantics.specs.Closing.{on_link}
use Rattle.pt_types.specs.Lookups.{platform_of}

-- all messages that a history sent on a link
abbrev pub all_sent : ℕ → List Turn → List Message
all_sent l turns = flat_map (λ (turn : Turn). on_link l turn.sent) turns

-- all messages that a history took from a link
abbrev pub all_taken : ℕ → List Turn → List Message
all_taken l turns = flat_map (λ (turn : Turn). on_link l turn.taken) turns

-- on each link the receiver took all messages that the sender sent
abbrev pub AreLinked : Graph → (ℕ → List Turn) → Type 0
AreLinked g histories = (l : ℕ) (link : Link) → slice_get g.links l ≡ Some link →
    all_sent l (histories (platform_of g link.from)) ≡ all_taken l (histories (platform_of g link.to))

-- on each link the receiver took the first of the messages that the sender sent, perhaps all
abbrev pub AreMatched : Graph → (ℕ → List Turn) → Type 0
AreMatched g histories = (l : ℕ) (link : Link) → slice_get g.links l ≡ Some link →
    (rest : List Message) × (all_sent l (histories (platform_of g link.from)) ≡ all_taken l (histories (platform_of g link.to)) ++ rest)

-- a platform is finished: it is closed, its outboxes are empty, and it took `End` on each incoming link
pub record IsFinished (g : Graph) (i : ℕ) (s : State) : Type 0 where
  pub closed : s.closed ≡ true
  pub all_went : (l : ℕ) → s.outbox l ≡ []
  pub ends : (l : ℕ) (link : Link) → slice_get g.links l ≡ Some link → platform_of g link.to ≡ i → IsIn End (s.taken l)

-- the claims of each unit, from the history of its platform
abbrev pub all_claims : Graph → (ℕ → List Turn) → Firings
all_claims g histories u = claims_of g (histories (platform_of g u.actor)) u
