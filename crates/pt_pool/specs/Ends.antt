-- Ends of links, by the numbers of their links.
use Rattle.std.specs.Prelude.{◌≡◌, ◌++◌, ℕ, List, Option, Some, length, option_map, slice_get}
use Rattle.pt_tags.specs.declared.message.Message.{Message}
use Rattle.pt_types.specs.declared.graph.Graph.{Graph}
use Rattle.pt_types.specs.declared.graph.Link.{Link}
use Rattle.pt_semantics.specs.Closing.{on_link}
use Rattle.pt_types.specs.Lookups.{platform_of}
use Rattle.pt_semantics.specs.Linked.{all_sent}
use Rattle.pt_semantics.specs.Turn.{Turn}
use Rattle.pt_causality.specs.Ranked.{level_of}
use Rattle.pt_offsets.specs.Plans.{Parts}
use Rattle.pt_turn.specs.Platforms.{messages_of}
use Rattle.pt_links.specs.declared.rule.Bounds.{Bounds}
use Rattle.pt_links.specs.Ends.{LinkId, SentBy, TakenBy}
use Rattle.pt_links.specs.Line.{IsOrderlyBy}

-- the number of a link, its queue, and the bounds of its messages
pub record End : Type 0 where
  pub number : ℕ
  pub link : LinkId
  pub limits : Option Bounds

abbrev pub end_out : ℕ × SentBy → End
end_out e = record { number = e.0; link = e.1.link; limits = e.1.limits }

abbrev pub end_in : ℕ × TakenBy → End
end_in e = record { number = e.0; link = e.1.link; limits = e.1.limits }

-- the bounds of the messages of a link of a plan
abbrev pub limits_of : Parts → Link → Bounds
limits_of plan link = record { until = plan.graph.until; actors = length plan.graph.actors; level = level_of plan.ranks link.to }

abbrev pub limits_at : Parts → ℕ → Option Bounds
limits_at plan l = option_map (limits_of plan) (slice_get plan.graph.links l)

-- no two ends have the same number
abbrev pub NumbersDiffer : List End → Type 0
NumbersDiffer ends = (i j : ℕ) (a b : End) → slice_get ends i ≡ Some a → slice_get ends j ≡ Some b → a.number ≡ b.number → i ≡ j

-- the platform that a link leaves, and the one that it reaches
abbrev pub leaves : Graph → Link → ℕ
leaves g link = platform_of g link.from

abbrev pub receiving_platform : Graph → Link → ℕ
receiving_platform g link = platform_of g link.to

-- the ends are those of the links of this platform on this side, each once
pub record AreEnds (plan : Parts) (side : Graph → Link → ℕ) (number : ℕ) (ends : List End) : Type 0 where
  pub apart : NumbersDiffer ends
  pub own : (i : ℕ) (e : End) → slice_get ends i ≡ Some e → (link : Link) × (slice_get plan.graph.links e.number ≡ Some link) × (side plan.graph link ≡ number)
  pub limits : (i : ℕ) (e : End) → slice_get ends i ≡ Some e → e.limits ≡ limits_at plan e.number
  pub each : (l : ℕ) (link : Link) → slice_get plan.graph.links l ≡ Some link → side plan.graph link ≡ number → (i : ℕ) × (e : End) × (slice_get ends i ≡ Some e) × (e.number ≡ l)

-- the queue of each end is the run's queue of that link
abbrev pub AreNamed : (ℕ → LinkId) → List End → Type 0
AreNamed link ends = (i : ℕ) (e : End) → slice_get ends i ≡ Some e → e.link ≡ link e.number

-- each end sent what the turns sent on its link
abbrev pub SentAre : List Turn → List (ℕ × SentBy) → Type 0
SentAre turns outs = (i : ℕ) (e : ℕ × SentBy) → slice_get outs i ≡ Some e → e.1.sent ≡ all_sent e.0 turns

-- each end took what the turns took on its link
abbrev pub TakenAre : List Turn → List (ℕ × TakenBy) → Type 0
TakenAre turns ins = (i : ℕ) (e : ℕ × TakenBy) → slice_get ins i ≡ Some e → e.1.taken ≡ on_link e.0 (messages_of turns)

-- each end took what the turns took on its link, and perhaps more after it
abbrev pub TakenBegin : List Turn → List (ℕ × TakenBy) → Type 0
TakenBegin turns ins = (i : ℕ) (e : ℕ × TakenBy) → slice_get ins i ≡ Some e → (rest : List Message) × (e.1.taken ≡ on_link e.0 (messages_of turns) ++ rest)

-- each end took orderly messages
abbrev pub TookOrderly : List (ℕ × TakenBy) → Type 0
TookOrderly ins = (i : ℕ) (e : ℕ × TakenBy) → slice_get ins i ≡ Some e → IsOrderlyBy e.1.limits e.1.taken
