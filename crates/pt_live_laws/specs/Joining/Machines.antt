-- A run of which each platform is served by a process of its own.
use Rattle.std.specs.Prelude.{◌≡◌, ◌<◌, ◌++◌, ℕ, List, Some, length, slice_get}
use Rattle.pt_tags.specs.declared.message.Message.{Message}
use Rattle.pt_types.specs.declared.graph.Graph.{Graph}
use Rattle.pt_types.specs.declared.graph.Link.{Link}
use Rattle.pt_types.specs.declared.graph.Unit.{Unit}
use Rattle.pt_types.specs.declared.rows.Row.{Row}
use Rattle.pt_types.specs.Lookups.{platform_of}
use Rattle.pt_semantics.specs.History.{IsLegal, claims_of}
use Rattle.pt_semantics.specs.Linked.{AreLinked, IsFinished, all_sent, all_taken}
use Rattle.pt_semantics.specs.Meaning.{ActorFiring, IsMeaning}
use Rattle.pt_semantics.specs.Parts.{parts}
use Rattle.pt_semantics.specs.Platform.{State}
use Rattle.pt_semantics.specs.Ranks.{AreLevels, AreRanks}
use Rattle.pt_semantics.specs.Rows.{FitRows}
use Rattle.pt_semantics.specs.Turn.{Turn}
use Rattle.pt_semantics.specs.Wired.{IsWired}

-- what the process of platform i promises if it ends without a fault: its turns are a legal history over the rows that it took, and
-- its platform is finished. The turns took the first of the messages that came on each incoming link, and what they sent on each outgoing link went out
pub record HasServed (g : Graph) (level : ℕ → ℕ) (i : ℕ) (rows : ℕ → List Row) (came went : ℕ → List Message) (turns : List Turn) (s : State) : Type 0 where
  pub fit : FitRows g rows
  pub legal : IsLegal g level i rows turns s
  pub took : (l : ℕ) (link : Link) → slice_get g.links l ≡ Some link → platform_of g link.to ≡ i → (waiting : List Message) × (came l ≡ all_taken l turns ++ waiting)
  pub sent : (l : ℕ) (link : Link) → slice_get g.links l ≡ Some link → platform_of g link.from ≡ i → all_sent l turns ≡ went l
  pub finished : IsFinished g i s

-- what came out of a pipe is the first of what went in, perhaps all
abbrev pub Delivers : List Message → List Message → Type 0
Delivers went came = (on_way : List Message) × (went ≡ came ++ on_way)

-- the rows of all processes: of each sensor those that the process of its platform took
abbrev pub joined : Graph → (ℕ → ℕ → List Row) → ℕ → List Row
joined g rows a = rows (platform_of g a) a

-- if each platform's process ended without a fault and the pipes delivered in order, then on each link all that was sent was taken, and the
-- claims are those of the meaning of all rows together. Nothing is asked of clocks
abbrev pub MachinesJoin : Type 0
MachinesJoin = (g : Graph) (level rank : ℕ → ℕ) (rows : ℕ → ℕ → List Row) (came went : ℕ → List Message) (histories : ℕ → List Turn) (ends : ℕ → State) (xs : List ActorFiring) →
    IsWired g → AreLevels g level → AreRanks g rank →
    ((i : ℕ) → i < length g.platforms → HasServed g level i (rows i) came went (histories i) (ends i)) →
    ((l : ℕ) (link : Link) → slice_get g.links l ≡ Some link → Delivers (went l) (came l)) →
    IsMeaning g rank (joined g rows) xs →
    AreLinked g histories × ((u : Unit) → claims_of g (histories (platform_of g u.actor)) u ≡ parts g xs u)
