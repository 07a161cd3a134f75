-- The paced schedule: when the turns of a history claim, send and miss.
use Rattle.std.specs.Prelude.{◌≡◌, ◌<◌, ◌≤◌, ◌+◌, ◌++◌, ◌↔◌, ℕ, ℤ, List, Some, length, slice_get}
use Rattle.pt_tags.specs.declared.message.Message.TheVariants.{Event}
use Rattle.pt_tags.specs.declared.tag.Tag.{Tag}
use Rattle.pt_types.specs.declared.kind.Kind.TheVariants.{Actuator}
use Rattle.pt_types.specs.declared.firing.Task.{Task}
use Rattle.pt_types.specs.declared.graph.Graph.{Graph}
use Rattle.pt_types.specs.declared.graph.Link.{Link}
use Rattle.pt_types.specs.declared.graph.Unit.{Unit}
use Rattle.pt_semantics.specs.Behaviours.{Firing}
use Rattle.pt_types.specs.Lookups.{slack_of}
use Rattle.pt_types.specs.Lookups.{kind_of}
use Rattle.pt_semantics.specs.Linked.{all_claims}
use Rattle.pt_semantics.specs.Lists.{IsIn}
use Rattle.pt_semantics.specs.Meaning.{ActorFiring}
use Rattle.pt_semantics.specs.Missed.{IsMissed}
use Rattle.pt_semantics.specs.Paced.{IsPaced}
use Rattle.pt_semantics.specs.Parts.{parts}
use Rattle.pt_semantics.specs.Turn.{Turn}
use Rattle.pt_semantics.specs.Units.{at_input, unit_of}

-- the turn makes its claims at one reading, the paced reading of each task's unit and tag
abbrev pub IsOnSchedule : Graph → Turn → Type 0
IsOnSchedule g turn = (task : Task) → IsIn task turn.claimed → (turn.first ≡ turn.last) × IsPaced g (unit_of g task) task.tag turn.last

-- the turn sends no message later than its tag's time and its sender's slack
abbrev pub SendsWithinSlack : Graph → Turn → Type 0
SendsWithinSlack g turn = (l : ℕ) (link : Link) (t : Tag) (v : ℤ) → slice_get g.links l ≡ Some link → IsIn (record { link = l; message = Event t v }) turn.sent → turn.last ≤ t.time + slack_of (kind_of g link.from)

-- in these histories the claims of each unit, in order, are the first of
-- its parts of the meaning, perhaps all: the same tags, inputs and states
abbrev pub AreClaimedAsMeant : Graph → List ActorFiring → (ℕ → List Turn) → Type 0
AreClaimedAsMeant g xs histories = (u : Unit) → (rest : List Firing) × (parts g xs u ≡ all_claims g histories u ++ rest)

-- the claims of each unit are all of its parts of the meaning
abbrev pub AreAllClaimed : Graph → List ActorFiring → (ℕ → List Turn) → Type 0
AreAllClaimed g xs histories = (u : Unit) → all_claims g histories u ≡ parts g xs u

-- a turn of these histories, at this reading, has a missed entry of actor a at tag t; the reading is past the limit
abbrev pub HaveMissed : Graph → (ℕ → List Turn) → ℕ → Tag → ℕ → ℕ → Type 0
HaveMissed g histories a t reading limit = (i : ℕ) × (i < length g.platforms) × (turn : Turn) × IsIn turn (histories i) × (turn.last ≡ reading) × IsMissed g turn a t limit

-- in the meaning actuator a fires at tag t, and its paced reading is past the limit, the tag's time plus the slack
pub record IsMissedByMeaning (g : Graph) (xs : List ActorFiring) (a : ℕ) (t : Tag) (reading limit : ℕ) : Type 0 where
  pub firing : ActorFiring
  pub there : IsIn firing xs
  pub actor : firing.actor ≡ a
  pub tag : firing.tag ≡ t
  pub slack : ℕ
  pub actuator : kind_of g a ≡ Actuator slack
  pub limit_is : limit ≡ t.time + slack
  pub paced : IsPaced g (at_input g a 0) t reading
  pub past : limit < reading

-- the missed entries of these histories are exactly those that follow from the meaning and the paced readings
abbrev pub AreMissedAsMeant : Graph → List ActorFiring → (ℕ → List Turn) → Type 0
AreMissedAsMeant g xs histories = (a : ℕ) (t : Tag) (reading limit : ℕ) → HaveMissed g histories a t reading limit ↔ IsMissedByMeaning g xs a t reading limit
