-- Slacks of the hops' senders in rounds: each round raises what is too small by the round before.
use Rattle.std.specs.Prelude.{◌≡◌, ◌+◌, ◌≤◌, ◌<◌, ◌^◌, [], ℕ, List, Option, length, slice_index, slice_index_or}
use Rattle.pt_tags.specs.declared.tag.Delay.{Delay}
use Rattle.pt_types.specs.declared.graph.Graph.{Graph}
use Rattle.pt_types.specs.declared.graph.Unit.{Unit}
use Rattle.pt_slacks.specs.declared.hop.Hop.{Hop}
use Rattle.pt_slacks.specs.declared.settled.RoundsOutcome.{RoundsOutcome}
use Rattle.pt_slacks.specs.declared.settled.RoundsOutcome.TheVariants.{Rising, Row}
use Rattle.pt_slacks.specs.Hops.{hop_at}
use Rattle.pt_slacks.specs.Needs.{IsBase, IsRaised, by_hop, by_sensor}

abbrev pub slack_row_at : List (List ℕ) → ℕ → List ℕ
slack_row_at rows k = slice_index_or rows k []

-- each sender has the slack that it needs by the sensors alone
pub record AreBases (g : Graph) (least : Unit → Unit → Option Delay) (hops : List Hop) (row : List ℕ) : Type 0 where
  pub len : length row ≡ length hops
  pub each : (v : ℕ) → v < length hops → IsBase g least (hop_at hops v).from (slice_index row v)

-- each sender has the slack that it had, or more if it needs more by the slacks of that round
pub record IsNextRow (hops : List Hop) (least : Unit → Unit → Option Delay) (row next : List ℕ) : Type 0 where
  pub len : length next ≡ length hops
  pub each : (v : ℕ) → v < length hops → IsRaised hops least (slice_index row) (hop_at hops v).from (slice_index row v) (slice_index next v)

-- the first row has the bases, and each of the first m rows is followed by the next
pub record AreSlackRows (g : Graph) (least : Unit → Unit → Option Delay) (hops : List Hop) (rows : List (List ℕ)) (m : ℕ) : Type 0 where
  pub len : length rows ≡ m + 1
  pub first : AreBases g least hops (slack_row_at rows 0)
  pub next : (k : ℕ) → k < m → IsNextRow hops least (slack_row_at rows k) (slack_row_at rows (k + 1))

-- each sender has what it needs
pub record HaveEnough (g : Graph) (least : Unit → Unit → Option Delay) (hops : List Hop) (slack : ℕ → ℕ) : Type 0 where
  pub sensors : (v a : ℕ) → v < length hops → a < length g.actors → by_sensor g least (hop_at hops v).from a ≤ slack v
  pub others : (v w : ℕ) → v < length hops → w < length hops → by_hop hops least slack (hop_at hops v).from w ≤ slack v

-- each sender has what it needs, and none can do with less; the slacks are far below what 64 bits hold
pub record IsLeastRow (g : Graph) (least : Unit → Unit → Option Delay) (hops : List Hop) (row : List ℕ) : Type 0 where
  pub len : length row ≡ length hops
  pub enough : HaveEnough g least hops (slice_index row)
  pub least_of_all : (other : ℕ → ℕ) → HaveEnough g least hops other → (v : ℕ) → v < length hops → slice_index row v ≤ other v
  pub fits : (v : ℕ) → v < length hops → slice_index row v < 2 ^ 62

-- the sender of hop v has a greater slack in the second row
pub record HasRisen (n : ℕ) (row next : List ℕ) (v : ℕ) : Type 0 where
  pub below : v < n
  pub more : slice_index row v < slice_index next v

-- the rows of one round more than there are hops; in the last one the sender of hop v has risen
pub record AreRising (g : Graph) (least : Unit → Unit → Option Delay) (hops : List Hop) (rows : List (List ℕ)) (v : ℕ) : Type 0 where
  pub are : AreSlackRows g least hops rows (length hops + 1)
  pub last : HasRisen (length hops) (slack_row_at rows (length hops)) (slack_row_at rows (length hops + 1)) v

-- the rounds end with the least row, or with the rows of all rounds, in the last of which the sender of a hop has risen
abbrev pub SettlesAs : Graph → (Unit → Unit → Option Delay) → List Hop → RoundsOutcome → Type 0
SettlesAs g least hops (Row row) = IsLeastRow g least hops row
SettlesAs g least hops (Rising rows link) = AreRising g least hops rows.items link
