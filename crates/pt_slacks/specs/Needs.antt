-- The least slack that a sender or an actuator needs.
use Rattle.std.specs.Prelude.{◌+◌, ◌-◌, ◌≡◌, ◌≤◌, ◌<◌, ◌⊎◌, ℕ, List, None, Option, Some, length, slice_index, ⊤}
use Rattle.pt_tags.specs.declared.tag.Delay.{Delay}
use Rattle.pt_types.specs.declared.graph.Graph.{Graph}
use Rattle.pt_types.specs.declared.graph.Unit.{Unit}
use Rattle.pt_types.specs.declared.kind.Kind.{Kind}
use Rattle.pt_types.specs.declared.kind.Kind.TheVariants.{Actuator, Send, Sensor}
use Rattle.pt_types.specs.Lookups.{kind_of}
use Rattle.pt_offsets.specs.Margins.{unit_at}
use Rattle.pt_slacks.specs.declared.hop.Hop.{Hop}
use Rattle.pt_slacks.specs.Hops.{hop_at}

-- the slack that is needed if an event comes this late at a source, and takes this delay from there
abbrev pub needed_by : ℕ → Option Delay → ℕ
needed_by late None = 0
needed_by late (Some d) = late - d.time

-- the slack that is needed if the source is a sensor; 0 for other kinds
abbrev pub by_kind : Kind → Option Delay → ℕ
by_kind (Sensor file bound) delay = needed_by (bound + 1) delay
by_kind _ delay = 0

-- the slack that actor v needs by actor a, if a is a sensor
abbrev pub by_sensor : Graph → (Unit → Unit → Option Delay) → ℕ → ℕ → ℕ
by_sensor g least v a = by_kind (kind_of g a) (least (unit_at a 0) (unit_at v 0))

-- the slack that actor v needs by hop w, if the slacks of the hops' senders are these
abbrev pub by_hop : List Hop → (Unit → Unit → Option Delay) → (ℕ → ℕ) → ℕ → ℕ → ℕ
by_hop hops least slack v w = needed_by (slack w + (hop_at hops w).cost) (least (unit_at (hop_at hops w).to 0) (unit_at v 0))

-- x is the greatest of start and the numbers f 0 to f (n - 1)
pub record IsMost (start n : ℕ) (f : ℕ → ℕ) (x : ℕ) : Type 0 where
  pub from : start ≤ x
  pub each : (k : ℕ) → k < n → f k ≤ x
  pub some : (x ≡ start) ⊎ ((k : ℕ) × (k < n) × (x ≡ f k))

-- x is the slack that actor v needs by the sensors alone
abbrev pub IsBase : Graph → (Unit → Unit → Option Delay) → ℕ → ℕ → Type 0
IsBase g least v x = IsMost 0 (length g.actors) (by_sensor g least v) x

-- x is the greater of start and the slack that actor v needs by the hops
abbrev pub IsRaised : List Hop → (Unit → Unit → Option Delay) → (ℕ → ℕ) → ℕ → ℕ → ℕ → Type 0
IsRaised hops least slack v start x = IsMost start (length hops) (by_hop hops least slack v) x

-- x is the least slack that actor v needs, if the slacks of the hops' senders are these
pub record IsNeed (g : Graph) (hops : List Hop) (least : Unit → Unit → Option Delay) (slack : ℕ → ℕ) (v x : ℕ) : Type 0 where
  pub base : ℕ
  pub sensors : IsBase g least v base
  pub others : IsRaised hops least slack v base x

-- the kind is one that has a slack
abbrev pub HasSlack : Kind → Type 0
HasSlack (Send own) = ⊤
HasSlack (Actuator own) = ⊤
HasSlack _ = ⊥

-- these are the needs of all actors that have a slack
pub record AreNeeds (g : Graph) (hops : List Hop) (least : Unit → Unit → Option Delay) (slack : ℕ → ℕ) (needs : List ℕ) : Type 0 where
  pub len : length needs ≡ length g.actors
  pub each : (a : ℕ) → HasSlack (kind_of g a) → a < length g.actors → IsNeed g hops least slack a (slice_index needs a)
