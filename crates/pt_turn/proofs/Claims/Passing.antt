-- The search goes over the units that have events, and passes over all units between them.
use Rattle.std.proofs.Common.{◌≡◌, ℕ, ◌+◌, ◌*◌, ◌/◌, ◌%◌, ◌<◌, ◌≤◌, ◌⊎◌, List, Option, Some, None, length, get_or, refl, inl, inr, ⊎_elim, arith}
use Rattle.pt_types.specs.declared.firing.Task.{Task}
use Rattle.pt_types.specs.declared.graph.Graph.{Graph}
use Rattle.pt_types.specs.declared.graph.Unit.{Unit}
use Rattle.pt_types.specs.Groups.{no_actor}
use Rattle.pt_types.specs.Lawful.{IsLawful}
use Rattle.pt_types.specs.Lookups.{kind_of}
use Rattle.pt_semantics.specs.Meaning.{Values}
use Rattle.pt_semantics.specs.Units.{groups}
use Rattle.pt_causality.specs.Units.{IsUnit}
use Rattle.pt_queue.specs.declared.waiting.Waiting.{Waiting}
use Rattle.pt_queue.specs.Events.{IsFirstWaiting}
use Rattle.pt_queue.proofs.Tables.{few_groups}
use Rattle.pt_turn.specs.Claims.Early.{IsEarlyWord}
use Rattle.pt_turn.specs.Claims.Fronts.{AreFirst, StandsBefore}
use Rattle.pt_turn.proofs.Claims.Fronts.{first_end, first_pass}

below_or : (n m : ℕ) → (n < m) ⊎ (m ≤ n)
below_or n m = grind arith

-- a unit stands before a place n exactly if its own place is less

from_place : (x : Unit) (n : ℕ) → x.group < 8 → 8 * x.actor + x.group < n → StandsBefore x (n / 8) (n % 8)
from_place x n few less = ⊎_elim
    (λ (l : x.actor < n / 8). inl l)
    (λ (m : n / 8 ≤ x.actor). inr (omega (arith, less, m), omega (arith, less, m)))
    (below_or x.actor (n / 8))

to_place : (x : Unit) (n : ℕ) → x.group < 8 → StandsBefore x (n / 8) (n % 8) → 8 * x.actor + x.group < n
to_place x n few stands = ⊎_elim
    (λ (l : x.actor < n / 8). omega (arith, few, l))
    (λ (s : (x.actor ≡ n / 8) × (x.group < n % 8)). omega (arith, s.0, s.1))
    stands

-- what stands before a place stands before a unit with this place or a greater one
to_unit : (x w : Unit) (n : ℕ) → w.group < 8 → n ≤ 8 * w.actor + w.group → StandsBefore x (n / 8) (n % 8) → StandsBefore x w.actor w.group
to_unit x w n few le stands = ⊎_elim
    (λ (l : x.actor < n / 8). inl (omega (arith, few, le, l)))
    (λ (s : (x.actor ≡ n / 8) × (x.group < n % 8)). ⊎_elim
    (λ (l : n / 8 < w.actor). inl (omega (arith, s.0, l)))
    (λ (m : w.actor ≤ n / 8). inr (omega (arith, s.0, few, le, m), omega (arith, s.1, few, le, m)))
    (below_or (n / 8) w.actor))
    stands

-- no unit with a greater place stands before a unit
not_ahead : (x w : Unit) → x.group < 8 → 8 * w.actor + w.group ≤ 8 * x.actor + x.group → StandsBefore x w.actor w.group → ⊥
not_ahead x w few le stands = ⊎_elim
    (λ (l : x.actor < w.actor). omega (arith, few, le, l))
    (λ (s : (x.actor ≡ w.actor) × (x.group < w.group)). omega (arith, le, s.0, s.1))
    stands

-- what stands before the next group stands before the next place
to_next : (x w : Unit) → w.group < 8 → StandsBefore x w.actor (w.group + 1) → StandsBefore x ((8 * w.actor + w.group + 1) / 8) ((8 * w.actor + w.group + 1) % 8)
to_next x w few stands = ⊎_elim
    (λ (l : w.group < 7).
    ⊎_elim
    (λ (k : x.actor < w.actor). inl (omega (arith, k, l)))
    (λ (s : (x.actor ≡ w.actor) × (x.group < w.group + 1)). inr (omega (arith, s.0, l), omega (arith, s.1, l)))
    stands)
    (λ (m : 7 ≤ w.group).
    ⊎_elim
    (λ (k : x.actor < w.actor). inl (omega (arith, k, m, few)))
    (λ (s : (x.actor ≡ w.actor) × (x.group < w.group + 1)). inl (omega (arith, s.0, m, few)))
    stands)
    (below_or w.group 7)

-- and back, if it has a place
from_next : (x w : Unit) → x.group < 8 → w.group < 8 → StandsBefore x ((8 * w.actor + w.group + 1) / 8) ((8 * w.actor + w.group + 1) % 8) → StandsBefore x w.actor (w.group + 1)
from_next x w few less stands =
    let up : 8 * x.actor + x.group < 8 * w.actor + w.group + 1 = to_place x (8 * w.actor + w.group + 1) few stands in
    ⊎_elim
    (λ (l : x.actor < w.actor). inl l)
    (λ (m : w.actor ≤ x.actor). inr (omega (arith, up, m, less), omega (arith, up, m)))
    (below_or x.actor w.actor)

-- what stands before a place stands before a later one
to_later : (x : Unit) (n m : ℕ) → n ≤ m → StandsBefore x (n / 8) (n % 8) → StandsBefore x (m / 8) (m % 8)
to_later x n m le stands = ⊎_elim
    (λ (l : x.actor < n / 8). inl (omega (arith, le, l)))
    (λ (s : (x.actor ≡ n / 8) × (x.group < n % 8)). ⊎_elim
    (λ (l : n / 8 < m / 8). inl (omega (arith, s.0, l)))
    (λ (k : m / 8 ≤ n / 8). inr (omega (arith, s.0, le, k), omega (arith, s.0, s.1, le, k)))
    (below_or (n / 8) (m / 8)))
    stands

-- the groups of a unit of the graph are below 8
pub group_is_few : (g : Graph) (u : Unit) → IsLawful g → IsUnit g u → u.group < 8
group_is_few g u lawful unit =
    let few : groups (kind_of g u.actor) ≤ 8 = few_groups g g.actors u.actor (get_or g.actors u.actor no_actor) no_actor lawful refl unit.0 refl in
    let less : u.group < groups (kind_of g u.actor) = unit.1 in
    omega (arith, few, less)

-- before the next unit that has events all units were passed
pub up_to_next : (cut : Option Waiting) (g : Graph) (waits : Values) (busy : Unit → Option Task) (r n : ℕ) (w : Waiting) (cs : List Waiting) → IsFirstWaiting g waits n (Some w)
    → AreFirst cut g waits busy r (n / 8) (n % 8) cs → AreFirst cut g waits busy r w.unit.actor w.unit.group cs
up_to_next cut g waits busy r n w cs next first =
    let few : w.unit.group < 8 = (next.2 w.unit w.tag next.0.0).0 in
    first_pass cut g waits busy r (n / 8) (n % 8) w.unit.actor w.unit.group cs
    (λ x stands. to_unit x w.unit n few next.1 stands)
    (λ x t own not before safe.
    let this = next.2 x t safe.event in
    ⊎_elim
    (λ (l : 8 * x.actor + x.group < n). not (from_place x n this.0 l))
    (λ (m : 8 * w.unit.actor + w.unit.group ≤ 8 * x.actor + x.group). not_ahead x w.unit this.0 m before)
    this.1)
    first

-- behind a unit the search goes on at the next place
pub up_to_behind : (cut : Option Waiting) (g : Graph) (waits : Values) (busy : Unit → Option Task) (r n : ℕ) (w : Waiting) (cs : List Waiting) → IsFirstWaiting g waits n (Some w)
    → AreFirst cut g waits busy r w.unit.actor (w.unit.group + 1) cs → AreFirst cut g waits busy r ((8 * w.unit.actor + w.unit.group + 1) / 8) ((8 * w.unit.actor + w.unit.group + 1) % 8) cs
up_to_behind cut g waits busy r n w cs next first =
    let few : w.unit.group < 8 = (next.2 w.unit w.tag next.0.0).0 in
    first_pass cut g waits busy r w.unit.actor (w.unit.group + 1) ((8 * w.unit.actor + w.unit.group + 1) / 8) ((8 * w.unit.actor + w.unit.group + 1) % 8) cs
    (λ x stands. to_next x w.unit few stands)
    (λ x t own not before safe. not (from_next x w.unit (next.2 x t safe.event).0 few before))
    first

-- behind the last unit that has events there is none
pub up_to_end : (cut : Option Waiting) (g : Graph) (waits : Values) (busy : Unit → Option Task) (r n : ℕ) (cs : List Waiting) → IsFirstWaiting g waits n None
    → AreFirst cut g waits busy r (n / 8) (n % 8) cs → AreFirst cut g waits busy r (length g.actors) 0 cs
up_to_end cut g waits busy r n cs none first = first_end cut g waits busy r (n / 8) (n % 8) cs (λ x t own not event. let this = none x t event in not (from_place x n this.0 this.1)) first

-- the word of the next unit is passed over if none of its units is due
pub behind_word : (cut : Option Waiting) (g : Graph) (waits : Values) (busy : Unit → Option Task) (r n p m : ℕ) (w : Waiting) (cs : List Waiting) → p ≡ 8 * w.unit.actor + w.unit.group → m ≡ 64 * (p / 64 + 1) → IsFirstWaiting g waits n (Some w) → IsEarlyWord g waits r (p / 64)
    → AreFirst cut g waits busy r (n / 8) (n % 8) cs → AreFirst cut g waits busy r (m / 8) (m % 8) cs
behind_word cut g waits busy r n p m w cs at is next early first =
    let le : n ≤ 8 * w.unit.actor + w.unit.group = next.1 in
    first_pass cut g waits busy r (n / 8) (n % 8) (m / 8) (m % 8) cs
    (λ x stands. to_later x n m (omega (arith, at, is, le)) stands)
    (λ x t own not before safe.
    let this = next.2 x t safe.event in
    let less : 8 * x.actor + x.group < m = to_place x m this.0 before in
    ⊎_elim
    (λ (l : 8 * x.actor + x.group < n). not (from_place x n this.0 l))
    (λ (from : 8 * w.unit.actor + w.unit.group ≤ 8 * x.actor + x.group). early x t safe.event (omega (arith, less, from, at, is)) safe.bounds)
    this.1)
    first
