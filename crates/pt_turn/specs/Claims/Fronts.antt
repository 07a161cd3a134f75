-- The safe units to claim next.
use Rattle.std.specs.Prelude.{◌≡◌, ℕ, ◌<◌, ◌≤◌, ◌⊎◌, Bool, true, Option, Some, None, List, [], ◌∷◌, length, take, drop, ⊤}
use Rattle.std.specs.List.{insert}
use Rattle.pt_tags.specs.declared.tag.Tag.{Tag}
use Rattle.pt_types.specs.declared.graph.Graph.{Graph}
use Rattle.pt_types.specs.declared.graph.Unit.{Unit}
use Rattle.pt_types.specs.declared.firing.Task.{Task}
use Rattle.pt_semantics.specs.Lists.{Each, IsIn}
use Rattle.pt_semantics.specs.Meaning.{Values}
use Rattle.pt_semantics.specs.Safe.{IsSafe, NothingSafe}
use Rattle.pt_semantics.specs.Claiming.{NoLater}
use Rattle.pt_causality.specs.Delays.{IsUnit}
use Rattle.pt_queue.specs.declared.waiting.Waiting.{Waiting}
use Rattle.pt_queue.specs.Events.{IsFirstWaiting}
use Rattle.pt_turn.specs.declared.claim.front.Several.{Several}
use Rattle.pt_turn.specs.Claims.Early.{IsDueAt}

-- c comes before d by tag, actor and group
abbrev pub IsAhead : Waiting → Waiting → Type 0
IsAhead c d = (c.tag.time ≤ d.tag.time) × (d.tag.time ≤ c.tag.time → (c.tag.step ≤ d.tag.step) × (d.tag.step ≤ c.tag.step → (c.unit.actor ≤ d.unit.actor) × (d.unit.actor ≤ c.unit.actor → c.unit.group < d.unit.group)))

-- units in the order of tag, actor and group
abbrev pub IsInOrder : List Waiting → Type 0
IsInOrder [] = ⊤
IsInOrder (c ∷ cs) = Each (IsAhead c) cs × IsInOrder cs

-- the first n of these units come before c, and the others do not
pub record IsFrontPlace (c : Waiting) (cs : List Waiting) (n : ℕ) : Type 0 where
  pub within : n ≤ length cs
  pub before : Each (λ (d : Waiting). IsAhead d c) (take n cs)
  pub behind : Each (λ (d : Waiting). IsAhead d c → ⊥) (drop n cs)

-- c is inserted at its place, and the first 64 remain
pub record IsInserted (c : Waiting) (old new : List Waiting) : Type 0 where
  pub place : ℕ
  pub is_place : IsFrontPlace c old place
  pub is : new ≡ take 64 (insert old place c)

-- a unit of the graph is safe at this tag
pub record IsSafeUnit (g : Graph) (waits : Values) (busy : Unit → Option Task) (r : ℕ) (c : Waiting) : Type 0 where
  pub is_unit : IsUnit g c.unit
  pub safe : IsSafe g waits busy r c.unit c.tag

-- a unit is safe at some tag
abbrev pub IsSafeSomewhen : Graph → Values → (Unit → Option Task) → ℕ → Unit → Type 0
IsSafeSomewhen g waits busy r u = (t : Tag) × IsSafe g waits busy r u t

-- both units are safe, each at some tag
abbrev pub AreBothSafe : Graph → Values → (Unit → Option Task) → ℕ → Several → Type 0
AreBothSafe g waits busy r s = IsSafeSomewhen g waits busy r s.first × IsSafeSomewhen g waits busy r s.second

-- at least 64 units, all of which come before c
abbrev pub AreAllAhead : Waiting → List Waiting → Type 0
AreAllAhead c cs = (64 ≤ length cs) × Each (λ (d : Waiting). IsAhead d c) cs

-- c comes behind the cut, if there is one
abbrev pub IsCutOff : Option Waiting → Waiting → Type 0
IsCutOff None c = ⊥
IsCutOff (Some cut) c = IsAhead cut c

-- a unit with this tag is in the list, or the list has at least 64 units and all come before it, or it is cut off
abbrev pub IsAmong : Option Waiting → Unit → Tag → List Waiting → Type 0
IsAmong cut u t cs = IsIn (record { unit = u; tag = t }) cs ⊎ (AreAllAhead (record { unit = u; tag = t }) cs ⊎ IsCutOff cut (record { unit = u; tag = t }))

-- unit u comes before group k of actor a
abbrev pub StandsBefore : Unit → ℕ → ℕ → Type 0
StandsBefore u a k = (u.actor < a) ⊎ ((u.actor ≡ a) × (u.group < k))

-- of the safe units before group k of actor a that aren't cut off these are the first 64 in order, or all if they are fewer
pub record AreFirst (cut : Option Waiting) (g : Graph) (waits : Values) (busy : Unit → Option Task) (r a k : ℕ) (cs : List Waiting) : Type 0 where
  pub in_order : IsInOrder cs
  pub safe : Each (IsSafeUnit g waits busy r) cs
  pub stand : Each (λ (c : Waiting). StandsBefore c.unit a k) cs
  pub within : Each (λ (c : Waiting). IsCutOff cut c → ⊥) cs
  pub among : (u : Unit) (t : Tag) → IsUnit g u → StandsBefore u a k → IsSafe g waits busy r u t → IsAmong cut u t cs

-- the same before this unit; or, for None, of all safe units that aren't cut off
abbrev pub AreFirstUpTo : Option Waiting → Graph → Values → (Unit → Option Task) → ℕ → Option Waiting → List Waiting → Type 0
AreFirstUpTo cut g waits busy r None cs = AreFirst cut g waits busy r (length g.actors) 0 cs
AreFirstUpTo cut g waits busy r (Some c) cs = AreFirst cut g waits busy r c.unit.actor c.unit.group cs

-- a unit that is due, and the first with events from some place on, which isn't before n
pub record IsAsked (g : Graph) (waits : Values) (r n : ℕ) (c : Waiting) : Type 0 where
  pub place : ℕ
  pub later : n ≤ place
  pub next : IsFirstWaiting g waits place (Some c)
  pub due : IsDueAt g r c.unit c.tag

-- the first safe units in order: every other one comes after them all, and there is none unless `more` is true
pub record AreFront (g : Graph) (waits : Values) (busy : Unit → Option Task) (r : ℕ) (more : Bool) (cs : List Waiting) : Type 0 where
  pub in_order : IsInOrder cs
  pub safe : Each (IsSafeUnit g waits busy r) cs
  pub others : (u : Unit) (t : Tag) → IsSafe g waits busy r u t → IsIn (record { unit = u; tag = t }) cs ⊎ ((more ≡ true) × Each (λ (c : Waiting). IsAhead c (record { unit = u; tag = t })) cs)

-- the list of one unit, or of none
abbrev pub one_of : Option Waiting → List Waiting
one_of None = []
one_of (Some c) = c ∷ []

-- the safe unit with the least tag, actor and group; or, for None, no unit is safe
abbrev pub IsNextSafe : Graph → Values → (Unit → Option Task) → ℕ → Option Waiting → Type 0
IsNextSafe g waits busy r None = NothingSafe g waits busy r
IsNextSafe g waits busy r (Some s) = IsUnit g s.unit × IsSafe g waits busy r s.unit s.tag × ((u : Unit) (t : Tag) → IsSafe g waits busy r u t → NoLater s.tag s.unit t u)

-- the taken unit and those left are the first safe units in order; or, for None, no unit is safe
abbrev pub IsTaken : Graph → Values → (Unit → Option Task) → ℕ → Bool → List Waiting → Option Waiting → Type 0
IsTaken g waits busy r more left None = NothingSafe g waits busy r
IsTaken g waits busy r more left (Some c) = AreFront g waits busy r more (c ∷ left)
