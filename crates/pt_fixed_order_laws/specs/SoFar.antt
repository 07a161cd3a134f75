-- Visits in fixed order, in the middle of a run and at its end.
use Rattle.std.specs.Prelude.{◌≡◌, ◌<◌, ◌≤◌, ◌∷◌, ◌++◌, ◌⊎◌, [], ℕ, List, Some, false, length, slice_get}
use Rattle.pt_types.specs.declared.graph.Graph.{Graph}
use Rattle.pt_types.specs.declared.graph.Link.{Link}
use Rattle.pt_types.specs.declared.rows.Row.{Row}
use Rattle.pt_semantics.specs.Closing.{on_link}
use Rattle.pt_types.specs.Lookups.{platform_of}
use Rattle.pt_semantics.specs.FixedOrder.{IsOver, Visits, platform_after, put_clock}
use Rattle.pt_semantics.specs.Readings.{greatest_of, later_of, raised_list}
use Rattle.pt_semantics.specs.Visits.{IsVisit, VisitRecord, RunState, run_at_start}

-- visits from platform i on, none of which ended the run; the next one visits platform j
abbrev pub VisitsUpTo : Graph → (ℕ → ℕ) → ℕ → ℕ → (ℕ → List ℕ) → RunState → List VisitRecord → ℕ → RunState → Type 0
VisitsUpTo g level most i clocks x [] j y = (j ≡ i) × (y ≡ x) × ((k : ℕ) → clocks k ≡ [])
VisitsUpTo g level most i clocks x (m ∷ ms) j y =
    (r : ℕ) × (later : List ℕ) × (mid : RunState) × (m.platform ≡ i) × (clocks i ≡ r ∷ later) × IsVisit g level most (λ l. 64) r x m mid × (IsOver g m mid → ⊥)
    × VisitsUpTo g level most (platform_after g i) (put_clock clocks i later) mid ms j y

-- the clocks with one more reading of platform j's
abbrev pub with_reading : (ℕ → List ℕ) → ℕ → ℕ → ℕ → List ℕ
with_reading clocks j r = put_clock clocks j (clocks j ++ r ∷ [])

-- before the visit of platform j: the receiver of a link was visited after its sender
abbrev pub WasTaken : ℕ → ℕ → ℕ → Type 0
WasTaken j from to = ((from < to) × ((to < j) ⊎ (j ≤ from))) ⊎ ((to < j) × (j ≤ from))

-- in that case nothing is on the way on the link
abbrev pub IsAllTaken : Graph → ℕ → RunState → Type 0
IsAllTaken g j x = (l : ℕ) (link : Link) → slice_get g.links l ≡ Some link → WasTaken j (platform_of g link.from) (platform_of g link.to) → x.on_way l ≡ []

-- the visits of a run from its start, at these readings of the clocks; the next one visits platform j
pub record RunSoFar (g : Graph) (level : ℕ → ℕ) (rows : ℕ → List Row) (most : ℕ) (readings : ℕ → List ℕ) (j : ℕ) (y : RunState) : Type 0 where
  pub made : List VisitRecord
  pub visits : VisitsUpTo g level most 0 (λ i. raised_list (readings i)) (run_at_start g rows) made j y

-- one more visit, at one more reading, which does not end the run
abbrev pub VisitsGoOn : Type 0
VisitsGoOn = (g : Graph) (level : ℕ → ℕ) (rows : ℕ → List Row) (most : ℕ) (readings : ℕ → List ℕ) (j r : ℕ) (y z : RunState) (m : VisitRecord) →
    RunSoFar g level rows most readings j y → m.platform ≡ j → IsVisit g level most (λ l. 64) (later_of (greatest_of 0 (readings j)) r) y m z → (IsOver g m z → ⊥) →
    RunSoFar g level rows most (with_reading readings j r) (platform_after g j) z

-- the visits of a whole run
pub record WholeRun (g : Graph) (level : ℕ → ℕ) (rows : ℕ → List Row) (most : ℕ) (readings : ℕ → List ℕ) (z : RunState) : Type 0 where
  pub made : List VisitRecord
  pub visits : Visits g level most 0 (λ i. raised_list (readings i)) (run_at_start g rows) made z

-- one more visit, which ends the run: the visits are those so far and this one
abbrev pub VisitsEnd : Type 0
VisitsEnd = (g : Graph) (level : ℕ → ℕ) (rows : ℕ → List Row) (most : ℕ) (readings : ℕ → List ℕ) (j r : ℕ) (y z : RunState) (m : VisitRecord) →
    (so_far : RunSoFar g level rows most readings j y) → m.platform ≡ j → IsVisit g level most (λ l. 64) (later_of (greatest_of 0 (readings j)) r) y m z → IsOver g m z →
    ((k : ℕ) → length g.platforms ≤ k → readings k ≡ []) → j < length g.platforms → (went : WholeRun g level rows most (with_reading readings j r) z) × (went.made ≡ so_far.made ++ m ∷ [])

-- before the visit of platform j nothing that it sent is on the way
abbrev pub LinksAreFree : Type 0
LinksAreFree = (g : Graph) (j : ℕ) (x : RunState) → ((l : ℕ) (link : Link) → slice_get g.links l ≡ Some link → (platform_of g link.from < length g.platforms) × (platform_of g link.to < length g.platforms) × (platform_of g link.from ≡ platform_of g link.to → ⊥)) → IsAllTaken g j x →
    (l : ℕ) (link : Link) → slice_get g.links l ≡ Some link → platform_of g link.from ≡ j → x.on_way l ≡ []

-- after a visit without a late message the same is true of the platform after it
abbrev pub LinksStayFree : Type 0
LinksStayFree = (g : Graph) (level : ℕ → ℕ) (most r j : ℕ) (x z : RunState) (m : VisitRecord) → (room : ℕ → ℕ) → IsAllTaken g j x → j < length g.platforms → IsVisit g level most room r x m z → m.platform ≡ j → m.late ≡ false →
    ((l : ℕ) (link : Link) → slice_get g.links l ≡ Some link → (platform_of g link.from ≡ j → ⊥) → on_link l m.turn.sent ≡ []) →
    ((l : ℕ) (link : Link) → slice_get g.links l ≡ Some link → (platform_of g link.from < length g.platforms) × (platform_of g link.to < length g.platforms) × (platform_of g link.from ≡ platform_of g link.to → ⊥)) →
    IsAllTaken g (platform_after g j) z
