-- Visits in fixed order: one platform after another, again and again, each by its own clock.
use Rattle.std.specs.Prelude.{◌≡◌, ◌<◌, ◌∷◌, ◌==◌, ◌⊎◌, if◌then◌else◌, [], ℕ, List, length, suc, true}
use Rattle.pt_types.specs.declared.graph.Graph.{Graph}
use Rattle.pt_types.specs.declared.rows.Row.{Row}
use Rattle.pt_semantics.specs.Turn.{Turn}
use Rattle.pt_semantics.specs.Kept.{kept}
use Rattle.pt_semantics.specs.Readings.{raised_list}
use Rattle.pt_semantics.specs.Visits.{AreFinished, IsVisit, VisitRecord, RunState, run_at_start}

-- the platform after i; after the last comes platform 0
abbrev pub platform_after : Graph → ℕ → ℕ
platform_after g i = if suc i == length g.platforms then 0 else suc i

-- the readings left of each clock, with those of platform i replaced
abbrev pub put_clock : (ℕ → List ℕ) → ℕ → List ℕ → ℕ → List ℕ
put_clock clocks i readings j = if j == i then readings else clocks j

-- after this visit all platforms are finished, or the visited one has a fault
abbrev pub IsOver : Graph → VisitRecord → RunState → Type 0
IsOver g m y = AreFinished g y ⊎ (m.fault ≡ true)

-- visits in fixed order from platform i on, each at the next reading of its platform's clock, up to the first after which
-- the run is over. All readings are used. A visit sends at most 64 messages on each link
abbrev pub Visits : Graph → (ℕ → ℕ) → ℕ → ℕ → (ℕ → List ℕ) → RunState → List VisitRecord → RunState → Type 0
Visits g level most i clocks x [] y = ⊥
Visits g level most i clocks x (m ∷ []) y =
    (r : ℕ) × (m.platform ≡ i) × (clocks i ≡ r ∷ []) × IsVisit g level most (λ l. 64) r x m y × IsOver g m y × ((j : ℕ) → j < length g.platforms → put_clock clocks i [] j ≡ [])
Visits g level most i clocks x (m ∷ n ∷ ms) y =
    (r : ℕ) × (later : List ℕ) × (mid : RunState) × (m.platform ≡ i) × (clocks i ≡ r ∷ later) × IsVisit g level most (λ l. 64) r x m mid × (IsOver g m mid → ⊥)
    × Visits g level most (platform_after g i) (put_clock clocks i later) mid (n ∷ ms) y

-- the histories of these visits, if platform i is visited at the raised readings of clock i
pub record AreInTurn (g : Graph) (level : ℕ → ℕ) (rows : ℕ → List Row) (clocks : ℕ → List ℕ) (most : ℕ) (histories : ℕ → List Turn) : Type 0 where
  pub made : List VisitRecord
  pub end : RunState
  pub visits : Visits g level most 0 (λ i. raised_list (clocks i)) (run_at_start g rows) made end
  pub kept_are : (i : ℕ) → i < length g.platforms → histories i ≡ kept (end.did i)
