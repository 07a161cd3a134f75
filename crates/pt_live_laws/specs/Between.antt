-- What is true between two visits stays true with more rows.
use Rattle.std.specs.Prelude.{◌≡◌, ℕ, List, Some}
use Rattle.pt_types.specs.declared.graph.Graph.{Graph}
use Rattle.pt_types.specs.declared.rows.Row.{Row}
use Rattle.pt_semantics.specs.Visits.{RunState}
use Rattle.pt_fixed_order_laws.specs.SoFar.{RunSoFar}
use Rattle.pt_fixed_order_laws.specs.Sound.{Sound}
use Rattle.pt_live_laws.specs.Growth.Growing.{SeenAfter, at_home, followed, grown_together}

-- each platform sees its own of these rows after its last reading
abbrev pub AreToCome : Graph → (ℕ → List Row) → RunState → Type 0
AreToCome g more y = (i p : ℕ) → (y.at i).reading ≡ Some p → SeenAfter p (at_home g i more)

-- the visits so far are the same visits over more rows
abbrev pub GoingGrows : Type 0
GoingGrows = (g : Graph) (level : ℕ → ℕ) (rows more : ℕ → List Row) (most : ℕ) (readings : ℕ → List ℕ) (j : ℕ) (y : RunState) →
    RunSoFar g level rows most readings j y → AreToCome g more y → RunSoFar g level (followed rows more) most readings j (grown_together g more y)

-- and what is sound stays sound
abbrev pub SoundGrows : Type 0
SoundGrows = (g : Graph) (level : ℕ → ℕ) (rows more : ℕ → List Row) (y : RunState) → Sound g level rows y → AreToCome g more y → Sound g level (followed rows more) (grown_together g more y)
