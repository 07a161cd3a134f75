-- What holds of the rows of a run.
use Rattle.std.specs.Prelude.{◌≡◌, ◌<◌, ◌∷◌, ◌≤◌, ◌+◌, [], ℕ, List}
use Rattle.pt_types.specs.declared.graph.Graph.{Graph}
use Rattle.pt_types.specs.declared.rows.Row.{Row}
use Rattle.pt_types.specs.declared.kind.Kind.TheVariants.{Sensor}
use Rattle.pt_semantics.specs.Lists.{Each}
use Rattle.pt_types.specs.Lookups.{kind_of}

-- the readings at which rows are seen never fall
abbrev pub NeverFalls : List Row → Type 0
NeverFalls [] = Unit {0}
NeverFalls (x ∷ xs) = Each (λ (y : Row). x.seen ≤ y.seen) xs × NeverFalls xs

-- a row that fits: it is of a sensor, seen within the bound, and not after the horizon. Late rows are refused and rows
-- after the horizon left out, so each row of a run fits
pub record FitsRow (g : Graph) (a : ℕ) (row : Row) : Type 0 where
  pub file : List ℕ
  pub bound : ℕ
  pub sensor : kind_of g a ≡ Sensor file bound
  pub in_time : row.seen ≤ row.time + bound
  pub within : row.time ≤ g.until

-- the times of rows rise
abbrev pub TimesRise : List Row → Type 0
TimesRise [] = Unit {0}
TimesRise (x ∷ xs) = Each (λ (y : Row). x.time < y.time) xs × TimesRise xs

-- the rows of a run: each row fits, and for each sensor the times rise and the readings at which rows are seen never fall
pub record FitRows (g : Graph) (rows : ℕ → List Row) : Type 0 where
  pub fit : (a : ℕ) → Each (FitsRow g a) (rows a)
  pub in_order : (a : ℕ) → NeverFalls (rows a)
  pub times : (a : ℕ) → TimesRise (rows a)
