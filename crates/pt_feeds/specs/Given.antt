-- What a source of live rows gave.
use Rattle.std.specs.Prelude.{◌≡◌, ◌≤◌, ◌++◌, ◌∷◌, ◌==◌, [], ℕ, List, None, Option, Some, filter_map}
use Rattle.pt_io.specs.Causes.{counted}
use Rattle.pt_types.specs.declared.rows.Row.{Row}
use Rattle.pt_types.specs.declared.rows.RowAt.{RowAt}
use Rattle.pt_types.specs.Ports.{when}
use Rattle.pt_feeds.specs.declared.feeds.Fed.{Fed}
use Rattle.pt_feeds.specs.declared.feeds.Fed.TheVariants as fed

-- the rows of this sensor, in the order in which they were given
abbrev pub rows_given : List RowAt → ℕ → List Row
rows_given given sensor = filter_map (λ (x : RowAt). when (x.sensor == sensor) (Some x.row)) given

-- what was given before, and what the sensor gave at this reading
abbrev pub given_after : List RowAt → ℕ → ℕ → Fed → List RowAt
given_after given sensor reading (fed.Row time value) =
    given ++ record { sensor = sensor; row = record { time = time; seen = reading; value = value } } ∷ []
given_after given sensor reading _ = given

-- a source that reports what it gave reports this too
abbrev pub Gives : Option (List RowAt) → ℕ → ℕ → Fed → Option (List RowAt) → Type 0
Gives None sensor reading what after = after ≡ None
Gives (Some given) sensor reading what after = after ≡ Some (given_after given sensor reading what)

-- a row's time is not ahead of the reading
abbrev pub IsOnTime : ℕ → Fed → Type 0
IsOnTime reading (fed.Row time value) = time ≤ reading
IsOnTime reading _ = Unit {0}

-- what a sensor gave is no row
abbrev pub IsNoRow : Fed → Type 0
IsNoRow (fed.Row time value) = ⊥
IsNoRow _ = Unit {0}

-- the count of failed reads, after a sensor gave this
abbrev pub faults_after : Fed → ℕ → ℕ
faults_after fed.Unreadable count = counted count
faults_after _ count = count
