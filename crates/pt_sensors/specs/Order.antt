-- What holds of the rows of a file.
use Rattle.std.specs.Prelude.{◌<◌, ◌≤◌, List, [], ◌∷◌, length, Option, Some, None}
use Rattle.pt_types.specs.declared.rows.Row.{Row}
use Rattle.pt_sensors.specs.declared.limits.FileLimits.{FileLimits}

-- a row is later than the row before it, if there is one, and is not seen earlier
abbrev pub RowFollows : Option Row → Row → Type 0
RowFollows None row = Unit {0}
RowFollows (Some before) row = (before.time < row.time) × (before.seen ≤ row.seen)

-- a valid row of a file, after the row before it, if there is one
pub record IsRow (before : Option Row) (row : Row) : Type 0 where
  pub time : row.time ≤ 1000000000000000
  pub seen : row.seen ≤ 10000000000000000
  pub seen_after : row.time ≤ row.seen
  pub follows : RowFollows before row

-- all rows are valid: times rise, the readings at which rows are seen never fall, and no row is seen before its time
abbrev pub RowsInOrder : Option Row → List Row → Type 0
RowsInOrder before [] = Unit {0}
RowsInOrder before (row ∷ rows) = IsRow before row × RowsInOrder (Some row) rows

-- the rows of a file with these limits
pub record RowsAreInOrder (limits : FileLimits) (rows : List Row) : Type 0 where
  pub most : length rows ≤ limits.rows
  pub order : RowsInOrder None rows
