-- The invariant of stored claims and results.
use Rattle.std.specs.Prelude.{◌≡◌, ◌+◌, ◌<◌, ◌≤◌, ◌^◌, length, vec_capacity, vec_len}
use Rattle.pt_history.specs.declared.work.Work.TheInside.{Inside}
use Rattle.pt_history.specs.Works.{SourcesAreWithin}

-- each result has a source that exists and its cells, and the promised room is allocated
pub record IsWork (w : Inside) : Type 0 where
  pub same : length w.sources.items ≡ length w.fired.cells
  pub within : SourcesAreWithin (length w.claims.tasks) (length w.others.items) w.sources.items
  pub sources : w.spare ≤ w.sources.spare
  pub others : vec_len w.others + w.spare ≤ vec_capacity w.others
  pub cells : w.spare ≤ w.fired.spare
  pub fits : length w.others.items + w.spare < 2 ^ 32
