-- The order of the meaning.
use Rattle.std.specs.Prelude.{ℕ}
use Rattle.std.specs.declared.cmp.Ordering.{Ordering}
use Rattle.std.specs.Ordering.{nat_cmp, ordering_then}
use Rattle.pt_types.specs.declared.firing.Task.{Task}
use Rattle.pt_confluence.specs.declared.moment.Moment.{Moment}

-- the place of a task in the order of the meaning
abbrev pub moment_of : (ℕ → ℕ) → Task → Moment
moment_of rank task = record { time = task.tag.time; step = task.tag.step; rank = rank task.actor; actor = task.actor }

-- the order of moments: by time, step, rank and actor
abbrev pub moment_cmp : Moment → Moment → Ordering
moment_cmp x y = ordering_then (nat_cmp x.time y.time) (ordering_then (nat_cmp x.step y.step) (ordering_then (nat_cmp x.rank y.rank) (nat_cmp x.actor y.actor)))
