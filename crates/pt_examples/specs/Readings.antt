-- Paced readings of units of three programs, worked by hand.
use Rattle.std.specs.Prelude.{ℕ}
use Rattle.pt_tags.specs.declared.tag.Tag.{Tag}
use Rattle.pt_types.specs.declared.graph.Unit.{Unit}
use Rattle.pt_semantics.specs.Paced.{IsPaced}
use Rattle.pt_examples.specs.Programs.{lanes, linked, paired}

abbrev pub unit : ℕ → ℕ → Unit
unit actor group = record { actor = actor; group = group }

abbrev pub tag : ℕ → ℕ → Tag
tag time step = record { time = time; step = step }

-- each lane waits for its own sensor alone: one actuator is claimed at 61, the other at 251
pub record LanesStandApart : Type 0 where
  pub first : IsPaced lanes (unit 3 0) (tag 50 0) 61
  pub second : IsPaced lanes (unit 4 0) (tag 50 0) 251

-- the sender is claimed at 61. The receiver waits for slack, link delay and
-- clock error, 45 in all, and is claimed at 126, as is the actuator after it
pub record LinkedReadings : Type 0 where
  pub sender : IsPaced linked (unit 2 0) (tag 80 0) 61
  pub receiver : IsPaced linked (unit 3 0) (tag 80 0) 126
  pub actuator : IsPaced linked (unit 5 0) (tag 140 0) 126

-- if a pair states its clock error, it counts, in either order of the two platforms: 65 in all
pub record PairedReading : Type 0 where
  pub receiver : IsPaced paired (unit 3 0) (tag 80 0) 146
