-- The beginning of the smallest paced run: the row enters at 55, a quiet
-- round follows, and the next reading is 61, the sensor's paced reading.
use Rattle.std.specs.Prelude.{[], ◌∷◌, ℤ, Option}
use Rattle.pt_types.specs.declared.graph.Unit.{Unit}
use Rattle.pt_semantics.specs.Offsets.{IsFeasible, HasOffset}
use Rattle.pt_semantics.specs.Visits.{RunState, VisitRecord}
use Rattle.pt_semantics.specs.Rounds.{IsPacedRun}
use Rattle.pt_examples.specs.Smallest.{one, rows, level}

-- two rounds lead to reading 61, and the premises of the theorems about paced runs hold
pub record IsPacedOne : Type 0 where
  pub first : VisitRecord
  pub second : VisitRecord
  pub state : RunState
  pub run : IsPacedRun one level rows ((first ∷ []) ∷ (second ∷ []) ∷ []) 61 state
  pub feasible : IsFeasible one
  pub offset : Unit → Option ℤ
  pub offsets : (u : Unit) → HasOffset one u (offset u)
