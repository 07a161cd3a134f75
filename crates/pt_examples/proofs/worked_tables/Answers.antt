use Rattle.std.proofs.Common.{refl}
use Rattle.pt_examples.proofs.Checker.{worked}
use Rattle.pt_examples.proofs.worked_tables.Goals as goal

-- each run is computed, and so is its text
pub returns : goal.returns
returns c = record {
  delayed = worked refl refl refl;
  silent = worked refl refl refl;
  stepped = worked refl refl refl;
  dropped = worked refl refl refl;
  lowest = worked refl refl refl;
  both = worked refl refl refl;
  cycle = worked refl refl refl;
  counted = worked refl refl refl;
  sent_on = worked refl refl refl;
  saturated = worked refl refl refl;
  by_guard = worked refl refl refl;
  side_by_side = worked refl refl refl;
}
