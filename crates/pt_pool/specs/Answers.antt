-- What the result of a visit says.
use Rattle.std.specs.Prelude.{◌≡◌, ℕ, List, Option, None, Some, Result, Ok, Err, true}
use Rattle.pt_types.specs.declared.firing.Done.{Done}
use Rattle.pt_types.specs.declared.firing.Task.{Task}
use Rattle.pt_turn.specs.declared.fault.TurnFault.{TurnFault}
use Rattle.pt_io.specs.Clocks.{ReportsOneMore}
use Rattle.pt_pool.specs.declared.linked.VisitFault.{VisitFault}
use Rattle.pt_pool.specs.declared.linked.VisitFault.TheVariants.{Turn, Memory}
use Rattle.pt_pool.specs.LinkedPlatform.{LinkedPlatformView, LinkedVisited}

-- memory ran out: the clock handed out one reading, the linked platform is marked, and nothing else changed but the memory that the
-- platform has reserved
pub record LinkedRefused (old new : LinkedPlatformView) (handed now : List Task) : Type 0 where
  pub reading : ℕ
  pub readings : ReportsOneMore old.readings reading new.readings
  pub marked : new.marked ≡ true
  pub platform : new.platform ≡ record old.platform { room = new.platform.room }
  pub ends : (new.outs ≡ old.outs) × (new.ins ≡ old.ins)
  pub tasks : now ≡ handed

abbrev pub AnswersVisit : Result (Unit {0}) VisitFault → ℕ → List Done → LinkedPlatformView → LinkedPlatformView → List Task → List Task → Type 0
AnswersVisit (Ok x) most dones old new handed now = (new.platform.fault ≡ None) × (new.marked ≡ old.marked) × LinkedVisited most dones old new handed now
AnswersVisit (Err (Turn fault)) most dones old new handed now = (new.platform.fault ≡ Some fault) × (new.marked ≡ old.marked) × LinkedVisited most dones old new handed now
AnswersVisit (Err Memory) most dones old new handed now = LinkedRefused old new handed now

-- the result of a visit, from the fault of its turn
abbrev pub answer_of : Option TurnFault → Result (Unit {0}) VisitFault
answer_of None = Ok tt
answer_of (Some fault) = Err (Turn fault)
