use Rattle.std.proofs.Common.{arith}
use Rattle.pt_io.specs.Clocks.{step_reading}
use Rattle.pt_io.proofs.Stepping.{as_ahead, stops}
use Rattle.pt_io.proofs.clock.StepClockClock.read.Goals as goal

pub returns-then-self-clause-readings : goal.returns-then-self-clause-readings
returns-then-self-clause-readings c = let s = c.args.self.now in stops (step_reading s.start s.step) s.count s.next s.reports (omega (arith, c.if-self.true))

pub returns-then-self-clause-as_ahead : goal.returns-then-self-clause-as_ahead
returns-then-self-clause-as_ahead c = let s = c.args.self.now in as_ahead (step_reading s.start s.step) s.count s.next s.reports s.on_time

pub returns-else-self-clause-as_ahead : goal.returns-else-self-clause-as_ahead
returns-else-self-clause-as_ahead c = let s = c.args.self.now in as_ahead (step_reading s.start s.step) s.count s.next s.reports s.on_time
