use Rattle.std.proofs.Common.{arith, ap, ◌∙◌}
use Rattle.pt_io.specs.Clocks.{nth_or_last}
use Rattle.pt_io.proofs.Stepping.{as_ahead, stops}
use Rattle.pt_io.proofs.clock.ListClockClock.read.Goals as goal

pub returns-then-self-clause-readings : goal.returns-then-self-clause-readings
returns-then-self-clause-readings c = let s = c.args.self.now in stops (nth_or_last s.readings.items) s.count c.nth_or_last-reading.result s.reports (omega (arith, c.if-self.true))

pub returns-then-self-clause-as_ahead : goal.returns-then-self-clause-as_ahead
returns-then-self-clause-as_ahead c = let s = c.args.self.now in as_ahead (nth_or_last s.readings.items) s.count c.nth_or_last-reading.result s.reports (λ e. c.nth_or_last-reading.ensures ∙ ap (λ xs. nth_or_last xs s.count) c.as_slice.ensures.value)

pub returns-else-self-clause-as_ahead : goal.returns-else-self-clause-as_ahead
returns-else-self-clause-as_ahead c = let s = c.args.self.now in as_ahead (nth_or_last s.readings.items) s.count c.nth_or_last-reading.result s.reports (λ e. c.nth_or_last-reading.ensures ∙ ap (λ xs. nth_or_last xs s.count) c.as_slice.ensures.value)
