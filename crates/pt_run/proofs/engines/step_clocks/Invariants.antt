use Rattle.std.proofs.Common.{◌≡◌, replicate}
use Rattle.pt_io.specs.Clocks.{viewed}
use Rattle.pt_io.specs.contracts.clock.StepClockClock.TheImpl as step
use Rattle.pt_run.specs.Readings.{step_clock}
use Rattle.pt_run.proofs.engines.step_clocks.Given as goal

abbrev pub invariant-loop : goal.invariant-loop
invariant-loop l = viewed step.readings-value.it step.ahead-value.it l.clocks.items ≡ replicate l.counter (step_clock l.fn.start l.fn.step)
