use Rattle.std.proofs.Common.{ℕ, Some, ap, ◌∙◌}
use Rattle.pt_semantics.specs.TrueTime.{true_time}
use Rattle.pt_replay.proofs.Visits.Leasts.{reading_here}
use Rattle.pt_replay.proofs.visit.moments.reading_of.Goals as goal

pub returns-in_ok-true_time-in-Some : goal.returns-in_ok-true_time-in-Some
returns-in_ok-true_time-in-Some c =
    reading_here c.args.air.now c.args.platform.now (Some c.in-Some.reading) (Some c.in_ok-true_time-in-Some.field-0) c.in-Some.ensures
    (ap Some (c.in_ok-true_time-in-Some.ensures ∙ ap (λ (i : ℕ). true_time c.args.air.now i c.in-Some.reading) c.number.ensures))
