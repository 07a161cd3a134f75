use Rattle.std.proofs.Common.{subst}
use Rattle.std.specs.Arc.{arc_value}
use Rattle.pt_causality.specs.Ranked.{level_of}
use Rattle.pt_offsets.specs.Plans.{Parts}
use Rattle.pt_sensors.specs.Places.{of_run}
use Rattle.pt_sensors.specs.Listed.{rows_for}
use Rattle.pt_rounds.specs.Outcome.{IsOutcome as IsPacedOutcome}
use Rattle.pt_make.specs.Input.{made_graph, made_rows}
use Rattle.pt_run.proofs.Made.{made_ready, no_long_at, none_stopped}
use Rattle.pt_run.proofs.make.made_platforms.Goals as goal

pub unreachable-requires : goal.unreachable-requires
unreachable-requires g c =
    let plan : Parts = arc_value c.args.plan.now in
    let number = c.args.number in
    let rows = of_run (made_graph number) (made_rows number) in
    let platforms = c.in_ok-platforms-2.field-0.platforms.items in
    let ready = made_ready number plan c.in_ok-platforms.platforms.items (rows_for c.in_ok-entries.entries.items) c.requires.graph c.in_ok-entries.ensures.rows c.in_ok-platforms.ensures in
    no_long_at number c.requires.few plan c.requires.graph c.requires.admitted platforms c.in-Some.field-0
    (subst (IsPacedOutcome plan (level_of plan.ranks) rows platforms) c.in-Some.is (c.in_ok-platforms-2.ensures.outcome plan rows ready))

pub returns-in_default : goal.returns-in_default
returns-in_default g c =
    let plan : Parts = arc_value c.args.plan.now in
    let number = c.args.number in
    let ready = made_ready number plan c.in_ok-platforms.platforms.items (rows_for c.in_ok-entries.entries.items) c.requires.graph c.in_ok-entries.ensures.rows c.in_ok-platforms.ensures in
    none_stopped number c.requires.few plan c.requires.graph c.requires.admitted c.in_ok-platforms-2.field-0.platforms.items c.in_ok-platforms-2.field-0.fault
    (c.in_ok-platforms-2.ensures.outcome plan (of_run (made_graph number) (made_rows number)) ready)
