use Rattle.pt_run.proofs.SlackRuns.{slack_rounds_miss_nothing, slack_runs_miss_nothing}
use Rattle.pt_run.proofs.laws.slack_runs_miss_nothing.Goals as goal

pub returns-clause-rounds : goal.returns-clause-rounds
returns-clause-rounds c = slack_rounds_miss_nothing

pub returns-clause-runs : goal.returns-clause-runs
returns-clause-runs c = slack_runs_miss_nothing
