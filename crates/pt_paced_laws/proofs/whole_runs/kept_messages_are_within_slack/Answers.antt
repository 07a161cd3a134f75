use Rattle.pt_paced_laws.proofs.Kept.{all_within_slack}
use Rattle.pt_paced_laws.proofs.whole_runs.kept_messages_are_within_slack.Goals as goal

pub returns : goal.returns
returns c = all_within_slack
