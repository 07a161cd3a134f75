use Rattle.pt_run.proofs.ReplaysAgreeing.{replay_calls_agree, replays_agree}
use Rattle.pt_run.proofs.laws.replays_agree.Goals as goal

pub returns-clause-replays : goal.returns-clause-replays
returns-clause-replays c = replays_agree

pub returns-clause-calls : goal.returns-clause-calls
returns-clause-calls c = replay_calls_agree
