use Rattle.pt_run.proofs.LawfulRuns.{finished_is_lawful, replay_writes_lawful, writes_lawful}
use Rattle.pt_run.proofs.laws.written_logs_are_lawful.Goals as goal

pub returns-clause-finished : goal.returns-clause-finished
returns-clause-finished c = finished_is_lawful

pub returns-clause-written : goal.returns-clause-written
returns-clause-written c = writes_lawful

pub returns-clause-replayed : goal.returns-clause-replayed
returns-clause-replayed c = replay_writes_lawful
