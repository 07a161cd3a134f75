use Rattle.pt_laws.proofs.Finish.{floor_on_time}
use Rattle.pt_laws.proofs.histories.floor_of_claims_in_time.Goals as goal

pub returns : goal.returns
returns c = floor_on_time
