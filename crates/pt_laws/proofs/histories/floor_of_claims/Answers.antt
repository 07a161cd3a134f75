use Rattle.pt_laws.proofs.FloorHolds.{floor_holds}
use Rattle.pt_laws.proofs.histories.floor_of_claims.Goals as goal

pub returns : goal.returns
returns c = floor_holds
