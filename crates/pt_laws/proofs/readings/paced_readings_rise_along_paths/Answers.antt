use Rattle.pt_laws.proofs.Progress.{paced_along_paths}
use Rattle.pt_laws.proofs.readings.paced_readings_rise_along_paths.Goals as goal

pub returns : goal.returns
returns c = paced_along_paths
