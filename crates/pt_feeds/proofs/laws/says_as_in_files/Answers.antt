use Rattle.pt_feeds.proofs.Same.{says_as_in_files}
use Rattle.pt_feeds.proofs.laws.says_as_in_files.Goals as goal

pub returns : goal.returns
returns c = says_as_in_files
