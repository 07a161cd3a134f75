use Rattle.pt_words.proofs.PresentAnswers.{no_present_answer_changes}
use Rattle.pt_words.proofs.laws.no_present_answer_changes.Goals as goal

pub returns : goal.returns
returns c = no_present_answer_changes
