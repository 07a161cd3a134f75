use Rattle.std.proofs.Common.{sym}
use Rattle.std.proofs.lemmas.Bool.{false≢true}
use Rattle.pt_visits.proofs.visiting.visit.Goals as goal

pub visit_knowing-requires-clause-none : goal.visit_knowing-requires-clause-none
visit_knowing-requires-clause-none g c = λ e. absurd (false≢true (sym e))
