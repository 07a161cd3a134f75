use Rattle.std.proofs.Common.{◌∙◌}
use Rattle.pt_pool.proofs.facts.show_running.Goals as goal

pub returns-clause-on_time : goal.returns-clause-on_time
returns-clause-on_time c = λ none. c.fault.ensures.on_time (c.fault.ensures.fault ∙ none)
