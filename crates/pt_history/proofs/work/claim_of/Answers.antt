use Rattle.pt_history.proofs.work.claim_of.Goals as goal

pub returns-then-is-clause-is : goal.returns-then-is-clause-is
returns-then-is-clause-is c = c.is.ensures.same c.if-is.true
