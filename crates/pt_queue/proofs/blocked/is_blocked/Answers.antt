use Rattle.pt_queue.proofs.blocked.is_blocked.Goals as goal

pub returns-in-None-clause-free : goal.returns-in-None-clause-free
returns-in-None-clause-free c = λ no. c.in-None.ensures

pub returns-in-Some-clause-held : goal.returns-in-Some-clause-held
returns-in-Some-clause-held c = λ yes. (c.in-Some.holder, c.in-Some.ensures)
