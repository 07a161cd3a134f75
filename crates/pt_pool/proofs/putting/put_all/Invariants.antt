use Rattle.pt_pool.proofs.Puts.{PutsTo}
use Rattle.pt_pool.proofs.putting.put_all.Given as goal

abbrev pub invariant-loop-k : goal.invariant-loop-k
invariant-loop-k g l = PutsTo l.k l.initial.platform l.platform l.initial.outlets l.outlets
