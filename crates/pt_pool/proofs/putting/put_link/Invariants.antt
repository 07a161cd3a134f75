use Rattle.pt_pool.proofs.Puts.{PutsOn}
use Rattle.pt_pool.proofs.putting.put_link.Given as goal

abbrev pub invariant-loop-k : goal.invariant-loop-k
invariant-loop-k g l = PutsOn l.link l._k l.initial.platform l.platform l.initial.outlet l.outlet
